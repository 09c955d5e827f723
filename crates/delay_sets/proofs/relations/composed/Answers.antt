use Rattle.std.proofs.Common.{arith}
use Rattle.delay_sets.proofs.Composing.{composed_more, composed_all}
use Rattle.delay_sets.proofs.relations.composed.Goals as goal

pub loop-row-preserved : goal.loop-row-preserved
loop-row-preserved c =
    composed_more c.args.first.now c.args.second.now c.loop-row.rows c.compose_row.new.rows c.loop-row.row c.compose_row.ensures.in_order (omega (arith, c.loop-row-test.true, c.rows-row-end.ensures.rows)) c.loop-row.invariant
    c.compose_row.ensures.joined

pub returns : goal.returns
returns c =
    composed_all c.args.first.now c.args.second.now c.loop-row.rows c.loop-row.row (omega (arith, c.loop-row-test.false, c.rows-row-end.ensures.rows)) c.loop-row.invariant
