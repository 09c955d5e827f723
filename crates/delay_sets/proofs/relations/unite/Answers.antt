use Rattle.std.proofs.Common.{arith}
use Rattle.delay_sets.proofs.Composing.{united_more, united_all}
use Rattle.delay_sets.proofs.relations.unite.Goals as goal

pub loop-row-preserved : goal.loop-row-preserved
loop-row-preserved c =
    united_more c.loop-row.row c.args.rows.now c.args.more.now c.loop-row.rows c.add_common.new.self c.loop-row.invariant c.add_common.ensures

pub returns-clause-united : goal.returns-clause-united
returns-clause-united c =
    let stop = c.loop-row-test.false in
    let within = c.loop-row.auto.row-end in
    united_all c.loop-row.row c.args.rows.now c.args.more.now c.loop-row.rows c.rows-row-end.ensures.in_order
    (omega (arith, stop, within, c.rows-row-end.ensures.rows)) c.loop-row.invariant
