use Rattle.std.proofs.Common.{arith}
use Rattle.delay_sets.proofs.Paths.{closed_none, closed_more, closed_all}
use Rattle.delay_sets.proofs.relations.close.Goals as goal

pub loop-inner-init : goal.loop-inner-init
loop-inner-init c = closed_none c.args.rows.now

pub loop-inner-preserved : goal.loop-inner-preserved
loop-inner-preserved c =
    closed_more c.args.rows.now c.loop-inner.rows c.step.new.rows c.loop-inner.inner c.loop-inner.invariant c.step.ensures

pub returns : goal.returns
returns c =
    let stop = c.loop-inner-test.false in
    closed_all c.args.rows.now c.loop-inner.rows c.loop-inner.inner
    (λ r d s. let row = (c.rows-inner-end.ensures.in_order.within r d s).0 in omega (arith, row, stop, c.rows-inner-end.ensures.rows)) c.loop-inner.invariant
