use Rattle.std.proofs.Common.{arith, subst, sym, ◌+◌}
use Rattle.std.proofs.lemmas.Bool.{both_ways}
use Rattle.delay_sets.proofs.Paths.{SteppedBelow, stepped_joined, stepped_left, stepped_all}
use Rattle.delay_sets.proofs.relations.step.Goals.{then-get, else-get}
use Rattle.delay_sets.proofs.relations.step.Goals as goal

pub loop-row-preserved : goal.loop-row-preserved
loop-row-preserved c =
    elim c.if-get.branch [
      | then-get w ↦ subst (SteppedBelow c.args.inner (c.loop-row.row + 1) c.args.rows.now) (sym w.rows-is)
          (stepped_joined c.args.inner c.loop-row.row c.args.rows.now c.loop-row.rows _ c.loop-row.invariant (c.get.ensures.0 w.if-get.true) w.join.ensures.joined)
      | else-get w ↦ subst (SteppedBelow c.args.inner (c.loop-row.row + 1) c.args.rows.now) (sym w.rows-is)
          (stepped_left c.args.inner c.loop-row.row c.args.rows.now c.loop-row.rows c.loop-row.invariant (λ s. both_ways _ w.if-get.false (c.get.ensures.1 s)))
    ]

pub returns : goal.returns
returns c =
    let stop = c.loop-row-test.false in
    let within = c.loop-row.auto.row-end in
    stepped_all c.args.inner c.loop-row.row c.args.rows.now c.loop-row.rows c.rows-row-end.ensures.in_order
    (omega (arith, stop, within, c.rows-row-end.ensures.rows)) c.loop-row.invariant
