use Rattle.std.proofs.Common.{arith, subst, sym, ◌+◌}
use Rattle.std.proofs.lemmas.Bool.{both_ways}
use Rattle.delay_sets.proofs.Composing.{RowBelow, row_joined, row_left, row_all}
use Rattle.delay_sets.proofs.relations.compose_row.Goals.{then-get, else-get}
use Rattle.delay_sets.proofs.relations.compose_row.Goals as goal

pub loop-inner-preserved : goal.loop-inner-preserved
loop-inner-preserved c =
    elim c.if-get.branch [
      | then-get w ↦ subst (RowBelow c.args.row c.args.first.now c.args.second.now (c.loop-inner.inner + 1) c.args.rows.now) (sym w.rows-is)
          (row_joined c.args.row c.loop-inner.inner c.args.first.now c.args.second.now c.args.rows.now c.loop-inner.rows _ c.loop-inner.invariant
          (c.get.ensures.0 w.if-get.true) w.add_common.ensures)
      | else-get w ↦ subst (RowBelow c.args.row c.args.first.now c.args.second.now (c.loop-inner.inner + 1) c.args.rows.now) (sym w.rows-is)
          (row_left c.args.row c.loop-inner.inner c.args.first.now c.args.second.now c.args.rows.now c.loop-inner.rows c.loop-inner.invariant
          (λ s. both_ways _ w.if-get.false (c.get.ensures.1 s)))
    ]

pub returns-clause-joined : goal.returns-clause-joined
returns-clause-joined c =
    let stop = c.loop-inner-test.false in
    let within = c.loop-inner.auto.inner-end in
    row_all c.args.row c.loop-inner.inner c.args.first.now c.args.second.now c.args.rows.now c.loop-inner.rows c.rows-inner-end.ensures.in_order
    (omega (arith, stop, within, c.rows-inner-end.ensures.rows)) c.loop-inner.invariant
