use Rattle.std.proofs.Common.{◌+◌, ◌∙◌, sym, subst, arith}
use Rattle.std.proofs.lemmas.Bool.{both_ways}
use Rattle.sync_place.proofs.Waits.{AreNumbers, Waited, number_in, number_out, wait_row}
use Rattle.sync_place.proofs.waiting.waits_at.Goals as goal
use Rattle.sync_place.proofs.waiting.waits_at.Goals.{then-get+then-not-marks-number+in-Ok, else-get, else-get-via-then-get+else-not-marks-number, else-get-via-else-get}

pub loop-number-preserved : goal.loop-number-preserved
loop-number-preserved c =
    elim c.if-get.branch [
      | then-get+then-not-marks-number+in-Ok w ↦
          number_in (Waited c.args.first.now c.args.marks.now c.args.at) c.loop-number.number c.loop-number.row c.if-get.row
          (c.get.ensures.0 w.if-get.true, w.if-not-marks-number.true) (w.row-is ∙ w.in-Ok.ensures.ok) c.loop-number.invariant
      | else-get w ↦
          subst (AreNumbers (Waited c.args.first.now c.args.marks.now c.args.at) (c.loop-number.number + 1)) (sym w.row-is)
          (number_out (Waited c.args.first.now c.args.marks.now c.args.at) c.loop-number.number c.loop-number.row
          (λ p. elim w.else-get.branch [
            | else-get-via-then-get+else-not-marks-number v ↦ both_ways _ p.1 v.if-not-marks-number.false
            | else-get-via-else-get v ↦ both_ways _ v.if-get.false (c.get.ensures.1 p.0)
          ])
          c.loop-number.invariant)
    ]

pub returns : goal.returns
returns c =
    let high = c.loop-number.auto.number-end in
    let low = c.loop-number-test.false in
    wait_row c.args.first.now c.args.marks.now c.args.at c.loop-number.number c.loop-number.row (omega (arith, low, c.rows-number-end.ensures))
    (omega (arith, high, c.rows-number-end.ensures)) c.loop-number.invariant
