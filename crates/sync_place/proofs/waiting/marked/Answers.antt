use Rattle.std.proofs.Common.{◌≡◌, ◌+◌, ◌∙◌, get_or, true, false, sym, subst}
use Rattle.std.proofs.lemmas.Bool.{both_ways}
use Rattle.sync_place.proofs.Waits.{AreNumbers, number_in, number_out, marked_row}
use Rattle.sync_place.proofs.waiting.marked.Goals as goal
use Rattle.sync_place.proofs.waiting.marked.Goals.{then-mark+in-Ok, else-mark}

pub loop-number-preserved : goal.loop-number-preserved
loop-number-preserved c =
    elim c.if-mark.branch [
      | then-mark+in-Ok w ↦
          number_in (λ s. get_or c.args.marks.now s false ≡ true) c.loop-number.number c.loop-number.all c.if-mark.all w.if-mark.true (w.all-is ∙ w.in-Ok.ensures.ok) c.loop-number.invariant
      | else-mark w ↦
          subst (AreNumbers (λ s. get_or c.args.marks.now s false ≡ true) (c.loop-number.number + 1)) (sym w.all-is)
          (number_out (λ s. get_or c.args.marks.now s false ≡ true) c.loop-number.number c.loop-number.all (λ t. both_ways _ w.if-mark.false t) c.loop-number.invariant)
    ]

pub returns : goal.returns
returns c = marked_row c.args.marks.now c.loop-number.number c.loop-number.all c.loop-number-test.false c.loop-number.auto.number-end c.loop-number.invariant
