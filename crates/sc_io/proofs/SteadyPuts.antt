-- Two puts to a steady sink leave what one put of all their bytes leaves: it keeps the first bytes of all that was put.
use Rattle.std.proofs.Common.{◌≡◌, ℕ, ◌+◌, ◌≤◌, List, ◌++◌, length, take, ◌||◌, nat_lt, ap, ◌∙◌, arith, append_assoc, length-append, length-take}
use Rattle.std.proofs.lemmas.List.{take-append-le, take-take}
use Rattle.std.proofs.lemmas.Grind.{common_steps}
use Rattle.sc_io.specs.SteadyState.{SteadyState}
use Rattle.sc_io.specs.Steady.{after_all}

front_of_fronts : (n : ℕ) (xs ys : List ℕ) → take n (take n xs ++ ys) ≡ take n (xs ++ ys)
front_of_fronts n xs ys = grind (arith, common_steps, take-append-le {A = ℕ}, length-take {A = ℕ}, take-take {A = ℕ})

pub after_all-append : (s : SteadyState) (xs ys : List ℕ) → length s.kept ≤ s.room → after_all (after_all s xs) ys ≡ after_all s (xs ++ ys)
after_all-append s xs ys h =
    let kept : take s.room (take s.room (s.kept ++ xs) ++ ys) ≡ take s.room (s.kept ++ (xs ++ ys)) = front_of_fronts s.room (s.kept ++ xs) ys ∙ ap (take s.room) (append_assoc s.kept xs ys) in
    let over : ((s.over || nat_lt s.room (length s.kept + length xs)) || nat_lt s.room (length (take s.room (s.kept ++ xs)) + length ys)) ≡ (s.over || nat_lt s.room (length s.kept + length (xs ++ ys))) =
    grind (arith, length-append {A = ℕ}, length-take {A = ℕ}) in
    cc
