-- The front that a limited list keeps, and what is left where no byte was given.
use Rattle.std.proofs.Common.{◌≡◌, ℕ, ◌+◌, List, ◌++◌, length, take, Option, Some, None, sym, ap, ◌∙◌}
use Rattle.std.proofs.Math.Seq.{take-append-add}
use Rattle.std.specs.Io.KnownBytes.{Keeps, Consumes}

-- a list filled up to its limit is the front of the whole
pub kept_front : (xs ys : List ℕ) (room n : ℕ) → length xs + n ≡ room → xs ++ take n ys ≡ take room (xs ++ ys)
kept_front xs ys room n e = sym (take-append-add xs ys n) ∙ ap (λ k. take k (xs ++ ys)) e

-- known bytes that lose none stay as they were
pub none_given : (a b : Option (List ℕ)) (xs : List ℕ) (n : ℕ) → n ≡ 0 → Consumes a b (take n xs) → Keeps a b
none_given None b xs n e p = tt
none_given (Some old) None xs n e p = absurd p
none_given (Some old) (Some new) xs n e p = sym (p ∙ ap (λ k. take k xs ++ new) e)
