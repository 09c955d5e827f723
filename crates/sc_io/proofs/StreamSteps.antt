-- Bytes put in two steps, and counts that rise in two steps.
use Rattle.std.proofs.Common.{ℕ, ◌≤◌, List, [], ◌++◌, Option, Some, None, sym, ap, ◌∙◌, append_assoc, append-nil, arith}
use Rattle.sc_io.specs.Streams.{Gains, Rose}

pub Gains-nil : (a : Option (List ℕ)) → Gains a a []
Gains-nil None = tt
Gains-nil (Some xs) = sym (append-nil xs)

pub Gains-trans : (a b c : Option (List ℕ)) (xs ys : List ℕ) → Gains a b xs → Gains b c ys → Gains a c (xs ++ ys)
Gains-trans a b None xs ys p q = tt
Gains-trans None None (Some cs) xs ys p q = absurd q
Gains-trans None (Some bs) (Some cs) xs ys p q = absurd p
Gains-trans (Some as') None (Some cs) xs ys p q = absurd q
Gains-trans (Some as') (Some bs) (Some cs) xs ys p q = q ∙ ap (λ l. l ++ ys) p ∙ append_assoc as' xs ys

pub Rose-after : (a b c : ℕ) → a ≤ b → Rose b c → Rose a c
Rose-after a b c p q = grind arith

pub Rose-before : (a b c : ℕ) → Rose a b → b ≤ c → Rose a c
Rose-before a b c p q = grind arith
