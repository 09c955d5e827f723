-- Tests of numbers.
use Rattle.std.proofs.Common.{◌≡◌, ℕ, ◌<◌, ◌≤◌, Bool, true, false, refl, ⊎_elim, sym, ◌∙◌, arith}
use Rattle.std.specs.Prelude.{nat_le, nat_lt, if◌then◌else◌}
use Rattle.std.proofs.lemmas.Bool.{lt-ltb, ltb-true}
use Rattle.std.proofs.lemmas.Bool.Decides.{leb_tells}

pub le_is : (a b : ℕ) → nat_le a b ≡ true → a ≤ b
le_is a b h = ⊎_elim (λ t. t.1) (λ f. let c : true ≡ false = sym h ∙ f.0 in absurd cc) (leb_tells a b)

pub le_from : (a b : ℕ) → a ≤ b → nat_le a b ≡ true
le_from a b h = ⊎_elim (λ t. t.0) (λ f. let g = f.1 in absurd (omega arith)) (leb_tells a b)

pub lt_is : (a b : ℕ) → nat_lt a b ≡ true → a < b
lt_is a b h = ltb-true a b h

pub lt_from : (a b : ℕ) → a < b → nat_lt a b ≡ true
lt_from a b h = lt-ltb a b h

pub if_true : {A : Type 0} (b : Bool) (x y : A) → b ≡ true → (if b then x else y) ≡ x
if_true true x y h = refl
if_true false x y h = absurd cc

pub if_false : {A : Type 0} (b : Bool) (x y : A) → b ≡ false → (if b then x else y) ≡ y
if_false true x y h = absurd cc
if_false false x y h = refl
