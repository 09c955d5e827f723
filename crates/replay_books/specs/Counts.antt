-- How many elements of a list pass a test.
use Rattle.std.specs.Prelude.{ℕ, ◌+◌, ◌<◌, List, [], ◌∷◌, Bool, if◌then◌else◌}

abbrev pub one_if : Bool → ℕ
one_if b = if b then 1 else 0

abbrev pub how_many : {A : Type 0} → (A → Bool) → List A → ℕ
how_many test [] = 0
how_many test (x ∷ xs) = one_if (test x) + how_many test xs

-- each of the numbers is below the bound
abbrev pub AllBelow : (bound : ℕ) → List ℕ → Type 0
AllBelow bound [] = Unit {0}
AllBelow bound (n ∷ more) = (n < bound) × AllBelow bound more
