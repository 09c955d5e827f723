-- Words on the members of a list that proofs compute through.
use Rattle.std.specs.Prelude.{◌≡◌, ◌⊎◌, List, [], ◌∷◌, Bool, false, ◌||◌}

-- the item is a member
abbrev pub In : {X : Type 0} → X → List X → Type 0
In y [] = ⊥
In y (x ∷ xs) = (y ≡ x) ⊎ In y xs

-- each member has P
abbrev pub Each : {X : Type 0} → (X → Type 0) → List X → Type 0
Each P [] = Unit {0}
Each P (x ∷ xs) = P x × Each P xs

-- each two members, the earlier first, have R
abbrev pub Pairs : {X : Type 0} → (X → X → Type 0) → List X → Type 0
Pairs R [] = Unit {0}
Pairs R (x ∷ xs) = Each (R x) xs × Pairs R xs

-- no item stands twice
abbrev pub IsDistinct : {X : Type 0} → List X → Type 0
IsDistinct xs = Pairs (λ a b. a ≡ b → ⊥) xs

-- some member has to come before x
abbrev pub is_held : {X : Type 0} → (X → X → Bool) → X → List X → Bool
is_held before x [] = false
is_held before x (a ∷ rest) = before a x || is_held before x rest
