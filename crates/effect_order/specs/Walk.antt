-- Walks by the steps of a relation, and relations without cycles.
use Rattle.std.specs.Prelude.{◌≡◌, List, [], ◌∷◌}

-- steps of a relation from x through the members of a list, the last of which is y
abbrev pub Walk : {E : Type 0} → (E → E → Type 0) → E → List E → E → Type 0
Walk R x [] y = x ≡ y
Walk R x (z ∷ zs) y = R x z × Walk R z zs y

-- no walk of one or more steps leads back to where it began
abbrev pub HasNoCycle : {E : Type 0} → (E → E → Type 0) → Type 0
HasNoCycle {E} R = (x z : E) (zs : List E) → Walk R x (z ∷ zs) x → ⊥
