-- What is in lists that are made by tests and by joining.
use Rattle.std.proofs.Common.{◌≡◌, ℕ, zero, suc, ◌<◌, List, [], ◌∷◌, ◌++◌, map, Bool, true, false, refl, ap, subst, inl, inr, ⊎_elim, arith}
use Rattle.std.specs.Prelude.{if◌then◌else◌}
use Rattle.std.proofs.lemmas.Bool.{cases_lt}
use Rattle.effect_order.specs.Lists.{In}
use Rattle.effect_order.proofs.Members.{in-either}
use Rattle.sc_isa.specs.declared.journal.Entry.{Entry}
use Rattle.fabric.specs.Asked.{Machine}
use Rattle.run_moves.specs.Moves.{step_of, steps_below}

pub in_left : {X : Type 0} (a : X) (xs ys : List X) → In a xs → In a (xs ++ ys)
in_left a [] ys i = absurd i
in_left a (x ∷ xs) ys (inl e) = inl e
in_left a (x ∷ xs) ys (inr i) = inr (in_left a xs ys i)

pub in_right : {X : Type 0} (a : X) (xs ys : List X) → In a ys → In a (xs ++ ys)
in_right a [] ys i = i
in_right a (x ∷ xs) ys i = inr (in_right a xs ys i)

pub in_map : {X Y : Type 0} (f : X → Y) (x : X) (xs : List X) → In x xs → In (f x) (map f xs)
in_map f x [] i = absurd i
in_map f x (y ∷ ys) (inl e) = inl (ap f e)
in_map f x (y ∷ ys) (inr i) = inr (in_map f x ys i)

pub map_in : {X Y : Type 0} (f : X → Y) (y : Y) (xs : List X) → In y (map f xs) → (x : X) × In x xs × (y ≡ f x)
map_in f y [] i = absurd i
map_in f y (x ∷ xs) (inl e) = (x, inl refl, e)
map_in f y (x ∷ xs) (inr i) = let r = map_in f y xs i in (r.0, inr r.1, r.2)

-- one member, where a test holds
pub in_if : {X : Type 0} (b : Bool) (x a : X) → In a (if b then x ∷ [] else []) → (b ≡ true) × (a ≡ x)
in_if true x a (inl e) = (refl, e)
in_if true x a (inr i) = absurd i
in_if false x a i = absurd i

pub if_in : {X : Type 0} (b : Bool) (x : X) → b ≡ true → In x (if b then x ∷ [] else [])
if_in true x e = inl refl
if_in false x e = absurd cc

pub in_steps : (machine : Machine) (past : List Entry) (n : ℕ) (a : Entry) → In a (steps_below machine past n) → (node : ℕ) × (node < n) × In a (step_of machine past node)
in_steps machine past zero a i = absurd i
in_steps machine past (suc n) a i =
    ⊎_elim
    (λ l. let r = in_steps machine past n a l in (r.0, (let b = r.1 in omega arith), r.2))
    (λ r. (n, omega arith, r))
    (in-either (steps_below machine past n) (step_of machine past n) a i)

pub steps_in : (machine : Machine) (past : List Entry) (n node : ℕ) (a : Entry) → node < n → In a (step_of machine past node) → In a (steps_below machine past n)
steps_in machine past zero node a lt i = absurd (omega arith)
steps_in machine past (suc n) node a lt i =
    ⊎_elim
    (λ l. in_left a (steps_below machine past n) (step_of machine past n) (steps_in machine past n node a l i))
    (λ r. let e : node ≡ n = omega arith in in_right a (steps_below machine past n) (step_of machine past n) (subst (λ k. In a (step_of machine past k)) e i))
    (cases_lt node n)
