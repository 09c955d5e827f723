-- Where each of finitely many items has one before it among them, there is a cycle.
use Rattle.std.proofs.Common.{◌⊎◌, List, [], ◌∷◌, refl, subst, inl, inr, ⊎_elim}
use Rattle.effect_order.specs.Walk.{HasNoCycle}
use Rattle.effect_order.specs.Lists.{In}
use Rattle.effect_order.proofs.Walks.{Steps, no_cycle-steps}

-- a step, or two steps through x
abbrev Around : {E : Type 0} → (E → E → Type 0) → E → E → E → Type 0
Around R x a b = R a b ⊎ (R a x × R x b)

step : {E : Type 0} (R : E → E → Type 0) (x a b : E) → Around R x a b → Steps R a b
step R x a b (inl r) = (b, [], (r, refl))
step R x a b (inr r) = (x, b ∷ [], (r.0, (r.1, refl)))

around_has_none : {E : Type 0} (R : E → E → Type 0) (x : E) → HasNoCycle R → HasNoCycle (Around R x)
around_has_none R x = no_cycle-steps (Around R x) R (λ a b r. step R x a b r)

-- each member of the list has a member of it before it
abbrev pub IsStuck : {E : Type 0} → (E → E → Type 0) → List E → Type 0
IsStuck {E} R left = (y : E) → In y left → (e : E) × In e left × R e y

pub not_stuck : {E : Type 0} (R : E → E → Type 0) (x : E) (xs : List E) → HasNoCycle R → IsStuck R (x ∷ xs) → ⊥
not_stuck R x [] none stuck =
    let p = stuck x (inl refl) in
    none x x [] (subst (λ e. R e x) (⊎_elim (λ q. q) (λ q. absurd q) p.1) p.2, refl)
not_stuck {E} R x (z ∷ zs) none stuck = not_stuck (Around R x) z zs (around_has_none R x none) past
  where
    through : (y e : E) → R x y → In e (x ∷ z ∷ zs) → R e x → (u : E) × In u (z ∷ zs) × Around R x u y
    through y e r (inl q) h = absurd (none x x [] (subst (λ u. R u x) q h, refl))
    through y e r (inr q) h = (e, q, inr (h, r))

    among : (y e : E) → In e (x ∷ z ∷ zs) → R e y → (u : E) × In u (z ∷ zs) × Around R x u y
    among y e (inl q) h =
        let p = stuck x (inl refl) in
        through y p.0 (subst (λ u. R u y) q h) p.1 p.2
    among y e (inr q) h = (e, q, inl h)

    past : (y : E) → In y (z ∷ zs) → (u : E) × In u (z ∷ zs) × Around R x u y
    past y i = let p = stuck y (inr i) in among y p.0 p.1 p.2
