-- Walks of any relation: joined, cut at their last step, and searched.
use Rattle.std.proofs.Common.{◌≡◌, ◌⊎◌, ℕ, suc, ◌+◌, ◌<◌, ◌≤◌, List, [], ◌∷◌, ◌++◌, length, refl, sym, ap, subst, inl, inr, ⊎_elim, arith}
use Rattle.effect_order.specs.Walk.{Walk, HasNoCycle}

pub walk-append : {E : Type 0} (R : E → E → Type 0) (us vs : List E) (x y z : E) → Walk R x us y → Walk R y vs z → Walk R x (us ++ vs) z
walk-append R [] vs x y z p q = subst (λ u. Walk R u vs z) (sym p) q
walk-append R (a ∷ us) vs x y z p q = (p.0, walk-append R us vs a y z p.1 q)

-- the last step of a walk
pub record Cut {E : Type 0} (R : E → E → Type 0) (x : E) (n : ℕ) (y : E) : Type 0 where
  pub points : List E
  pub at : E
  pub front : Walk R x points at
  pub last : R at y
  pub size : length points ≡ n

pub walk-cut : {E : Type 0} (R : E → E → Type 0) (zs : List E) (x z y : E) → Walk R x (z ∷ zs) y → Cut R x (length zs) y
walk-cut R [] x z y p = record { points = []; at = x; front = refl; last = subst (R x) p.1 p.0; size = refl }
walk-cut R (w ∷ ws) x z y p =
    let c = walk-cut R ws z w y p.1 in
    record { points = z ∷ c.points; at = c.at; front = (p.0, c.front); last = c.last; size = ap suc c.size }

-- a step of a walk for which P holds, with the walks before and after it
pub record Found {E : Type 0} (R P : E → E → Type 0) (x : E) (n : ℕ) (y : E) : Type 0 where
  pub before : List E
  pub after : List E
  pub from : E
  pub to : E
  pub to_it : Walk R x before from
  pub step : P from to
  pub from_it : Walk R to after y
  pub size : suc (length before + length after) ≡ n

-- where each step has P or goes forward, some step has P or the whole walk goes forward
pub walk-find : {E : Type 0} (R P : E → E → Type 0) (time : E → ℕ) → ((e f : E) → R e f → P e f ⊎ (time e < time f)) → (zs : List E) (x y : E) → Walk R x zs y → Found R P x (length zs) y ⊎ (time x + length zs ≤ time y)
walk-find R P time choose [] x y p = inr (omega (arith, ap time p))
walk-find R P time choose (z ∷ zs) x y p =
    ⊎_elim
    (λ h. inl (record { before = []; after = zs; from = x; to = z; to_it = refl; step = h; from_it = p.1; size = omega arith }))
    (λ h.
    ⊎_elim
    (λ (k : Found R P z (length zs) y). inl (record { before = z ∷ k.before; after = k.after; from = k.from; to = k.to; to_it = (p.0, k.to_it); step = k.step; from_it = k.from_it; size = omega (arith, k.size) }))
    (λ k. inr (omega arith))
    (walk-find R P time choose zs z y p.1))
    (choose x z p.0)

-- each step of a walk becomes one of another relation, or some step has P
pub walk-turn : {E : Type 0} (R P Q : E → E → Type 0) → ((e f : E) → R e f → P e f ⊎ Q e f) → (zs : List E) (x y : E) → Walk R x zs y → Found R P x (length zs) y ⊎ Walk Q x zs y
walk-turn R P Q choose [] x y p = inr p
walk-turn R P Q choose (z ∷ zs) x y p =
    ⊎_elim
    (λ h. inl (record { before = []; after = zs; from = x; to = z; to_it = refl; step = h; from_it = p.1; size = omega arith }))
    (λ h.
    ⊎_elim
    (λ (k : Found R P z (length zs) y). inl (record { before = z ∷ k.before; after = k.after; from = k.from; to = k.to; to_it = (p.0, k.to_it); step = k.step; from_it = k.from_it; size = omega (arith, k.size) }))
    (λ k. inr (h, k))
    (walk-turn R P Q choose zs z y p.1))
    (choose x z p.0)

pub walk-map : {E : Type 0} (R Q : E → E → Type 0) → ((e f : E) → R e f → Q e f) → (zs : List E) (x y : E) → Walk R x zs y → Walk Q x zs y
walk-map R Q turn [] x y p = p
walk-map R Q turn (z ∷ zs) x y p = (turn x z p.0, walk-map R Q turn zs z y p.1)

pub no_cycle-map : {E : Type 0} (R Q : E → E → Type 0) → ((e f : E) → R e f → Q e f) → HasNoCycle Q → HasNoCycle R
no_cycle-map R Q turn none x z zs w = none x z zs (walk-map R Q turn (z ∷ zs) x x w)

-- one step or more
abbrev pub Steps : {E : Type 0} → (E → E → Type 0) → E → E → Type 0
Steps {E} R x y = (z : E) × (zs : List E) × Walk R x (z ∷ zs) y

-- each step of a walk becomes one step or more of another relation
pub walk-steps : {E : Type 0} (R Q : E → E → Type 0) → ((e f : E) → R e f → Steps Q e f) → (zs : List E) (x y : E) → Walk R x zs y → (ws : List E) × Walk Q x ws y
walk-steps R Q turn [] x y p = ([], p)
walk-steps R Q turn (z ∷ zs) x y p =
    let one = turn x z p.0 in
    let rest = walk-steps R Q turn zs z y p.1 in
    ((one.0 ∷ one.1) ++ rest.0, walk-append Q (one.0 ∷ one.1) rest.0 x z y one.2 rest.1)

pub no_cycle-steps : {E : Type 0} (R Q : E → E → Type 0) → ((e f : E) → R e f → Steps Q e f) → HasNoCycle Q → HasNoCycle R
no_cycle-steps R Q turn none x z zs w =
    let one = turn x z w.0 in
    let rest = walk-steps R Q turn zs z x w.1 in
    none x one.0 (one.1 ++ rest.0) (walk-append Q (one.0 ∷ one.1) rest.0 x z x one.2 rest.1)
