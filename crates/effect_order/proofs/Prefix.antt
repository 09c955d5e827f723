-- The own steps of a node among those taken are its first ones in the run.
use Rattle.std.proofs.Common.{◌≡◌, ◌⊎◌, ℕ, zero, suc, ◌<◌, List, [], ◌∷◌, cond, filter, refl, sym, ap, ap₂, ◌∙◌, subst, inl, inr, ⊎_elim, arith, Bool, true, false}
use Rattle.std.proofs.lemmas.Bool.{both_ways, cases_lt}
use Rattle.effect_order.specs.Lists.{In, Each, IsDistinct}
use Rattle.effect_order.specs.Greedy.{Closed}
use Rattle.effect_order.specs.Prefix.{OwnSteps, first_steps}
use Rattle.effect_order.proofs.Members.{each-in, each-map}

pub in_filter : {X : Type 0} (test : X → Bool) (past : List X) (x : X) → In x past → test x ≡ true → In x (filter test past)
in_filter test [] x i h = i
in_filter test (y ∷ past) x i h = by (test y) refl i (λ j. in_filter test past x j h)
  where
    by : (b : Bool) → test y ≡ b → (x ≡ y) ⊎ In x past → (In x past → In x (filter test past)) → In x (cond b (y ∷ filter test past) (filter test past))
    by true e (inl q) f = inl q
    by true e (inr j) f = inr (f j)
    by false e (inl q) f = absurd (both_ways (test y) e (subst (λ u. test u ≡ true) q h))
    by false e (inr j) f = f j

pub from_filter : {X : Type 0} (test : X → Bool) (past : List X) (x : X) → In x (filter test past) → In x past
from_filter test [] x i = i
from_filter test (y ∷ past) x i = by (test y) i (λ j. from_filter test past x j)
  where
    by : (b : Bool) → In x (cond b (y ∷ filter test past) (filter test past)) → (In x (filter test past) → In x past) → In x (y ∷ past)
    by true (inl q) f = inl q
    by true (inr j) f = inr (f j)
    by false j f = inr (f j)

pub narrower_closed : {X : Type 0} (before less : X → X → Bool) (all past : List X) → ((a b : X) → less a b ≡ true → before a b ≡ true) → Closed before all past → Closed less all past
narrower_closed before less all [] f c = tt
narrower_closed before less all (x ∷ past) f c = (each-map _ _ all (λ a g h. g (f a x h)) c.0, narrower_closed before less all past f c.1)

pub reaches : {X : Type 0} (own : ℕ → ℕ → X) (p n k : ℕ) → k < n → In (own p k) (first_steps own p n)
reaches own p zero k t = omega arith
reaches own p (suc n) k t = ⊎_elim (λ a. inr (reaches own p n k a)) (λ a. let e : k ≡ n = omega arith in inl (ap (own p) e)) (cases_lt k n)

module _ {X : Type 0} (is_own : ℕ → X → Bool) (step : X → ℕ) (own : ℕ → ℕ → X) (needs : X → X → Bool) (all : List X) (o : OwnSteps is_own step own needs all) where
  pub below : (p n k : ℕ) (x : X) → In x all → is_own p x ≡ true → step x ≡ k → In x (first_steps own p n) → k < n
  below p zero k x a h s i = absurd i
  below p (suc n) k x a h s (inl q) = omega (arith, o.its_step p n x a h (sym q))
  below p (suc n) k x a h s (inr i) = omega (arith, below p n k x a h s i)

  -- one more own step is the next one
  next : (p n : ℕ) (y : X) (past : List X) → In y all → is_own p y ≡ true → (In y past → ⊥) → Each (λ a. needs a y ≡ true → In a past) all → filter (is_own p) past ≡ first_steps own p n → step y ≡ n
  next p n y past a h new closed e = by (step y) refl
    where
      not_below : step y < n → ⊥
      not_below t = new (from_filter (is_own p) past y (subst (In y) (sym e) (subst (λ u. In u (first_steps own p n)) (o.is_it p y a h) (reaches own p n (step y) t))))

      by : (s : ℕ) → step y ≡ s → s ≡ n
      by zero q = ⊎_elim (λ t. absurd (not_below (omega arith))) (λ t. omega arith) (cases_lt zero n)
      by (suc k) q =
          let b = o.has_earlier p y k a h q in
          let i = in_filter (is_own p) past (own p k) (each-in (λ u. needs u y ≡ true → In u past) all (own p k) closed b.0 b.2) b.1 in
          let t = below p n k (own p k) b.0 b.1 (sym (o.its_step p k (own p k) b.0 b.1 refl)) (subst (In (own p k)) e i) in
          ⊎_elim (λ t. absurd (not_below (omega arith))) (λ u. omega arith) (cases_lt (suc k) n)

  pub own_prefix : (p : ℕ) (past : List X) → Each (λ x. In x all) past → IsDistinct past → Closed needs all past → (n : ℕ) × (filter (is_own p) past ≡ first_steps own p n)
  own_prefix p [] a d c = (0, refl)
  own_prefix p (y ∷ past) a d c = by (is_own p y) refl (own_prefix p past a.1 d.1 c.1)
    where
      fresh : (zs : List X) → Each (λ b. y ≡ b → ⊥) zs → In y zs → ⊥
      fresh [] e i = i
      fresh (z ∷ zs) e (inl q) = e.0 q
      fresh (z ∷ zs) e (inr i) = fresh zs e.1 i

      by : (b : Bool) → is_own p y ≡ b → (n : ℕ) × (filter (is_own p) past ≡ first_steps own p n) → (n : ℕ) × (cond b (y ∷ filter (is_own p) past) (filter (is_own p) past) ≡ first_steps own p n)
      by false e r = r
      by true e r =
          let s = next p r.0 y past a.0 e (fresh past d.0) c.0 r.1 in
          let y_is : y ≡ own p r.0 = sym (o.is_it p y a.0 e) ∙ ap (own p) s in
          (suc r.0, ap₂ (λ u us. u ∷ us) y_is r.1)
