-- Barriers by counting: what a release and the passing of a barrier say of the own steps around them.
use Rattle.std.proofs.Common.{◌≡◌, ℕ, zero, suc, ◌+◌, ◌-◌, ◌<◌, ◌≤◌, sym, ap, ◌∙◌, subst, ⊎_elim, arith, Bool, true, false, cond}
use Rattle.std.proofs.lemmas.Bool.{both_ways, cases_Bool, cases_lt, cases_order, cond-true, cond-false, false_from_ne_true}
use Rattle.effect_order.specs.Levels.{count}
use Rattle.effect_order.specs.Run.{Run}
use Rattle.effect_order.specs.RunFacts.{Timed}
use Rattle.effect_order.specs.Plan.{Code, Placed, Walked, Counted, ReleaseAfterArrival, ArrivalBeforeRelease}
use Rattle.effect_order.proofs.Levels.{count_grows, found}

pub more : (test : ℕ → Bool) (t : ℕ) → test t ≡ true → count test (suc t) ≡ suc (count test t)
more test t h = let e : cond {A = ℕ} (test t) 1 0 ≡ 1 = cond-true (test t) 1 0 h in omega arith

as_many : (test : ℕ → Bool) (t : ℕ) → test t ≡ false → count test (suc t) ≡ count test t
as_many test t h = let e : cond {A = ℕ} (test t) 1 0 ≡ 0 = cond-false (test t) 1 0 h in omega arith

between : (test : ℕ → Bool) (a b : ℕ) → count test a < count test b → (m : ℕ) × (test m ≡ true) × (a ≤ m) × (m < b)
between test a b t =
    let order : a ≤ b = ⊎_elim (λ (x : b < a). absurd (omega (arith, count_grows test b a (omega arith)))) (λ x. x) (cases_lt b a) in
    let e : (b - a) + a ≡ b = omega arith in
    let p = found test a (b - a) (subst (λ u. count test a < count test u) (sym e) t) in
    (p.0, p.1, p.2, omega (arith, p.3))

module _ {E S : Type 0} (r : Run E S) (c : Code r) (q : Timed r) (w : Walked r c) (k : Counted r c) where
  pub passed : (p t : ℕ) → count (c.passes p) t ≤ count r.releases t
  passed p zero = omega arith
  passed p (suc t) =
      let up = count_grows r.releases t (suc t) (omega arith) in
      ⊎_elim
      (λ h. omega (arith, k.pass_after p t h, more (c.passes p) t h))
      (λ h. omega (arith, passed p t, as_many (c.passes p) t h))
      (cases_Bool (c.passes p t))

  arrived : (p t : ℕ) → p < c.nodes → count r.releases t ≤ count (c.arrives p) t
  arrived p zero s = omega arith
  arrived p (suc t) s =
      let up = count_grows (c.arrives p) t (suc t) (omega arith) in
      ⊎_elim
      (λ h. omega (arith, k.release_after p t s h, more r.releases t h))
      (λ h. omega (arith, arrived p t s, as_many r.releases t h))
      (cases_Bool (r.releases t))

  -- no release happens at an arrival
  arrival_alone : (p t : ℕ) → c.arrives p t ≡ true → r.releases t ≡ false
  arrival_alone p t h = false_from_ne_true _ (λ g.
      let a = k.moment_arrival p t h in
      let m = q.moment_release t g in
      (k.alone m.0 a.0 m.1 m.2 a.1).1 (m.3 ∙ sym a.4))

  opens_by : (p a f : ℕ) → p < c.nodes → c.arrives p a ≡ true → c.issues p f ≡ true → a < f → (m : ℕ) × (r.releases m ≡ true) × (suc a ≤ m) × (m < f)
  opens_by p a f s h g t =
      between r.releases (suc a) f (omega (arith, k.issue_after p f g, passed p f, more (c.arrives p) a h, count_grows (c.arrives p) (suc a) f t, arrived p a s, as_many r.releases a (arrival_alone p a h)))

  gathers_by : (p e m : ℕ) → p < c.nodes → c.issues p e ≡ true → r.releases m ≡ true → e < m → (a : ℕ) × (c.arrives p a ≡ true) × (e ≤ a) × (a < m)
  gathers_by p e m s g h t =
      between (c.arrives p) e m (omega (arith, k.issue_after p e g, passed p e, k.release_after p m s h, count_grows r.releases e m (omega arith)))

  -- between an arrival and a later own step of the node lies a release
  pub opens : ReleaseAfterArrival r c
  opens a f ma mf h n t =
      let before = q.in_order a f (ma.0, ma.1) (mf.0, mf.1) n t in
      let arrival = subst (λ p. c.arrives p (r.issue a) ≡ true) n (k.arrival_moment a ma h) in
      let p = opens_by (r.node f) (r.issue a) (r.issue f) (k.node_within f mf) arrival (k.placed_issues f mf) before in
      let m = q.moment_release p.0 p.1 in
      (m.0, m.1, m.2, omega (arith, m.3, p.2), omega (arith, m.3, p.3))

  -- between an effect's own step and a later release lies an arrival of the node
  pub gathers : ArrivalBeforeRelease r c
  gathers m e mm km me be t =
      let p = gathers_by (r.node e) (r.issue e) (r.time m) (k.node_within e me) (k.placed_issues e me) (q.release_moment m mm km) t in
      let a = k.moment_arrival (r.node e) p.0 p.1 in
      (a.0, a.1, a.2, a.3, later a.0 a.1 a.2 a.3 (omega (arith, a.4, p.2)), omega (arith, a.4, p.3))
    where
      same_step : (a : E) → Placed r c a → c.is_arrival a ≡ true → r.node a ≡ r.node e → r.step e ≡ r.step a → ⊥
      same_step a ma h n s =
          let at = w.same_at e a me ma (sym n) s in
          let here : r.point e ≡ r.point a = sym (w.on_way e me) ∙ ap (λ u. c.way (r.node e) u) at ∙ ap (λ u. c.way u (c.at a)) (sym n) ∙ w.on_way a ma in
          both_ways _ (w.effect_no_barrier e me be) (subst (λ u. r.flow.is_barrier u ≡ true) (sym here) (w.arrival_barrier a ma h))

      later : (a : E) → Placed r c a → c.is_arrival a ≡ true → r.node a ≡ r.node e → r.issue e ≤ r.issue a → r.step e < r.step a
      later a ma h n i =
          ⊎_elim
          (λ s. absurd (same_step a ma h n s))
          (λ o. ⊎_elim (λ s. s) (λ s. absurd (omega (arith, i, q.in_order a e (ma.0, ma.1) (me.0, me.1) n s))) o)
          (cases_order (r.step e) (r.step a))
