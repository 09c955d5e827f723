-- A walk from a site to a point that demands it passes a first demand, where the code waits.
use Rattle.std.proofs.Common.{◌≡◌, ℕ, zero, suc, ◌+◌, ◌-◌, ◌<◌, ◌≤◌, List, [], ◌∷◌, ◌++◌, sym, ap, ◌∙◌, subst, ⊎_elim, arith, true, false}
use Rattle.std.proofs.lemmas.Bool.{cases_Bool, cases_lt, both_ways, false_from_ne_true}
use Rattle.effect_order.specs.Flow.{PathBy, LeadsBy, Path, Clear, Delay}
use Rattle.effect_order.specs.Run.{Run, level}
use Rattle.effect_order.specs.RunFacts.{Timed}
use Rattle.effect_order.specs.Plan.{First, Code, FirstAt, Placed, CodeFacts}
use Rattle.effect_order.proofs.Levels as Levels
use Rattle.effect_order.proofs.Counts as Counts

path-snoc : {S : Type 0} (Goes : S → S → Type 0) (P : S → Type 0) (zs : List S) (a b d : S) → PathBy Goes P a zs b → P b → Goes b d → PathBy Goes P a (zs ++ b ∷ []) d
path-snoc Goes P [] a b d p h g = (p, h, g)
path-snoc Goes P (z ∷ zs) a b d p h g = (p.0, p.1, path-snoc Goes P zs z b d p.2 h g)

-- the walk from the point i to the point i + 1 + n
pub walk_path : {S : Type 0} (Goes : S → S → Type 0) (P : S → Type 0) (w : ℕ → S) (i n : ℕ) → ((j : ℕ) → i ≤ j → j ≤ i + n → Goes (w j) (w (suc j))) → ((j : ℕ) → i < j → j ≤ i + n → P (w j)) → LeadsBy Goes P (w i) (w (suc (i + n)))
walk_path Goes P w i zero goes inner = subst (λ k. LeadsBy Goes P (w i) (w (suc k))) (omega arith) ([], goes i (omega arith) (omega arith))
walk_path Goes P w i (suc n) goes inner =
    let p = walk_path Goes P w i n (λ j a b. goes j a (omega arith)) (λ j a b. inner j a (omega arith)) in
    let e : suc (i + n) ≡ i + suc n = omega arith in
    let q = subst (λ k. LeadsBy Goes P (w i) (w k)) e p in
    (q.0 ++ w (i + suc n) ∷ [], path-snoc Goes P q.0 (w i) (w (i + suc n)) (w (suc (i + suc n))) q.1 (inner (i + suc n) (omega arith) (omega arith)) (goes (i + suc n) (omega arith) (omega arith)))

pub walk_between : {S : Type 0} (Goes : S → S → Type 0) (P : S → Type 0) (w : ℕ → S) (i k : ℕ) → i < k → ((j : ℕ) → j < k → Goes (w j) (w (suc j))) → ((j : ℕ) → i < j → j < k → P (w j)) → LeadsBy Goes P (w i) (w k)
walk_between Goes P w i k t goes inner =
    let n : ℕ = k - suc i in
    let e : suc (i + n) ≡ k = omega arith in
    subst (λ u. LeadsBy Goes P (w i) (w u)) e (walk_path Goes P w i n (λ j a b. goes j (omega arith)) (λ j a b. inner j a (omega arith)))

-- where no point up to k is a first demand, none demands
none_first : {S : Type 0} (Goes Demand : S → S → Type 0) (w : ℕ → S) (i k : ℕ) → ((j : ℕ) → j < k → Goes (w j) (w (suc j))) → ((j : ℕ) → i < j → j ≤ k → First Goes Demand (w i) (w j) → ⊥) → (n j : ℕ) → j ≤ n → i < j → j ≤ k → Demand (w i) (w j) → ⊥
none_first Goes Demand w i k goes none zero j small a b d = omega arith
none_first Goes Demand w i k goes none (suc n) j small a b d =
    none j a b (d, walk_between Goes (λ z. Demand (w i) z → ⊥) w i j a (λ u q. goes u (omega arith)) (λ u q t. none_first Goes Demand w i k goes none n u (omega arith) q (omega arith)))

pub first_demand : {S : Type 0} (Goes Demand : S → S → Type 0) (w : ℕ → S) (i k : ℕ) → i < k → ((j : ℕ) → j < k → Goes (w j) (w (suc j))) → Demand (w i) (w k) → ((j : ℕ) → i < j → j ≤ k → First Goes Demand (w i) (w j) → ⊥) → ⊥
first_demand Goes Demand w i k t goes d none = none_first Goes Demand w i k goes none k k (omega arith) t (omega arith) d

module _ {E S : Type 0} (r : Run E S) (c : Code r) (q : Timed r) (k : CodeFacts r c) where
  -- a blocking effect is over when its node begins a later point that demands its site, if no barrier lies between or the site is not one-way
  over_at : (e f : E) → Placed r c e → Placed r c f → r.is_effect e ≡ true → r.flow.is_blocking (r.point e) ≡ true → r.node e ≡ r.node f → r.step e < r.step f → c.Demand (r.point e) (r.point f) → ((i : ℕ) → c.at e < i → i ≤ c.at f → FirstAt c (r.point e) (c.way (r.node f) i) → c.is_one_way (r.point e) ≡ true → ⊥) → r.time e < r.issue f
  over_at e f me mf be ke n t d two_way =
      ⊎_elim
      (λ x. x)
      (λ x. absurd (first_demand r.flow.Goes c.Demand w (c.at e) (c.at f) later goes demand (late x)))
      (cases_lt (r.time e) (r.issue f))
    where
      w : ℕ → S
      w = c.way (r.node f)

      later : c.at e < c.at f
      later = k.walked.further e f me mf n t

      goes : (j : ℕ) → j < c.at f → r.flow.Goes (c.way (r.node f) j) (c.way (r.node f) (suc j))
      goes j a = k.walked.goes f j mf a

      here : c.way (r.node f) (c.at e) ≡ r.point e
      here = ap (λ p. c.way p (c.at e)) (sym n) ∙ k.walked.on_way e me

      demand : c.Demand (c.way (r.node f) (c.at e)) (c.way (r.node f) (c.at f))
      demand = subst (λ u. c.Demand u (c.way (r.node f) (c.at f))) (sym here) (subst (λ u. c.Demand (r.point e) u) (sym (k.walked.on_way f mf)) d)

      late : r.issue f ≤ r.time e → (j : ℕ) → c.at e < j → j ≤ c.at f → FirstAt c (c.way (r.node f) (c.at e)) (c.way (r.node f) j) → ⊥
      late x j a b h =
          let first = subst (λ u. FirstAt c u (c.way (r.node f) j)) here h in
          omega (arith, k.waited.waits e f j me mf be ke n a b first (false_from_ne_true _ (two_way j a b first)), k.waited.enters_first f j mf b)

  step_by_at : (e x : E) → Placed r c e → Placed r c x → r.node e ≡ r.node x → c.at e < c.at x → r.step e < r.step x
  step_by_at e x me mx n t =
      ⊎_elim
      (λ a. a)
      (λ a.
      ⊎_elim
      (λ b. absurd (omega (arith, k.walked.further x e mx me (sym n) b)))
      (λ b. absurd (omega (arith, k.walked.same_at e x me mx n (omega arith))))
      (cases_lt (r.step x) (r.step e)))
      (cases_lt (r.step e) (r.step x))

  -- no barrier lies between two steps of one level
  no_barrier : (e f : E) → Placed r c e → Placed r c f → r.is_effect f ≡ true → r.node e ≡ r.node f → level r (r.issue e) ≡ level r (r.issue f) → (i : ℕ) → c.at e < i → i < c.at f → r.flow.is_barrier (c.way (r.node f) i) ≡ true → ⊥
  no_barrier e f me mf bf n v i a b h =
      let x = k.walked.arrives_at f i mf b h in
      let m = Counts.opens r c q k.walked k.counted x.0 f x.1 mf x.2 x.3 x.4 in
      let same : r.node e ≡ r.node x.0 = n ∙ sym x.3 in
      let before = q.in_order e x.0 (me.0, me.1) (x.1.0, x.1.1) same (step_by_at e x.0 me x.1 same (omega (arith, x.5))) in
      omega (arith, Levels.level_over r.releases (r.issue e) (r.time m.0) (r.issue f) (q.release_moment m.0 m.1 m.2) (omega (arith, m.3)) m.4)

  goes_to : (e f : E) → Placed r c e → Placed r c f → r.node e ≡ r.node f → (P : S → Type 0) → r.step e < r.step f → ((i : ℕ) → c.at e < i → i < c.at f → P (c.way (r.node f) i)) → LeadsBy r.flow.Goes P (r.point e) (r.point f)
  goes_to e f me mf n P t inner =
      let p = walk_between r.flow.Goes P (c.way (r.node f)) (c.at e) (c.at f) (k.walked.further e f me mf n t) (λ j a. k.walked.goes f j mf a) inner in
      let from : c.way (r.node f) (c.at e) ≡ r.point e = ap (λ u. c.way u (c.at e)) (sym n) ∙ k.walked.on_way e me in
      subst (λ u. LeadsBy r.flow.Goes P u (r.point f)) from (subst (λ u. LeadsBy r.flow.Goes P (c.way (r.node f) (c.at e)) u) (k.walked.on_way f mf) p)

  pub leads : (e f : E) → Placed r c e → Placed r c f → r.node e ≡ r.node f → r.step e < r.step f → Path r.flow (r.point e) (r.point f)
  leads e f me mf n t = goes_to e f me mf n (λ z. Unit {0}) t (λ i a b. tt)

  pub clear : (e f : E) → Placed r c e → Placed r c f → r.is_effect f ≡ true → r.node e ≡ r.node f → r.step e < r.step f → level r (r.issue e) ≡ level r (r.issue f) → Clear r.flow (r.point e) (r.point f)
  clear e f me mf bf n t v = goes_to e f me mf n (λ z. r.flow.is_barrier z ≡ false) t (λ i a b. ⊎_elim (λ h. absurd (no_barrier e f me mf bf n v i a b h)) (λ h. h) (cases_Bool (r.flow.is_barrier (c.way (r.node f) i))))

  pub waited : (e f : E) → Placed r c e → Placed r c f → r.is_effect e ≡ true → r.flow.is_blocking (r.point e) ≡ true → r.is_effect f ≡ true → r.node e ≡ r.node f → r.step e < r.step f → level r (r.issue e) ≡ level r (r.issue f) → Delay r.flow (r.point e) (r.point f) → r.time e < r.issue f
  waited e f me mf be ke bf n t v d =
      over_at e f me mf be ke n t (k.waited.demand_delay _ _ d) (λ i a b h w. no_barrier_upto i a b ((k.waited.one_way _ w).1 _ h))
    where
      no_barrier_upto : (i : ℕ) → c.at e < i → i ≤ c.at f → r.flow.is_barrier (c.way (r.node f) i) ≡ true → ⊥
      no_barrier_upto i a b h =
          ⊎_elim
          (λ lt. no_barrier e f me mf bf n v i a lt h)
          (λ ge.
          let at : i ≡ c.at f = omega arith in
          both_ways _ (k.walked.effect_no_barrier f mf bf) (subst (λ u. r.flow.is_barrier u ≡ true) (k.walked.on_way f mf) (subst (λ u. r.flow.is_barrier (c.way (r.node f) u) ≡ true) at h)))
          (cases_lt i (c.at f))

  -- a blocking effect takes place before the next release after its issue
  before_release : (m e : E) → r.Member m → r.is_release m ≡ true → Placed r c e → r.is_effect e ≡ true → r.flow.is_blocking (r.point e) ≡ true → r.issue e < r.time m → r.time m < r.time e → ⊥
  before_release m e mm km me be ke i t =
      let x = Counts.gathers r c q k.walked k.counted m e mm km me be i in
      let barrier = k.walked.arrival_barrier x.0 x.1 x.2 in
      omega (arith, x.5, over_at e x.0 me x.1 be ke (sym x.3) x.4 (k.waited.demand_barrier _ _ ke barrier) (λ j a b h w. not_one_way w))
    where
      not_one_way : c.is_one_way (r.point e) ≡ true → ⊥
      not_one_way w = omega (arith, k.waited.covered m e mm km me be w i)

  pub in_its_level : (e : E) → Placed r c e → r.is_effect e ≡ true → r.flow.is_blocking (r.point e) ≡ true → level r (r.time e) ≤ level r (r.issue e)
  in_its_level e me be ke =
      ⊎_elim
      (λ x.
      let t = Levels.level_by r.releases (r.issue e) (r.time e) x in
      let m = q.moment_release t.0 t.1 in
      let other = k.counted.alone m.0 e m.1 m.2 me in
      absurd (before_release m.0 e m.1 m.2 me be ke (apart_left m.0 (omega (arith, m.3, t.2)) other.1) (apart_right m.0 (omega (arith, m.3, t.3)) other.0)))
      (λ x. x)
      (cases_lt (level r (r.issue e)) (level r (r.time e)))
    where
      apart_left : (m : E) → r.issue e ≤ r.time m → (r.time m ≡ r.issue e → ⊥) → r.issue e < r.time m
      apart_left m a b = grind arith

      apart_right : (m : E) → r.time m ≤ r.time e → (r.time m ≡ r.time e → ⊥) → r.time m < r.time e
      apart_right m a b = grind arith
