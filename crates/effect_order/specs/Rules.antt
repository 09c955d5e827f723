-- The source order of a run by its three rules, of which the first that applies says which item comes next. A past is
-- the list of those taken, the newest first; `allowed` is the law of histories.
use Rattle.std.specs.Prelude.{◌≡◌, ◌↔◌, ℕ, zero, suc, ◌<◌, List, [], ◌∷◌, ◌++◌, filter, Bool, true, false, not, ◌&&◌}
use Rattle.effect_order.specs.Effect.{Effect}
use Rattle.effect_order.specs.Items.{items_conflict}
use Rattle.effect_order.specs.Lists.{In, Each, Pairs, IsDistinct}
use Rattle.effect_order.specs.Greedy.{WereAllowed, Closed}

-- the items of a run by their kinds
pub record Sorted (X : Type 0) : Type 0 where
  pub nodes : ℕ  -- how many nodes there are
  pub own : ℕ → List X  -- the own steps of a node in their order, those among them that are effects at once
  pub is_effect : X → Bool  -- an own step that is an effect at once: a blocking read or write, or an update
  pub releases : List X  -- by number
  pub effects : List X  -- in the order of the run

-- x is the first of the list that was not taken
abbrev pub IsNext : {X : Type 0} → List X → List X → X → Type 0
IsNext {X} past xs x = (us vs : List X) × (xs ≡ us ++ x ∷ vs) × Each (λ a. In a past) us × (In x past → ⊥)

module _ {X : Type 0} (does : X → List Effect) (allowed : List X → X → Bool) (s : Sorted X) where
  -- x is the next own step of the node p, it is no effect, and it is allowed
  abbrev pub StepOf : List X → ℕ → X → Type 0
  StepOf past p x = IsNext past (s.own p) x × (s.is_effect x ≡ false) × (allowed past x ≡ true)

  -- the first rule: such a step of the least node that has one
  abbrev pub FirstRule : List X → X → Type 0
  FirstRule past x = (p : ℕ) × (p < s.nodes) × StepOf past p x
      × ((q : ℕ) (y : X) → q < p → StepOf past q y → ⊥)

  -- the second rule: the next release, where it is allowed
  abbrev pub SecondRule : List X → X → Type 0
  SecondRule past x = IsNext past s.releases x × (allowed past x ≡ true)

  -- an effect that was not taken, that is allowed, and before which no conflicting effect is left
  abbrev pub EffectFree : List X → X → Type 0
  EffectFree past x =
      (us vs : List X) × (s.effects ≡ us ++ x ∷ vs) × (In x past → ⊥) × (allowed past x ≡ true) ×
      Each (λ a. items_conflict does a x ≡ true → In a past) us

  -- the third rule: the first such effect
  abbrev pub ThirdRule : List X → X → Type 0
  ThirdRule past x =
      (us vs : List X) × (s.effects ≡ us ++ x ∷ vs) × EffectFree past x
      × Each (λ a. EffectFree past a → ⊥) us

  -- which item may come next: that of the first rule that applies
  pub data Next (past : List X) (x : X) : Type 0 where
    ByFirst : FirstRule past x → Next past x
    BySecond : ((y : X) → FirstRule past y → ⊥) → SecondRule past x → Next past x
    ByThird : ((y : X) → FirstRule past y → ⊥) → ((y : X) → SecondRule past y → ⊥) →
        ThirdRule past x → Next past x

  -- after the past the items come by the rules, until none applies
  abbrev pub IsByRules : List X → List X → Type 0
  IsByRules past [] = (x : X) → Next past x → ⊥
  IsByRules past (x ∷ out) = Next past x × IsByRules (x ∷ past) out

-- own steps of the first nodes that are no effects, by node
abbrev pub steps_below : {X : Type 0} → (X → Bool) → (ℕ → List X) → ℕ → List X
steps_below is_effect own zero = []
steps_below is_effect own (suc p) = steps_below is_effect own p ++ filter (λ x. not (is_effect x)) (own p)

-- own steps that are no effects by node, then releases by number, then effects in the order of the run
abbrev pub listed : {X : Type 0} → Sorted X → List X
listed s = steps_below s.is_effect s.own s.nodes ++ (s.releases ++ s.effects)

-- what holds of those taken while an order grows by a test
pub record Took {X : Type 0}
    (does : X → List Effect) (earlier : X → X → Bool) (follows : List X → X → Bool)
    (all past : List X) : Type 0 where
  -- those taken are items
  pub within : Each (λ a. In a all) past
  -- none was taken twice
  pub distinct : IsDistinct past
  -- each passed the test when it was taken
  pub passed : WereAllowed follows past
  -- each came after the earlier ones that it conflicts with
  pub closed : Closed (λ a b. items_conflict does a b && earlier a b) all past

-- What has to hold of the test by which an order grows over the listed items, so that it grows by the rules.
pub record Follows {X : Type 0}
    (does : X → List Effect) (earlier : X → X → Bool) (allowed follows : List X → X → Bool)
    (s : Sorted X) : Type 0 where
  -- no item stands twice
  pub distinct : IsDistinct (listed s)
  -- an own step that is no effect does nothing to cells
  pub steps_quiet : (p : ℕ) → Each (λ x. s.is_effect x ≡ false → does x ≡ []) (s.own p)
  -- a release does nothing to cells
  pub releases_quiet : Each (λ x. does x ≡ []) s.releases
  -- conflicting effects stand in the order of the run
  pub in_order : Pairs (λ a b. items_conflict does a b ≡ true → (earlier a b ≡ true)
      × (earlier b a ≡ false)) s.effects
  -- nothing is earlier than itself
  pub not_itself : (x : X) → earlier x x ≡ false
  -- an own step passes where it is its node's next one and is allowed
  pub step : (past : List X) (p : ℕ) (x : X) → Took does earlier follows (listed s) past → p < s.nodes →
      In x (s.own p) → s.is_effect x ≡ false → (In x past → ⊥) →
      (follows past x ≡ true) ↔ (IsNext past (s.own p) x × (allowed past x ≡ true))
  -- a release passes where it is the next one and is allowed
  pub release : (past : List X) (x : X) → Took does earlier follows (listed s) past → In x s.releases →
      (In x past → ⊥) → (follows past x ≡ true) ↔ (IsNext past s.releases x × (allowed past x ≡ true))
  -- an effect passes where it is allowed
  pub effect : (past : List X) (x : X) → Took does earlier follows (listed s) past → In x s.effects →
      (In x past → ⊥) → (follows past x ≡ true) ↔ (allowed past x ≡ true)
