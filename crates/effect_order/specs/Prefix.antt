-- The own steps of a node, and its first ones.
use Rattle.std.specs.Prelude.{◌≡◌, ℕ, zero, suc, List, [], ◌∷◌, Bool, true}
use Rattle.effect_order.specs.Lists.{In}

-- the own steps of the nodes among all items, by number: each but the first needs the one before it
pub record OwnSteps {X : Type 0}
    (is_own : ℕ → X → Bool) (step : X → ℕ) (own : ℕ → ℕ → X) (needs : X → X → Bool)
    (all : List X) : Type 0 where
  -- an own step of a node is the one with its number
  pub is_it : (p : ℕ) (x : X) → In x all → is_own p x ≡ true → own p (step x) ≡ x
  -- it has no other number
  pub its_step : (p k : ℕ) (x : X) → In x all → is_own p x ≡ true → own p k ≡ x → k ≡ step x
  -- the own step before it is an item, and is needed
  pub has_earlier : (p : ℕ) (x : X) (k : ℕ) → In x all → is_own p x ≡ true → step x ≡ suc k →
      In (own p k) all × (is_own p (own p k) ≡ true) × (needs (own p k) x ≡ true)

-- the node's first k own steps, the newest first
abbrev pub first_steps : {X : Type 0} → (ℕ → ℕ → X) → ℕ → ℕ → List X
first_steps own p zero = []
first_steps own p (suc k) = own p k ∷ first_steps own p k
