-- Edges that say together what has to come before what: each of them does, and what has to come before what is joined
-- by a way along them. It is enough to give so many that the others follow.
use Rattle.std.specs.Prelude.{◌≡◌, ℕ, ◌<◌, List, ◌∷◌, Bool, true}
use Rattle.effect_order.specs.Walk.{Walk}
use Rattle.least_order.specs.declared.edge.Edge.{Edge}
use Rattle.least_order.specs.Least.{leads}

-- an edge leads from i to j
abbrev pub Joined : List Edge → (count : ℕ) → ℕ → ℕ → Type 0
Joined edges count i j = (i < count) × (j < count) × (leads edges i j ≡ true)

pub record AreWays (edges : List Edge) (count : ℕ) (before : ℕ → ℕ → Bool) : Type 0 where
  -- each edge leads from an item to one that it has to come before
  pub each : (i j : ℕ) → i < count → j < count → leads edges i j ≡ true → before i j ≡ true
  -- to each item that an item has to come before there is a way of one or more edges
  pub found : (i j : ℕ) → i < count → j < count → before i j ≡ true →
      (k : ℕ) × (ks : List ℕ) × Walk (Joined edges count) i (k ∷ ks) j
