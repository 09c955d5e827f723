-- Delays are those of the laws of the order, where each conflict is one of two sites of the flow.
use Rattle.std.specs.Prelude.{◌≡◌, ℕ, Bool, true}
use Rattle.site_graph.specs.Bits.{Bits, IsSet}
use Rattle.site_graph.specs.Graph.{Graph}
use Rattle.site_graph.specs.Kept.{IsSiteOf}
use Rattle.delay_sets.specs.Delays.{DelaysAreOfOrder}

-- each pair that is set is one of two sites
abbrev pub AreOfSites : Graph → Bits → Type 0
AreOfSites graph bits = (a b : ℕ) → IsSet bits a b → IsSiteOf graph a × IsSiteOf graph b

abbrev pub DelaysOfSitesAreOfOrder : Type 0
DelaysOfSitesAreOfOrder =
    (graph : Graph) (cross own meets : Bits) (across : ℕ → ℕ → Bool) → AreOfSites graph cross
    → AreOfSites graph own
    → DelaysAreOfOrder graph cross own (λ a b. across a b ≡ true) meets
