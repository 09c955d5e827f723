-- The conflicts of a flow's sites as rows of bits, where the phases say which sites two nodes may stand at between the
-- same two releases.
use Rattle.std.specs.Prelude.{ℕ, ◌+◌, length}
use Rattle.sc_layout.specs.Layout.{Arrangement}
use Rattle.site_graph.specs.Bits.{Bits, IsSet, IsOf}
use Rattle.site_graph.specs.Graph.{Graph}
use Rattle.alias_conflicts.specs.May.{OwnConflict, Across}

-- rows and columns are sites, and number 0 is none
abbrev pub BySites : Graph → (ℕ → ℕ → Type 0) → Bits → Type 0
BySites graph R bits = IsOf (length graph.sites + 1) (length graph.sites + 1) R bits

pub record AreConflicts (layout : Arrangement) (graph : Graph) (meets cross own : Bits) : Type 0 where
  pub cross_is : BySites graph (λ a b. Across layout graph a b × IsSet meets a b) cross
  pub own_is : BySites graph (OwnConflict layout graph) own
