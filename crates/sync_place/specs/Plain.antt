-- How the plain plan is found: the points directly behind the accesses of blocking sites.
use Rattle.std.specs.Prelude.{◌≡◌, ◌⊎◌, ◌↔◌, ℕ, ◌+◌, List, length, Contains}
use Rattle.site_graph.specs.declared.flow.Edge.{Edge}
use Rattle.site_graph.specs.Bits.{Bits, IsSet, IsOf}
use Rattle.site_graph.specs.Graph.{Graph, IsAt}
use Rattle.site_graph.specs.Plans.{IsFirst, Blocks}
use Rattle.site_graph.specs.Ways.{Goes}

-- no edge leads from an access to Start or to the first point of a function, which calls and Start enter
abbrev pub FirstsFollowNoAccess : Graph → Type 0
FirstsFollowNoAccess graph = (t a number : ℕ) → IsFirst graph t → Goes graph a t → IsAt graph number a → ⊥

-- one of the edges leads from the access of the blocking site to the point
abbrev pub BehindBy : Graph → List Edge → (site t : ℕ) → Type 0
BehindBy graph edges site t = Blocks graph site
    × ((a : ℕ) × IsAt graph site a × Contains edges (record { from = a; to = t }))

-- which points are behind which sites by these edges; rows are sites, and columns are points
abbrev pub AreBehind : Graph → List Edge → Bits → Type 0
AreBehind graph edges bits = IsOf (length graph.sites + 1) (length graph.points) (BehindBy graph edges) bits

-- the second bits are the first, with the site from whose access the edge leads, if it is blocking
pub record IsMarkedBehind (graph : Graph) (edge : Edge) (old new : Bits) : Type 0 where
  pub same_rows : new.rows ≡ old.rows
  pub same_columns : new.columns ≡ old.columns
  pub pairs : (r c : ℕ) → IsSet new r c
      ↔ (IsSet old r c ⊎ ((edge.to ≡ c) × Blocks graph r × IsAt graph r edge.from))
