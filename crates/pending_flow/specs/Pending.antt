-- First demands: the points that demand a site, and that a path reaches from the site's point with no demand on the
-- way. After the placement of synchronization in Krishnamurthy and Yelick (1995).
use Rattle.std.specs.Prelude.{◌≡◌, ◌↔◌, ◌⊎◌, ◌<◌, ◌+◌, ℕ, length}
use Rattle.effect_order.specs.Flow.{LeadsBy}
use Rattle.site_graph.specs.Bits.{Bits, IsSet, IsOf}
use Rattle.site_graph.specs.Graph.{Graph, IsAt}
use Rattle.site_graph.specs.Ways.{Goes}

-- the point t is a first demand of the site, where the rows say which points demand which sites
abbrev pub IsFirstDemand : Graph → (demand : Bits) → (site t : ℕ) → Type 0
IsFirstDemand graph demand site t =
    IsSet demand site t
    × ((a : ℕ) × IsAt graph site a × LeadsBy (Goes graph) (λ z. IsSet demand site z → ⊥) a t)

-- rows are sites, and columns are points
abbrev pub ArePending : Graph → (demand pending : Bits) → Type 0
ArePending graph demand pending =
    IsOf (length graph.sites + 1) (length graph.points) (IsFirstDemand graph demand) pending

-- the second rows are the first with the points that demand the site and are reached so from the point `at`
pub record IsAdded (graph : Graph) (demand : Bits) (site at : ℕ) (old new : Bits) : Type 0 where
  pub same_rows : new.rows ≡ old.rows
  pub same_columns : new.columns ≡ old.columns
  pub pairs : (r t : ℕ) → IsSet new r t ↔
      (IsSet old r t ⊎ ((r ≡ site) × IsSet demand site t × (t < length graph.points)
      × LeadsBy (Goes graph) (λ z. IsSet demand site z → ⊥) at t))
