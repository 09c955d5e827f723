-- Paths through a flow, ways that are clear of barriers, and which access is over before another begins. After
-- Krishnamurthy and Yelick, "Optimizing parallel programs with explicit synchronization" (1995).
use Rattle.std.specs.Prelude.{◌≡◌, ◌⊎◌, ℕ, true, false, Some, Contains}
use Rattle.effect_order.specs.Flow.{LeadsBy}
use Rattle.site_graph.specs.declared.point.PointKind.TheVariants.{Sync}
use Rattle.site_graph.specs.declared.site.Site.{Site}
use Rattle.site_graph.specs.Graph.{Graph, kind_at, site_at, IsAt, is_barrier, is_blocking, is_split}

-- an edge leads from the first point to the second
abbrev pub Goes : Graph → ℕ → ℕ → Type 0
Goes graph a b = Contains graph.edges (record { from = a; to = b })

-- a path of at least one edge leads from the first point to the second
abbrev pub Path : Graph → ℕ → ℕ → Type 0
Path graph a b = LeadsBy (Goes graph) (λ z. Unit {0}) a b

-- such a path leads there with no barrier among its inner points
abbrev pub Clear : Graph → ℕ → ℕ → Type 0
Clear graph a b = LeadsBy (Goes graph) (λ z. is_barrier (kind_at graph z) ≡ false) a b

-- The access of the site, at the point t, is over in the source before that at the point u begins: the site is blocking
-- and the way is clear; or it is split, and a path leads to a sync from which the way is clear. A one-way store is over
-- before none, since a release completes it.
abbrev pub IsOverBefore : Graph → Site → (t u : ℕ) → Type 0
IsOverBefore graph site t u =
    ((is_blocking site.kind ≡ true) × Clear graph t u) ⊎
    ((is_split site.kind ≡ true) × (s : ℕ) × (kind_at graph s ≡ Sync) × Path graph t s × Clear graph s u)

-- the access of the site a is over, in the source, before that of the site b begins
pub record Precedes (graph : Graph) (a b : ℕ) : Type 0 where
  pub site : Site
  pub is_site : site_at graph a ≡ Some site
  pub from : ℕ
  pub is_from : IsAt graph a from
  pub to : ℕ
  pub is_to : IsAt graph b to
  pub over : IsOverBefore graph site from to
