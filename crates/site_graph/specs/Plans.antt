-- Plans: where code waits for which accesses, and what has to be waited for. Waits stand where they are first
-- demanded, after Krishnamurthy and Yelick, "Optimizing parallel programs with explicit synchronization" (1995).
use Rattle.std.specs.Prelude.{◌≡◌, ◌↔◌, ◌⊎◌, ℕ, ◌<◌, List, [], ◌∷◌, ◌++◌, length, ltb, Some, true, All, Contains, slice_get, slice_index_or}
use Rattle.effect_order.specs.Flow.{PathBy}
use Rattle.site_graph.specs.declared.plan.Plan.{Plan}
use Rattle.site_graph.specs.declared.point.Point.{Point}
use Rattle.site_graph.specs.declared.point.PointKind.TheVariants.{Start, Return}
use Rattle.site_graph.specs.declared.site.Site.{Site}
use Rattle.site_graph.specs.declared.site.SiteKind.TheVariants.{Read}
use Rattle.site_graph.specs.Graph.{Graph, site_at, IsAt, is_blocking}
use Rattle.site_graph.specs.Kept.{IsSiteOf}
use Rattle.site_graph.specs.Rising.{IsRising}
use Rattle.site_graph.specs.Ways.{Goes}

-- the sites that are waited for before the point
abbrev pub waits_at : Plan → (point : ℕ) → List ℕ
waits_at plan t = slice_index_or plan.waits t []

-- Start, or the first point of a function
abbrev pub IsFirst : Graph → (point : ℕ) → Type 0
IsFirst graph t =
    (p : Point) → slice_get graph.points t ≡ Some p
    → (p.kind ≡ Start) ⊎ ((u : ℕ) (q : Point) → u < t → slice_get graph.points u ≡ Some q →
    q.function ≡ p.function → q.kind ≡ Start)

-- a plan of the flow
pub record IsPlan (graph : Graph) (plan : Plan) : Type 0 where
  -- one list for each point
  pub count : length plan.waits ≡ length graph.points
  -- of the flow's sites, which rises
  pub on_sites : All (λ row. All (IsSiteOf graph) row) plan.waits
  pub rising : All (λ row. IsRising ltb row) plan.waits
  -- and is empty where no step is done
  pub none_first : (t : ℕ) → IsFirst graph t → waits_at plan t ≡ []

-- ---- what has to be waited for

-- What has to have landed before the point's step: the fetched values that it takes, a filled local that it reads or
-- writes, and at a return each filled local of its function.
pub data Uses (graph : Graph) (site t : ℕ) : Type 0 where
  takes : (p : Point) → slice_get graph.points t ≡ Some p → Contains p.takes site → Uses graph site t
  names : (s : Site) (local a : ℕ) (p q : Point) → site_at graph site ≡ Some s → s.fills ≡ Some local
      → IsAt graph site a
      → slice_get graph.points a ≡ Some p → slice_get graph.points t ≡ Some q → p.function ≡ q.function
      → Contains q.reads local ⊎ (q.writes ≡ Some local) → Uses graph site t
  returns : (s : Site) (local a : ℕ) (p q : Point) → site_at graph site ≡ Some s → s.fills ≡ Some local
      → IsAt graph site a
      → slice_get graph.points a ≡ Some p → slice_get graph.points t ≡ Some q → p.function ≡ q.function
      → q.kind ≡ Return → Uses graph site t

-- on each path from a read to the first point that uses what it fetches, code waits for it behind the read
abbrev pub WaitsInTime : Graph → Plan → Type 0
WaitsInTime graph plan =
    (site a t : ℕ) (s : Site) (inner : List ℕ) → site_at graph site ≡ Some s → s.kind ≡ Read
    → IsAt graph site a
    → PathBy (Goes graph) (λ z. Uses graph site z → ⊥) a inner t → Uses graph site t
    → (u : ℕ) × Contains (inner ++ t ∷ []) u × Contains (waits_at plan u) site

-- ---- the plain plan

-- the site is one whose access is over, in the source, before its node's next step
abbrev pub Blocks : Graph → (site : ℕ) → Type 0
Blocks graph site = (s : Site) × (site_at graph site ≡ Some s) × (is_blocking s.kind ≡ true)

-- each point waits for the blocking sites from whose points an edge leads to it, and no write is sent one-way
pub record IsPlainPlan (graph : Graph) (plan : Plan) : Type 0 where
  pub is_plan : IsPlan graph plan
  pub waits : (t site : ℕ) → Contains (waits_at plan t) site
      ↔ (Blocks graph site × ((a : ℕ) × IsAt graph site a × Goes graph a t))
  pub none_one_way : plan.oneway ≡ []

abbrev pub PlainPlansWaitInTime : Type 0
PlainPlansWaitInTime = (graph : Graph) (plan : Plan) → IsPlainPlan graph plan → WaitsInTime graph plan
