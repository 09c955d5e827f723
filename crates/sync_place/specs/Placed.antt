-- Where code waits: at each first demand of a site, unless the site's writes go one-way, which is where only barriers
-- demand them. After Krishnamurthy and Yelick (1995).
use Rattle.std.specs.Prelude.{◌≡◌, ◌↔◌, ℕ, length, ltb, true, All, Contains, Some, []}
use Rattle.effect_order.specs.Flow.{LeadsBy}
use Rattle.site_graph.specs.declared.plan.Plan.{Plan}
use Rattle.site_graph.specs.declared.site.Site.{Site}
use Rattle.site_graph.specs.declared.site.SiteKind.TheVariants.{Write}
use Rattle.site_graph.specs.Bits.{Bits, IsSet}
use Rattle.site_graph.specs.Graph.{Graph, kind_at, site_at, IsAt, is_barrier}
use Rattle.site_graph.specs.Rising.{IsRising}
use Rattle.site_graph.specs.Ways.{Goes}
use Rattle.site_graph.specs.Plans.{waits_at, Uses, Blocks}

-- why the access of a blocking site has to be over when the point is begun: it is a barrier; or a site to which there
-- is a delay; or it uses what the site fetched
pub data Demanded (graph : Graph) (delays : Bits) (site t : ℕ) : Type 0 where
  at_barrier : is_barrier (kind_at graph t) ≡ true → Demanded graph delays site t
  by_delay : (b : ℕ) → IsAt graph b t → IsSet delays site b → Demanded graph delays site t
  by_use : Uses graph site t → Demanded graph delays site t

abbrev pub Demand : Graph → (delays : Bits) → (site t : ℕ) → Type 0
Demand graph delays site t = Blocks graph site × Demanded graph delays site t

-- the point is a first demand of the site
abbrev pub First : Graph → (delays : Bits) → (site t : ℕ) → Type 0
First graph delays site t =
    Demand graph delays site t
    × ((a : ℕ) × IsAt graph site a × LeadsBy (Goes graph) (λ z. Demand graph delays site z → ⊥) a t)

-- a write whose first demands are all barriers; one that nothing demands is such a write
abbrev pub GoesOneWay : Graph → (delays : Bits) → (site : ℕ) → Type 0
GoesOneWay graph delays site =
    ((s : Site) × (site_at graph site ≡ Some s) × (s.kind ≡ Write))
    × ((t : ℕ) → First graph delays site t → is_barrier (kind_at graph t) ≡ true)

-- the lists rise without repeats, and there is one for each point
pub record IsListed (graph : Graph) (plan : Plan) : Type 0 where
  pub count : length plan.waits ≡ length graph.points
  pub rising : All (λ row. IsRising ltb row) plan.waits
  pub oneway_rising : IsRising ltb plan.oneway

pub record IsPlacedPlan (graph : Graph) (delays : Bits) (plan : Plan) : Type 0 where
  pub listed : IsListed graph plan
  pub oneway : (site : ℕ) → Contains plan.oneway site ↔ GoesOneWay graph delays site
  pub waits : (site t : ℕ) → Contains (waits_at plan t) site
      ↔ (First graph delays site t × (GoesOneWay graph delays site → ⊥))

-- the early plan, in which no write goes one-way
pub record IsEarlyPlan (graph : Graph) (delays : Bits) (plan : Plan) : Type 0 where
  pub listed : IsListed graph plan
  pub oneway : plan.oneway ≡ []
  pub waits : (site t : ℕ) → Contains (waits_at plan t) site ↔ First graph delays site t
