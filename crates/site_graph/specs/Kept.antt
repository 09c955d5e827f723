-- What every flow keeps.
use Rattle.std.specs.Prelude.{◌≡◌, ◌↔◌, ℕ, ◌+◌, ◌^◌, ◌<◌, ◌≤◌, length, ltb, All, IfSome}
use Rattle.site_graph.specs.declared.point.PointKind.TheVariants.{Start}
use Rattle.site_graph.specs.declared.site.Form.{Form}
use Rattle.site_graph.specs.declared.site.Form.TheVariants.{Element, Own}
use Rattle.site_graph.specs.declared.site.Site.{Site}
use Rattle.site_graph.specs.Graph.{Graph, kind_at, IsAt}
use Rattle.site_graph.specs.Rising.{IsRising, edge_before}

-- the number is that of a point, or of a site
abbrev pub IsPointOf : Graph → ℕ → Type 0
IsPointOf graph t = t < length graph.points

abbrev pub IsSiteOf : Graph → ℕ → Type 0
IsSiteOf graph number = (1 ≤ number) × (number ≤ length graph.sites)

pub record IsFlow (graph : Graph) : Type 0 where
  -- points, and sites with one more, are counted in 32 bits
  pub few_points : length graph.points < 2 ^ 32
  pub few_sites : length graph.sites + 1 < 2 ^ 32
  -- point 0 is Start, and no other is
  pub some_point : 0 < length graph.points
  pub start : (t : ℕ) → IsPointOf graph t → (kind_at graph t ≡ Start) ↔ (t ≡ 0)
  -- each number of a point or site is one of the flow's
  pub edges_within : All (λ e. IsPointOf graph e.from × IsPointOf graph e.to) graph.edges
  pub takes_within : All (λ p. All (IsSiteOf graph) p.takes) graph.points
  pub access_within : (t number : ℕ) → IsAt graph number t → IsSiteOf graph number
  -- each site has a point, and no second one
  pub has_point : (number : ℕ) → IsSiteOf graph number → (t : ℕ) × IsAt graph number t
  pub one_point : (number t u : ℕ) → IsAt graph number t → IsAt graph number u → t ≡ u
  -- the lists rise without repeats
  pub edges_rise : IsRising edge_before graph.edges
  pub exposed_rise : IsRising ltb graph.exposed
  pub takes_rise : All (λ p. IsRising ltb p.takes) graph.points
  pub reads_rise : All (λ p. IsRising ltb p.reads) graph.points

-- ---- a flow beside a layout with so many objects, of which all that it names are

abbrev pub NamesForm : (objects : ℕ) → Form → Type 0
NamesForm objects (Element o index) = o < objects
NamesForm objects (Own o) = o < objects
NamesForm objects _ = Unit {0}

abbrev pub NamesSite : (objects : ℕ) → Site → Type 0
NamesSite objects site = IfSome site.reads (NamesForm objects) × IfSome site.writes (NamesForm objects)

pub record Names (objects : ℕ) (graph : Graph) : Type 0 where
  pub sites : All (NamesSite objects) graph.sites
  pub exposed : All (λ o. o < objects) graph.exposed
