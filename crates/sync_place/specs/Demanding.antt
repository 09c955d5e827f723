-- How the demands of points are found: for each point by a list of the blocking sites.
use Rattle.std.specs.Prelude.{◌≡◌, ◌⊎◌, ◌↔◌, ℕ, ◌+◌, ◌<◌, List, Option, Some, length, true, Contains, slice_get, MatchOption}
use Rattle.site_graph.specs.declared.point.Point.{Point}
use Rattle.site_graph.specs.declared.point.PointKind.{PointKind}
use Rattle.site_graph.specs.declared.point.PointKind.TheVariants.{Access, Return}
use Rattle.site_graph.specs.declared.site.Site.{Site}
use Rattle.site_graph.specs.Bits.{Bits, IsSet, IsOf}
use Rattle.site_graph.specs.Graph.{Graph, site_at, is_barrier, is_blocking}
use Rattle.sync_place.specs.declared.demanding.Blocking.{Blocking}
use Rattle.sync_place.specs.Placed.{Demand, First}

-- which points demand which sites, and which are first demands; rows are sites, and columns are points
abbrev pub AreDemands : Graph → (delays bits : Bits) → Type 0
AreDemands graph delays bits = IsOf (length graph.sites + 1) (length graph.points) (Demand graph delays) bits

abbrev pub AreFirst : Graph → (delays bits : Bits) → Type 0
AreFirst graph delays bits = IsOf (length graph.sites + 1) (length graph.points) (First graph delays) bits

-- ---- blocking sites

-- the point accesses the site, which is blocking
pub record IsBlocking (graph : Graph) (p : Point) (b : Blocking) : Type 0 where
  pub access : p.kind ≡ Access b.site
  pub site : Site
  pub is_site : site_at graph b.site ≡ Some site
  pub blocks : is_blocking site.kind ≡ true
  pub fills : site.fills ≡ b.fills
  pub function : p.function ≡ b.function

-- the point accesses a blocking site with this number
abbrev pub Accesses : Graph → Point → (number : ℕ) → Type 0
Accesses graph p number =
    (p.kind ≡ Access number) × ((s : Site) × (site_at graph number ≡ Some s) × (is_blocking s.kind ≡ true))

abbrev pub IsBlockingOf : Graph → Point → Option Blocking → Type 0
IsBlockingOf graph p r = MatchOption r ((number : ℕ) → Accesses graph p number → ⊥) (λ b. IsBlocking graph p b)

-- those of the points below the number n
pub record AreBlocking (graph : Graph) (n : ℕ) (bs : List Blocking) : Type 0 where
  pub each : (b : Blocking) → Contains bs b → (a : ℕ) × (p : Point) × (a < n)
      × (slice_get graph.points a ≡ Some p) × IsBlocking graph p b
  pub all : (a number : ℕ) (p : Point) → a < n → slice_get graph.points a ≡ Some p → Accesses graph p number
      → (b : Blocking) × Contains bs b × (b.site ≡ number)

-- ---- what a point demands

abbrev pub Delayed : PointKind → (site : ℕ) → (delays : Bits) → Type 0
Delayed kind site delays = (b : ℕ) × (kind ≡ Access b) × IsSet delays site b

abbrev pub IsFilledAt : Point → Blocking → Type 0
IsFilledAt p b =
    (local : ℕ) × (b.fills ≡ Some local) × (b.function ≡ p.function)
    × ((p.kind ≡ Return) ⊎ (Contains p.reads local ⊎ (p.writes ≡ Some local)))

abbrev pub PointDemands : Point → Blocking → (delays : Bits) → Type 0
PointDemands p b delays =
    (is_barrier p.kind ≡ true) ⊎ (Delayed p.kind b.site delays ⊎ (Contains p.takes b.site ⊎ IsFilledAt p b))

-- one of the first n sites of the list has this number, and the point demands it
abbrev pub Marks : Point → List Blocking → (n : ℕ) → (delays : Bits) → (number : ℕ) → Type 0
Marks p bs n delays number =
    (k : ℕ) × (b : Blocking) × (k < n) × (slice_get bs k ≡ Some b) × (b.site ≡ number)
    × PointDemands p b delays

-- the second bits are the first, with these in the column of the point
pub record IsMarked (p : Point) (at : ℕ) (bs : List Blocking) (n : ℕ) (delays old new : Bits) : Type 0 where
  pub same_rows : new.rows ≡ old.rows
  pub same_columns : new.columns ≡ old.columns
  pub pairs : (r c : ℕ) → IsSet new r c ↔ (IsSet old r c ⊎ ((c ≡ at) × Marks p bs n delays r))
