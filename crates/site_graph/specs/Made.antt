-- Lists that make a flow: what is tested of each point and each site, and of the edges.
use Rattle.std.specs.Prelude.{◌≡◌, ◌↔◌, ℕ, ◌+◌, ◌^◌, ◌<◌, ◌≤◌, List, Some, length, ltb, All, slice_get}
use Rattle.site_graph.specs.declared.flow.Edge.{Edge}
use Rattle.site_graph.specs.declared.point.Point.{Point}
use Rattle.site_graph.specs.declared.point.PointKind.{PointKind}
use Rattle.site_graph.specs.declared.point.PointKind.TheVariants.{Start, Access}
use Rattle.site_graph.specs.declared.site.Site.{Site}
use Rattle.site_graph.specs.Graph.{Graph}
use Rattle.site_graph.specs.Rising.{IsRising, edge_before}

abbrev pub graph_of : List Point → List Edge → List Site → List ℕ → Graph
graph_of points edges sites exposed = record { points = points; edges = edges; sites = sites; exposed = exposed }

abbrev pub AreCounted : (points sites : ℕ) → Type 0
AreCounted points sites = (points < 2 ^ 32) × (sites + 1 < 2 ^ 32) × (0 < points)

-- the number is that of one of so many sites
abbrev pub IsOneOf : (sites number : ℕ) → Type 0
IsOneOf sites number = (1 ≤ number) × (number ≤ sites)

abbrev pub StartsAt : PointKind → (t : ℕ) → Type 0
StartsAt kind t = (kind ≡ Start) ↔ (t ≡ 0)

abbrev pub AccessWithin : PointKind → (sites : ℕ) → Type 0
AccessWithin kind sites = (number : ℕ) → kind ≡ Access number → IsOneOf sites number

abbrev pub IsPoint : Point → (t sites : ℕ) → Type 0
IsPoint p t sites =
    StartsAt p.kind t × All (IsOneOf sites) p.takes × IsRising ltb p.takes × IsRising ltb p.reads
    × AccessWithin p.kind sites

-- each of the points before the n-th
abbrev pub ArePoints : List Point → (n sites : ℕ) → Type 0
ArePoints points n sites = (t : ℕ) (p : Point) → t < n → slice_get points t ≡ Some p → IsPoint p t sites

abbrev pub AccessAt : List Point → (number a : ℕ) → Type 0
AccessAt points number a = (p : Point) × (slice_get points a ≡ Some p) × (p.kind ≡ Access number)

-- among the points before the n-th is one access of the site, and no second one
abbrev pub HasOne : List Point → (number n : ℕ) → Type 0
HasOne points number n =
    ((a : ℕ) × (a < n) × AccessAt points number a)
    × ((a b : ℕ) → a < n → b < n → AccessAt points number a → AccessAt points number b → a ≡ b)

abbrev pub EachHasOne : List Point → (sites : ℕ) → Type 0
EachHasOne points sites = (number : ℕ) → IsOneOf sites number → HasOne points number (length points)

abbrev pub AreEdges : List Edge → (points : ℕ) → Type 0
AreEdges edges points = All (λ e. (e.from < points) × (e.to < points)) edges × IsRising edge_before edges

abbrev pub AreKept : List Point → List Edge → (sites : ℕ) → List ℕ → Type 0
AreKept points edges sites exposed =
    AreCounted (length points) sites × ArePoints points (length points) sites × EachHasOne points sites
    × AreEdges edges (length points) × IsRising ltb exposed
