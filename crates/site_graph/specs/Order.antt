-- The flow as the laws of the order see it, and that its paths and what precedes what are theirs.
use Rattle.std.specs.Prelude.{◌≡◌, ◌↔◌, ℕ, Bool, true, false}
use Rattle.std.specs.Option.{option_map_or}
use Rattle.effect_order.specs.Flow as order
use Rattle.site_graph.specs.declared.point.PointKind.{PointKind}
use Rattle.site_graph.specs.declared.point.PointKind.TheVariants.{Access, Sync}
use Rattle.site_graph.specs.declared.site.SiteKind.{SiteKind}
use Rattle.site_graph.specs.declared.site.SiteKind.TheVariants.{Write}
use Rattle.site_graph.specs.Graph.{Graph, kind_at, site_at, IsAt, is_barrier, is_blocking, is_split}
use Rattle.site_graph.specs.Kept.{IsFlow}
use Rattle.site_graph.specs.Ways.{Goes, Path, Clear, Precedes}

abbrev pub is_sync : PointKind → Bool
is_sync Sync = true
is_sync _ = false

abbrev pub is_write : SiteKind → Bool
is_write Write = true
is_write _ = false

-- whether it is the access of a site of which the test holds
abbrev pub accesses : Graph → (SiteKind → Bool) → PointKind → Bool
accesses graph test (Access number) = option_map_or (λ site. test site.kind) (site_at graph number) false
accesses graph test _ = false

-- with these conflicts of one node and of two, at points that two nodes may stand at between the same two releases
abbrev pub order_flow : Graph → (own across meets : ℕ → ℕ → Type 0) → order.Flow ℕ
order_flow graph own across meets = record {
  Goes = Goes graph;
  is_barrier = λ t. is_barrier (kind_at graph t);
  is_sync = λ t. is_sync (kind_at graph t);
  is_blocking = λ t. accesses graph is_blocking (kind_at graph t);
  is_split = λ t. accesses graph is_split (kind_at graph t);
  may_go_one_way = λ t. accesses graph is_write (kind_at graph t);
  OwnConflict = own;
  Across = across;
  Meets = meets;
}

-- the same paths, clear ways and precedence
pub record IsOfOrder (graph : Graph) (flow : order.Flow ℕ) : Type 0 where
  pub path : (a b : ℕ) → Path graph a b ↔ order.Path flow a b
  pub clear : (a b : ℕ) → Clear graph a b ↔ order.Clear flow a b
  pub precedes : (a b t u : ℕ) → IsAt graph a t → IsAt graph b u → Precedes graph a b
      ↔ order.Precedes flow t u

-- whichever points conflict and meet
abbrev pub WaysAreOfOrder : Type 0
WaysAreOfOrder =
    (graph : Graph) (own across meets : ℕ → ℕ → Bool) → IsFlow graph →
    IsOfOrder graph
    (order_flow graph (λ t u. own t u ≡ true) (λ t u. across t u ≡ true) (λ t u. meets t u ≡ true))
