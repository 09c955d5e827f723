-- Where nodes may part: the points at which they may take different ways, and the locals that may differ from node to
-- node, as least sets. After the barrier analysis of Kamil and Yelick, "Concurrency analysis for parallel programs with
-- textually aligned barriers" (2005).
use Rattle.std.specs.Prelude.{◌≡◌, ◌≢◌, ℕ, Contains, Some, slice_get}
use Rattle.site_graph.specs.declared.point.Point.{Point}
use Rattle.site_graph.specs.declared.point.PointKind.TheVariants.{Call, Return}
use Rattle.site_graph.specs.Graph.{Graph, kind_at}
use Rattle.site_graph.specs.Ways.{Goes, Clear}
use Rattle.site_graph.specs.declared.point.TheConstants.{NODE_MARK}

-- the point with this number
abbrev pub IsPoint : Graph → ℕ → Point → Type 0
IsPoint graph t p = slice_get graph.points t ≡ Some p

-- at least two edges lead from the point
abbrev pub Branches : Graph → ℕ → Type 0
Branches graph t = (a b : ℕ) × (a ≢ b) × Goes graph t a × Goes graph t b

-- the number of `splitc_main`, which is that of Start
abbrev pub IsOfMain : Graph → (function : ℕ) → Type 0
IsOfMain graph f = (p : Point) → IsPoint graph 0 p → f ≡ p.function

-- some call leads to the first point of `splitc_main`, to which Start leads too
abbrev pub MainIsCalled : Graph → Type 0
MainIsCalled graph = (u t : ℕ) × (kind_at graph u ≡ Call) × Goes graph 0 t × Goes graph u t

mutual
  -- the point branches, and nodes may go on differently behind it
  pub data UnevenPoint (graph : Graph) : ℕ → Type 0 where
    returns : (t : ℕ) → Branches graph t → kind_at graph t ≡ Return → UnevenPoint graph t
    reads_mark : (t : ℕ) (p : Point) → Branches graph t → IsPoint graph t p → Contains p.reads NODE_MARK
        → UnevenPoint graph t
    reads_local : (t x : ℕ) (p : Point) → Branches graph t → IsPoint graph t p → Contains p.reads x
        → x ≢ NODE_MARK
        → UnevenLocal graph p.function x → UnevenPoint graph t

  -- the local of the function may have different values on different nodes
  pub data UnevenLocal (graph : Graph) : (function local : ℕ) → Type 0 where
    of_called : (f x : ℕ) → (IsOfMain graph f → ⊥) → UnevenLocal graph f x
    main_called : (f x : ℕ) → MainIsCalled graph → UnevenLocal graph f x
    set_by_mark : (w x : ℕ) (p : Point) → IsPoint graph w p → p.writes ≡ Some x → Contains p.reads NODE_MARK
        → UnevenLocal graph p.function x
    set_by_local : (w x y : ℕ) (p : Point) → IsPoint graph w p → p.writes ≡ Some x → Contains p.reads y
        → y ≢ NODE_MARK
        → UnevenLocal graph p.function y → UnevenLocal graph p.function x
    set_behind : (u w x : ℕ) (p : Point) → UnevenPoint graph u → Clear graph u w → IsPoint graph w p
        → p.writes ≡ Some x → UnevenLocal graph p.function x
