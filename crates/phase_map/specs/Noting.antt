-- Uneven points and locals as far as they are known, on the way to the least sets.
use Rattle.std.specs.Prelude.{◌≡◌, ◌≢◌, ◌⊎◌, ◌↔◌, ℕ, ◌<◌, List, Bool, true, false, Some, length, Contains}
use Rattle.site_graph.specs.declared.point.Point.{Point}
use Rattle.site_graph.specs.declared.point.PointKind.TheVariants.{Call, Return}
use Rattle.site_graph.specs.declared.point.TheConstants.{NODE_MARK}
use Rattle.site_graph.specs.Bits.{Bits, IsSet, IsOf, IsWith}
use Rattle.site_graph.specs.Graph.{Graph, kind_at, is_barrier}
use Rattle.site_graph.specs.Opened.{unset}
use Rattle.site_graph.specs.Ways.{Goes, Clear}
use Rattle.phase_map.specs.declared.noting.Locals.{Locals}
use Rattle.phase_map.specs.Uneven.{IsPoint, Branches, IsOfMain, MainIsCalled, UnevenPoint, UnevenLocal}

-- the barriers, in one row
abbrev pub AreBarriers : Graph → Bits → Type 0
AreBarriers graph bits = IsOf 1 (length graph.points) (λ r t. is_barrier (kind_at graph t) ≡ true) bits

-- ---- what is known of locals

-- the local of the function may differ from node to node
abbrev pub MayDiffer : Locals → (function local : ℕ) → Type 0
MayDiffer known f x = (known.called ≡ true) ⊎ ((f ≢ known.main) ⊎ IsSet known.noted 0 x)

-- something that the point reads may differ
abbrev pub ReadsUneven : Locals → Point → Type 0
ReadsUneven known p = (x : ℕ) × Contains p.reads x × ((x ≡ NODE_MARK) ⊎ MayDiffer known p.function x)

-- the number is past those of the locals that the first n points write
abbrev pub WritesBelow : Graph → (n end : ℕ) → Type 0
WritesBelow graph n end =
    (w x : ℕ) (p : Point) → w < n → IsPoint graph w p → p.writes ≡ Some x → x ≢ NODE_MARK → x < end

-- a call leads to the point
abbrev pub IsCalled : Graph → ℕ → Type 0
IsCalled graph t = (u : ℕ) × (kind_at graph u ≡ Call) × Goes graph u t

-- what is noted is uneven
pub record AreKnown (graph : Graph) (known : Locals) : Type 0 where
  pub main_is : (f : ℕ) → IsOfMain graph f ↔ (f ≡ known.main)
  pub called_is : (known.called ≡ true) ↔ MainIsCalled graph
  pub rows : known.noted.rows ≡ 1
  pub room : WritesBelow graph (length graph.points) known.noted.columns
  pub noted : (x : ℕ) → IsSet known.noted 0 x → UnevenLocal graph known.main x

-- ---- the points that part nodes by what is known

abbrev pub PointParts : Locals → Point → Type 0
PointParts known p = (p.kind ≡ Return) ⊎ ReadsUneven known p

abbrev pub PartsBy : Graph → Locals → ℕ → Type 0
PartsBy graph known t = Branches graph t × ((p : Point) × IsPoint graph t p × PointParts known p)

-- those below the number n
abbrev pub ArePartings : Graph → Locals → (n : ℕ) → List ℕ → Type 0
ArePartings graph known n ts = (t : ℕ) → Contains ts t ↔ ((t < n) × PartsBy graph known t)

-- each point that is set is behind an uneven one
abbrev pub IsBehind : Graph → Bits → Type 0
IsBehind graph behind = (t : ℕ) → IsSet behind 0 t → (u : ℕ) × UnevenPoint graph u × Clear graph u t

-- ---- notes of locals that points write

-- nodes may set different values at the point, where they may have parted before it
abbrev pub SetsUneven : Locals → Point → (parted : Bool) → Type 0
SetsUneven known p parted = (parted ≡ true) ⊎ ReadsUneven known p

pub record IsNoted (p : Point) (parted : Bool) (old new : Locals) (gains : Bool) : Type 0 where
  pub none : gains ≡ false → (new ≡ old) ×
      ((x : ℕ) → p.writes ≡ Some x → x ≢ NODE_MARK → SetsUneven old p parted → MayDiffer old p.function x)
  pub some : gains ≡ true → (new.main ≡ old.main) × (new.called ≡ old.called) ×
      ((x : ℕ) × (p.writes ≡ Some x) × (x ≢ NODE_MARK) × SetsUneven old p parted
      × (MayDiffer old p.function x → ⊥)
      × IsWith 0 x old.noted new.noted)

-- each of the first n points that sets different values sets a local that is known to differ
abbrev pub AllNoted : Graph → (behind : Bits) → (n : ℕ) → Locals → Type 0
AllNoted graph behind n known =
    (w x : ℕ) (p : Point) → w < n → IsPoint graph w p → p.writes ≡ Some x → x ≢ NODE_MARK
    → IsSet behind 0 w ⊎ ReadsUneven known p → MayDiffer known p.function x

pub record AreNoted (graph : Graph) (behind : Bits) (n : ℕ) (old new : Locals) (gains : Bool) : Type 0 where
  pub known : AreKnown graph new
  pub none : gains ≡ false → (new ≡ old) × AllNoted graph behind n old
  pub some : gains ≡ true → unset new.noted new.noted.columns < unset old.noted old.noted.columns
