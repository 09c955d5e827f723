-- Which points are reached from which, by paths whose inner points do not stop.
use Rattle.std.specs.Prelude.{◌≡◌, ◌↔◌, ℕ, ◌+◌, ◌<◌, ◌≤◌, List, Bool, false, Some, length, slice_get, slice_index, slice_index_or, Contains}
use Rattle.effect_order.specs.Flow.{LeadsBy}
use Rattle.site_graph.specs.Graph.{Graph}
use Rattle.site_graph.specs.Ways.{Goes}
use Rattle.site_graph.specs.declared.flow.Edge.{Edge}
use Rattle.site_graph.specs.Bits.{Bits, IsSet, IsOf}

-- a path of at least one edge leads from the point a to the point t, and none of its inner points stops
abbrev pub Reaches : Graph → (stops : List Bool) → ℕ → ℕ → Type 0
Reaches graph stops a t = LeadsBy (Goes graph) (λ z. slice_index_or stops z false ≡ false) a t

-- from each point to each that it reaches
abbrev pub AreReached : Graph → (stops : List Bool) → Bits → Type 0
AreReached graph stops bits = IsOf (length graph.points) (length graph.points) (Reaches graph stops) bits

-- from each of the points of a list, the row being its place there, to each that it reaches
abbrev pub AreReachedFrom : Graph → (starts : List ℕ) → (stops : List Bool) → Bits → Type 0
AreReachedFrom graph starts stops bits =
    IsOf (length starts) (length graph.points) (λ r t. Reaches graph stops (slice_index_or starts r 0) t) bits

-- the same, where the points at which a path stops are those of a row of bits
abbrev pub ReachesBy : Graph → (stops : Bits) → (row : ℕ) → ℕ → ℕ → Type 0
ReachesBy graph stops row a t = LeadsBy (Goes graph) (λ z. IsSet stops row z → ⊥) a t

-- in one row, each point that is reached from one of a list
abbrev pub AreReachedFromAny : Graph → (starts : List ℕ) → (stops : Bits) → (row : ℕ) → Bits → Type 0
AreReachedFromAny graph starts stops row bits =
    IsOf 1 (length graph.points) (λ r t. (a : ℕ) × Contains starts a × ReachesBy graph stops row a t) bits

-- for each point, and for one past the last, how many edges lead from lower points; the edges stand in that order
pub record AreFirsts (graph : Graph) (firsts : List ℕ) : Type 0 where
  pub count : length firsts ≡ length graph.points + 1
  pub within : (p : ℕ) → p ≤ length graph.points → slice_index firsts p ≤ length graph.edges
  pub below : (p k : ℕ) (e : Edge) → p ≤ length graph.points → slice_get graph.edges k ≡ Some e →
      (k < slice_index firsts p) ↔ (e.from < p)
