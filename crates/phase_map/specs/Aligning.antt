-- Which barriers are ahead of the points, and how they are found: each edge hands those ahead of its second point on to
-- its first, until nothing changes.
use Rattle.std.specs.Prelude.{◌≡◌, ◌≢◌, ℕ, ◌<◌, ◌≤◌, List, Bool, true, false, ◌==◌, if◌then◌else◌, Some, length, slice_get, slice_index_or, sum_by}
use Rattle.site_graph.specs.declared.flow.Edge.{Edge}
use Rattle.site_graph.specs.Graph.{Graph, kind_at, is_barrier}
use Rattle.site_graph.specs.Ways.{Goes, Clear}
use Rattle.phase_map.specs.declared.aligning.Ahead.{Ahead}
use Rattle.phase_map.specs.declared.aligning.Ahead.TheVariants.{Nothing, One, More}

abbrev pub joined_of : Ahead → Ahead → Ahead
joined_of Nothing w = w
joined_of (One a) Nothing = One a
joined_of (One a) (One b) = if a == b then One a else More
joined_of (One a) More = More
joined_of More w = More

-- a clear way leads from the point t to the barrier b
abbrev pub IsAhead : Graph → (t b : ℕ) → Type 0
IsAhead graph t b = (is_barrier (kind_at graph b) ≡ true) × Clear graph t b

-- what is noted of the point is so
abbrev pub IsSound : Graph → (t : ℕ) → Ahead → Type 0
IsSound graph t Nothing = Unit {0}
IsSound graph t (One b) = IsAhead graph t b
IsSound graph t More = (a b : ℕ) × (a ≢ b) × IsAhead graph t a × IsAhead graph t b

-- the barrier is one of those
abbrev pub Covers : Ahead → (b : ℕ) → Type 0
Covers Nothing b = ⊥
Covers (One a) b = a ≡ b
Covers More b = Unit {0}

-- what is noted of the point
abbrev pub noted_at : List Ahead → (t : ℕ) → Ahead
noted_at ahead t = slice_index_or ahead t Nothing

abbrev pub AreSound : Graph → List Ahead → Type 0
AreSound graph ahead = (t : ℕ) → IsSound graph t (noted_at ahead t)

-- what is noted of each point is so, and nothing is left out
pub record AreAhead (graph : Graph) (ahead : List Ahead) : Type 0 where
  pub count : length ahead ≡ length graph.points
  pub sound : AreSound graph ahead
  pub all : (t b : ℕ) → IsAhead graph t b → Covers (noted_at ahead t) b

-- ---- one edge, and one after another

-- what an edge to the point hands on
abbrev pub seen_at : Graph → List Ahead → (t : ℕ) → Ahead
seen_at graph ahead t = if is_barrier (kind_at graph t) then One t else noted_at ahead t

abbrev pub IsHanded : Graph → List Ahead → Edge → Type 0
IsHanded graph ahead edge = (b : ℕ) → Covers (seen_at graph ahead edge.to) b → Covers (noted_at ahead edge.from) b

-- how often what is noted may still change
abbrev pub room_of : Ahead → ℕ
room_of Nothing = 2
room_of (One b) = 1
room_of More = 0

abbrev pub room : List Ahead → ℕ
room ahead = sum_by room_of ahead

pub record IsPassed (graph : Graph) (edge : Edge) (old new : List Ahead) (changed : Bool) : Type 0 where
  pub count : length new ≡ length old
  pub sound : Goes graph edge.from edge.to → AreSound graph old → AreSound graph new
  pub none : changed ≡ false → (new ≡ old) × IsHanded graph old edge
  pub some : changed ≡ true → room new < room old

-- after the edges from the number on
pub record IsSwept (graph : Graph) (number : ℕ) (old new : List Ahead) (changed : Bool) : Type 0 where
  pub count : length new ≡ length old
  pub sound : AreSound graph new
  pub none : changed ≡ false → (new ≡ old) ×
      ((k : ℕ) (e : Edge) → number ≤ k → slice_get graph.edges k ≡ Some e → IsHanded graph old e)
  pub some : changed ≡ true → room new < room old
