-- What is known of locals, point after point.
use Rattle.std.proofs.Common.{◌≡◌, ◌⊎◌, ℕ, ◌<◌, List, Some}
use Rattle.std.specs.List.{slice_get}
use Rattle.site_graph.specs.declared.flow.Edge.{Edge}
use Rattle.site_graph.specs.declared.point.PointKind.TheVariants.{Call}
use Rattle.site_graph.specs.declared.point.TheConstants.{NODE_MARK}
use Rattle.site_graph.specs.Graph.{Graph, kind_at}
use Rattle.phase_map.specs.declared.noting.Locals.{Locals}
use Rattle.phase_map.specs.Noting.{MayDiffer, IsCalled}

-- none of the first n members of the list has it
abbrev pub NoneOf : {X : Type 0} → (X → Type 0) → List X → (n : ℕ) → Type 0
NoneOf {X} P xs n = (k : ℕ) (x : X) → k < n → slice_get xs k ≡ Some x → P x → ⊥

-- what a read local has that may differ
abbrev pub Differs : Locals → (function local : ℕ) → Type 0
Differs known f x = (x ≡ NODE_MARK) ⊎ MayDiffer known f x

-- an edge from a call to the point
abbrev pub Calls : Graph → (t : ℕ) → Edge → Type 0
Calls graph t e = (e.to ≡ t) × (kind_at graph e.from ≡ Call)

-- an edge from Start to a point that is called
abbrev pub Begins : Graph → Edge → Type 0
Begins graph e = (e.from ≡ 0) × IsCalled graph e.to
