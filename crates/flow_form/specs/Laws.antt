-- Laws of the flow of a source.
use Rattle.std.specs.Prelude.{◌≡◌, ℕ, ◌+◌, ◌^◌, ◌<◌, List, Some, length, slice_get}
use Rattle.sc_base.specs.declared.shape.Shape.{Shape}
use Rattle.sc_core.specs.Core.{Program}
use Rattle.sc_core.specs.Typed.{IsTyped}
use Rattle.sc_meaning.specs.Meaning.{Setting, pointed}
use Rattle.site_graph.specs.Kept.{IsFlow, Names}
use Rattle.flow_form.specs.Within.{Placed}
use Rattle.flow_form.specs.Accesses.{accesses_of}
use Rattle.flow_form.specs.FlowOf.{all_points, flow_of}
use Rattle.flow_form.specs.Walk.{IsWalk, Requests}

-- each point stands at its number
abbrev pub PointsStandInOrder : Type 0
PointsStandInOrder =
    (nodes t : ℕ) (program : Program) (p : Placed) →
    slice_get (all_points nodes program) t ≡ Some p → p.at ≡ t

-- the flow has as many sites as the source has accesses
abbrev pub SitesAreTheAccesses : Type 0
SitesAreTheAccesses = (nodes : ℕ) (program : Program) → length (flow_of nodes program).sites ≡ accesses_of program

-- it keeps what every flow keeps, where its points and sites are few enough to be counted
abbrev pub FlowsAreKept : Type 0
FlowsAreKept =
    (nodes : ℕ) (program : Program) →
    length (flow_of nodes program).points < 2 ^ 32 → accesses_of program + 1 < 2 ^ 32 →
    IsFlow (flow_of nodes program)

-- it names only objects of the layout, where the source is typed over these
abbrev pub FlowsNameObjects : Type 0
FlowsNameObjects =
    (nodes : ℕ) (objects : List Shape) (program : Program) → IsTyped objects program →
    Names (length objects) (flow_of nodes program)

-- Under any budget, the points that the source makes a node pass are a walk along the edges from Start,
abbrev pub PointsAreAWalk : Type 0
PointsAreAWalk =
    (here : Setting) (budget : ℕ) → IsWalk (flow_of here.layout.nodes here.program) (pointed here budget)

-- and each of its requests is one that the last point passed makes.
abbrev pub RequestsAreOfTheirPoints : Type 0
RequestsAreOfTheirPoints =
    (here : Setting) (budget : ℕ) → Requests (flow_of here.layout.nodes here.program) 0 (pointed here budget)
