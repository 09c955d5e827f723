-- What the flow of each source is, as far as plans and the analysis need it, and that plans of it wait in time.
use Rattle.std.specs.Prelude.{ℕ, length}
use Rattle.sc_layout.specs.Layout.{Arrangement}
use Rattle.sc_core.specs.Core.{Program}
use Rattle.site_graph.specs.declared.plan.Plan.{Plan}
use Rattle.site_graph.specs.Bits.{Bits}
use Rattle.site_graph.specs.Kept.{IsFlow, Names}
use Rattle.site_graph.specs.Plans.{IsPlan, WaitsInTime, IsPlainPlan}
use Rattle.flow_form.specs.FlowOf.{flow_of}
use Rattle.value_soundness.specs.Laws.{IsLaidSource}
use Rattle.sync_place.specs.Laws.{IsOne, FirstPointsAreIdle}
use Rattle.sync_place.specs.Plain.{FirstsFollowNoAccess}

-- each object that a site or a pointer names is one of the layout
abbrev pub FlowsNameLaidObjects : Type 0
FlowsNameLaidObjects =
    (layout : Arrangement) (program : Program) → IsLaidSource layout program
    → Names (length layout.objects) (flow_of layout.nodes program)

-- Start and the first point of each function do nothing
abbrev pub FirstsAreIdle : Type 0
FirstsAreIdle = (nodes : ℕ) (program : Program) → FirstPointsAreIdle (flow_of nodes program)

-- and are entered from no access
abbrev pub FirstsAreCalled : Type 0
FirstsAreCalled = (nodes : ℕ) (program : Program) → FirstsFollowNoAccess (flow_of nodes program)

-- ---- plans

-- it is a plan of the flow of the source, with which code waits in time
abbrev pub IsTimely : (nodes : ℕ) → Program → Plan → Type 0
IsTimely nodes program plan = IsPlan (flow_of nodes program) plan × WaitsInTime (flow_of nodes program) plan

-- such are placed and early plans, whatever the delays are, where the flow's numbers are few enough to be counted,
abbrev pub PlacedPlansAreTimely : Type 0
PlacedPlansAreTimely =
    (nodes : ℕ) (program : Program) (delays : Bits) (plan : Plan) → IsFlow (flow_of nodes program)
    → IsOne (flow_of nodes program) delays plan → IsTimely nodes program plan

-- and plain plans
abbrev pub PlainPlansAreTimely : Type 0
PlainPlansAreTimely =
    (nodes : ℕ) (program : Program) (plan : Plan) → IsPlainPlan (flow_of nodes program) plan
    → IsTimely nodes program plan
