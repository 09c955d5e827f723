-- The code of a source carries the source's flow and the plan, whatever goes one-way.
use Rattle.sc_layout.specs.Layout.{Arrangement}
use Rattle.sc_isa.specs.declared.code.Code.{Code}
use Rattle.sc_core.specs.Core.{Program}
use Rattle.site_graph.specs.declared.plan.Plan.{Plan}
use Rattle.site_graph.specs.Plans.{IsPlan, WaitsInTime}
use Rattle.flow_form.specs.FlowOf.{flow_of}
use Rattle.value_soundness.specs.Laws.{IsLaidSource}
use Rattle.node_emit.specs.Sources.{IsCodeOf}
use Rattle.node_emit.specs.Carries.{Carries}
use Rattle.node_emit.specs.Law.{BeginsInMain}

abbrev pub CodeCarriesItsFlow : Type 0
CodeCarriesItsFlow =
    (layout : Arrangement) (program : Program) (plan : Plan) (code : Code)
    → IsLaidSource layout program → IsPlan (flow_of layout.nodes program) plan
    → WaitsInTime (flow_of layout.nodes program) plan → IsCodeOf plan program code → BeginsInMain program code
    → Carries code layout (flow_of layout.nodes program) plan
