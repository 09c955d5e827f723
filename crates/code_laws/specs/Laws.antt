-- What is known of the code of a source: it is spelled by the runs of the points of the source's flow, and does as its
-- source. The runs and the marks are those with which code carries a flow.
use Rattle.std.specs.Prelude.{◌≡◌, ℕ, ◌<◌, List, [], Some, slice_get, All}
use Rattle.sc_layout.specs.Layout.{Arrangement}
use Rattle.sc_isa.specs.declared.code.Code.{Code}
use Rattle.sc_isa.specs.declared.op.Op.{Op}
use Rattle.sc_core.specs.Core.{Program}
use Rattle.site_graph.specs.declared.plan.Plan.{Plan}
use Rattle.site_graph.specs.Plans.{IsPlan, WaitsInTime}
use Rattle.flow_form.specs.FlowOf.{flow_of}
use Rattle.value_soundness.specs.Laws.{IsLaidSource}
use Rattle.node_emit.specs.Sources.{IsCodeOf}
use Rattle.node_emit.specs.Spelled.{Piece, IsSpelled}
use Rattle.node_emit.specs.Law.{told_of, played_of, DoesAsSource, BeginsInMain}

pub record DoesInRuns (layout : Arrangement) (program : Program) (plan : Plan) (code : Code) : Type 0 where
  pub pieces : List Piece
  pub runs : List (List Op)
  pub spelled : IsSpelled code (flow_of layout.nodes program) plan pieces runs
  pub between : ℕ → ℕ → List ℕ
  pub are_empty : (now next : ℕ) → All (λ t. slice_get runs t ≡ Some []) (between now next)
  pub does : (node budget : ℕ) → node < layout.nodes
      → DoesAsSource (told_of layout program node budget)
      (played_of layout program plan code pieces between node budget)

-- whatever goes one-way
abbrev pub CodeDoesAsItsSource : Type 0
CodeDoesAsItsSource =
    (layout : Arrangement) (program : Program) (plan : Plan) (code : Code)
    → IsLaidSource layout program → IsPlan (flow_of layout.nodes program) plan
    → WaitsInTime (flow_of layout.nodes program) plan → IsCodeOf plan program code → BeginsInMain program code
    → DoesInRuns layout program plan code
