-- What is known of the code of a source: it is sound, and shows what its source shows.
use Rattle.std.specs.Prelude.{ℕ, ◌<◌, List}
use Rattle.sc_layout.specs.Layout.{Arrangement}
use Rattle.sc_isa.specs.declared.code.Code.{Code}
use Rattle.sc_isa.specs.declared.op.Op.{Op}
use Rattle.sc_isa.specs.Sound.{IsSound}
use Rattle.sc_core.specs.Core.{Program}
use Rattle.site_graph.specs.declared.plan.Plan.{Plan}
use Rattle.site_graph.specs.Plans.{IsPlan, WaitsInTime}
use Rattle.flow_form.specs.FlowOf.{flow_of}
use Rattle.value_soundness.specs.Laws.{IsLaidSource}
use Rattle.node_emit.specs.Sources.{IsCodeOf}
use Rattle.node_emit.specs.Spelled.{Piece, IsSpelled}
use Rattle.node_emit.specs.Law.{told_of, played_of, Reaches, BeginsInMain}

-- The code of a laid source, under a plan that waits in time, is sound, whatever goes one-way.
abbrev pub CodeIsSound : Type 0
CodeIsSound =
    (layout : Arrangement) (program : Program) (plan : Plan) (code : Code)
    → IsLaidSource layout program → IsPlan (flow_of layout.nodes program) plan
    → WaitsInTime (flow_of layout.nodes program) plan → IsCodeOf plan program code → BeginsInMain program code
    → IsSound code layout

-- the code is spelled by the runs of the points of the flow, and shows what the source shows
pub record ShowsInRuns (layout : Arrangement) (program : Program) (plan : Plan) (code : Code) : Type 0 where
  pub pieces : List Piece
  pub runs : List (List Op)
  pub spelled : IsSpelled code (flow_of layout.nodes program) plan pieces runs
  pub between : ℕ → ℕ → List ℕ
  pub reaches : (node budget : ℕ) → node < layout.nodes
      → Reaches (told_of layout program node budget) (played_of layout program plan code pieces between node budget)

-- and it shows what its source shows
abbrev pub CodeShowsItsSource : Type 0
CodeShowsItsSource =
    (layout : Arrangement) (program : Program) (plan : Plan) (code : Code)
    → IsLaidSource layout program → IsPlan (flow_of layout.nodes program) plan
    → WaitsInTime (flow_of layout.nodes program) plan → IsCodeOf plan program code → BeginsInMain program code
    → ShowsInRuns layout program plan code
