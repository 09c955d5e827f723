-- The code of a source under a plan: its pieces, the runs of its points, and the empty points between two runs.
use Rattle.std.specs.Prelude.{◌≡◌, ℕ, ◌+◌, ◌<◌, List, [], ◌∷◌, ◌++◌, length, map, Option, Some, None, slice_get, All}
use Rattle.sc_layout.specs.Layout.{Arrangement}
use Rattle.sc_isa.specs.declared.code.Code.{Code}
use Rattle.sc_isa.specs.declared.op.Op.{Op}
use Rattle.sc_core.specs.Core.{Function, Program}
use Rattle.sc_meaning.specs.Points.{size_of, first_point}
use Rattle.site_graph.specs.declared.flow.Edge.{Edge}
use Rattle.site_graph.specs.declared.plan.Plan.{Plan}
use Rattle.site_graph.specs.Plans.{IsPlan, WaitsInTime}
use Rattle.site_graph.specs.Ways.{Goes}
use Rattle.flow_form.specs.Within.{Placed}
use Rattle.flow_form.specs.Accesses.{accesses_in}
use Rattle.flow_form.specs.FlowOf.{all_points, edges_called, flow_of}
use Rattle.value_soundness.specs.Laws.{IsLaidSource}
use Rattle.node_emit.specs.Widths.{width_of}
use Rattle.node_emit.specs.Sources.{IsCodeOf}
use Rattle.node_emit.specs.Spelled.{Piece, IsSpelled}
use Rattle.node_emit.specs.Law.{told_of, played_of, DoesAsSource, BeginsInMain}
use Rattle.emit_laws.proofs.Parts.{FunctionAt}
use Rattle.emit_laws.proofs.Items.{Item, glue, runs, all_pieces, function_items, functions_items}
use Rattle.emit_laws.proofs.Setups.{setup, TellsEmpty}

-- ---- pieces

abbrev pub source_items : Plan → Program → List Item
source_items plan program = functions_items plan program.functions 1 0 0

abbrev pub pieces_of : Plan → Program → List Piece
pieces_of plan program = all_pieces plan (source_items plan program)

-- ---- the runs of the points

abbrev pub runs_in : List Item → List (List Op)
runs_in [] = []
runs_in (glue o ∷ more) = runs_in more
runs_in (runs t line first others ∷ more) = (first ∷ others) ∷ runs_in more

-- the first point of a function has an empty run
abbrev pub function_runs : Plan → List Function → (k s pc : ℕ) → List (List Op)
function_runs plan [] k s pc = []
function_runs plan (f ∷ more) k s pc =
    ([] ∷ runs_in (function_items plan f k s pc)) ++
    function_runs plan more (k + size_of f.body + 2) (s + accesses_in f.body) (pc + width_of plan f k)

-- and so has Start
abbrev pub runs_of : Plan → Program → List (List Op)
runs_of plan program = [] ∷ function_runs plan program.functions 1 0 0

-- ---- the empty points between two runs

abbrev pub called_by : Option Placed → Option ℕ
called_by None = None
called_by (Some p) = p.callee

-- the function that the point calls; Start calls the one that is begun in
abbrev pub callee_at : Arrangement → Program → (point : ℕ) → Option ℕ
callee_at layout program t = called_by (slice_get (all_points layout.nodes program) t)

-- Behind a point that calls a function its first point is passed, and behind any other none.
abbrev pub between_of : Arrangement → Program → (now next : ℕ) → List ℕ
between_of layout program now next = map (λ (e : Edge). e.to) (edges_called program.functions now (callee_at layout program now))

-- ---- what is proved of them

module _ (layout : Arrangement) (program : Program) (plan : Plan) (code : Code) where
  -- the empty points lie apart, and `between_of` tells which is passed
  abbrev pub EmptyAreTold : Type 0
  EmptyAreTold = TellsEmpty layout program plan code (pieces_of plan program) (between_of layout program)

  -- each function has its flow, and its code lies where its row says
  abbrev pub FunctionsLie : Type 0
  FunctionsLie =
      (node f : ℕ) (g : Function) → slice_get program.functions f ≡ Some g
      → FunctionAt (setup layout program plan code (pieces_of plan program) (between_of layout program) node) f g

  abbrev pub CodeDoes : Type 0
  CodeDoes =
      (node budget : ℕ) → node < layout.nodes
      → DoesAsSource (told_of layout program node budget)
      (played_of layout program plan code (pieces_of plan program) (between_of layout program) node budget)

  pub record IsCompiled : Type 0 where
    pub tells_empty : EmptyAreTold
    pub functions : FunctionsLie
    pub sites : length (flow_of layout.nodes program).sites ≡ code.sites
    pub main : Function
    pub is_main : slice_get program.functions program.main ≡ Some main
    pub no_params : main.params ≡ []
    pub goes : Goes (flow_of layout.nodes program) 0 (first_point program.functions program.main)
    pub spelled : IsSpelled code (flow_of layout.nodes program) plan (pieces_of plan program) (runs_of plan program)
    pub are_empty : (now next : ℕ) → All (λ t. slice_get (runs_of plan program) t ≡ Some []) (between_of layout program now next)
    pub does : CodeDoes

-- the code of a laid source under a plan that waits in time
abbrev pub CodeIsCompiled : Type 0
CodeIsCompiled =
    (layout : Arrangement) (program : Program) (plan : Plan) (code : Code)
    → IsLaidSource layout program → IsPlan (flow_of layout.nodes program) plan
    → WaitsInTime (flow_of layout.nodes program) plan → IsCodeOf plan program code → BeginsInMain program code
    → IsCompiled layout program plan code
