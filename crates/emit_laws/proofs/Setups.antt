-- The code of a source under a plan, as the proofs see it, and what is left to show of its flow and its code.
use Rattle.std.proofs.Common.{◌≡◌, ℕ, List, [], ◌∷◌, length, Some, true, false, slice_get, refl, arith}
use Rattle.std.specs.Option.{option_map_or}
use Rattle.sc_layout.specs.Layout.{Arrangement}
use Rattle.sc_isa.specs.declared.code.Code.{Code}
use Rattle.sc_core.specs.Core.{Function, Program}
use Rattle.sc_meaning.specs.Points.{first_point}
use Rattle.site_graph.specs.declared.plan.Plan.{Plan}
use Rattle.site_graph.specs.declared.point.Point.{Point}
use Rattle.site_graph.specs.declared.site.Site.{Site}
use Rattle.site_graph.specs.Graph.{Graph, site_at, IsAt}
use Rattle.site_graph.specs.Ways.{Goes}
use Rattle.site_graph.specs.Plans.{waits_at, Uses, IsPlan, WaitsInTime}
use Rattle.flow_form.specs.FlowOf.{returns, flow_of}
use Rattle.node_emit.specs.Runs.{goes_one_way}
use Rattle.node_emit.specs.Sources.{locals_of}
use Rattle.node_emit.specs.Law.{is_empty, told_of, played_of, DoesAsSource, Reaches, BeginsInMain}
use Rattle.node_emit.specs.Spelled.{Piece}
use Rattle.node_emit.specs.Stands.{stands_at}
use Rattle.node_emit.specs.Pointed.{code_points}
use Rattle.node_emit.specs.Oracles.{plays, at_first}
use Rattle.emit_laws.proofs.Parts.{Setup, FunctionAt}
use Rattle.emit_laws.proofs.Openings.{IsReadAt, IsOpen, opens, opens_on, waited_there, waits_within}
use Rattle.emit_laws.proofs.Standing.{Timely}
use Rattle.emit_laws.proofs.Whole.{does_as_source, reaches_source}

-- a site whose read fills the local of the function
pub record IsFilling (graph : Graph) (fn local site : ℕ) : Type 0 where
  pub what : Site
  pub is_site : site_at graph site ≡ Some what
  pub fills : what.fills ≡ Some local
  pub at : ℕ
  pub is_at : IsAt graph site at
  pub point : Point
  pub is_point : slice_get graph.points at ≡ Some point
  pub function_is : point.function ≡ fn

module _ (layout : Arrangement) (program : Program) (plan : Plan) (code : Code) (pieces : List Piece) (between : ℕ → ℕ → List ℕ) where
  abbrev pub graph : Graph
  graph = flow_of layout.nodes program

  abbrev pub setup : ℕ → Setup
  setup node = record {
    here = record { layout = layout; node = node; program = program };
    code = code;
    waits = waits_at plan;
    one_way = goes_one_way plan;
    Goes = Goes graph;
    Demand = λ t site. Uses graph site t;
    Fetches = λ t site. IsReadAt graph t site;
    Fills = λ fn x site. IsFilling graph fn x site;
    returns = returns program.functions;
    stands = λ pc. stands_at plan pieces pc;
    between = between;
    locals = λ fn. option_map_or locals_of (slice_get program.functions fn) 0;
  }

  -- the empty points lie apart, and between two runs the code tells which is passed
  pub record TellsEmpty : Type 0 where
    pub direct : (p t : ℕ) → Goes graph p t → is_empty program t ≡ false → between p t ≡ []
    pub through : (p e t : ℕ) → Goes graph p e → is_empty program e ≡ true → Goes graph e t → is_empty program t ≡ false → between p t ≡ e ∷ []
    pub apart : (p e t : ℕ) → Goes graph p e → is_empty program e ≡ true → Goes graph e t → is_empty program t ≡ true → ⊥

  pub timely : (node : ℕ) → IsPlan graph plan → WaitsInTime graph plan → length graph.sites ≡ code.sites → code.texts ≡ program.texts → TellsEmpty → Timely (setup node)
  timely node is_plan in_time sites texts tells = record {
    Open = λ u site. IsOpen graph plan u site;
    opens = λ t u site read goes. opens graph plan t u site read goes;
    goes_on = λ t u site open_ unused unwaited goes. opens_on graph plan t u site open_ unused unwaited goes;
    waited = λ t site open_ uses. waited_there graph plan in_time t site open_ uses;
    counters = λ t site i. let w = waits_within graph plan t site is_plan.on_sites i in (omega (arith, w.0), omega (arith, w.1, sites));
    texts = texts;
    direct = tells.direct;
    through = tells.through;
    apart = tells.apart;
  }

  -- The code does as its source does, where its functions lie as the flow has them.
  pub does : (node budget : ℕ) → IsPlan graph plan → WaitsInTime graph plan → length graph.sites ≡ code.sites → code.texts ≡ program.texts → TellsEmpty
      → ((f : ℕ) (g : Function) → slice_get program.functions f ≡ Some g → FunctionAt (setup node) f g)
      → (g : Function) → slice_get program.functions program.main ≡ Some g → g.params ≡ [] → Goes graph 0 (first_point program.functions program.main)
      → BeginsInMain program code
      → DoesAsSource (told_of layout program node budget)
      (λ oracle many. plays oracle (is_empty program) at_first (code_points code layout plan pieces between node budget many))
  does node budget is_plan in_time sites texts tells functions g is_main no_params goes begins =
      does_as_source (setup node) (timely node is_plan in_time sites texts tells) functions g is_main no_params goes begins plan pieces (λ pc. refl) budget

  -- And what the source shows it shows.
  pub reaches : (node budget : ℕ) → IsPlan graph plan → WaitsInTime graph plan → length graph.sites ≡ code.sites → code.texts ≡ program.texts → TellsEmpty
      → ((f : ℕ) (g : Function) → slice_get program.functions f ≡ Some g → FunctionAt (setup node) f g)
      → (g : Function) → slice_get program.functions program.main ≡ Some g → g.params ≡ [] → Goes graph 0 (first_point program.functions program.main)
      → BeginsInMain program code
      → Reaches (told_of layout program node budget) (played_of layout program plan code pieces between node budget)
  reaches node budget is_plan in_time sites texts tells functions g is_main no_params goes begins =
      reaches_source (setup node) (timely node is_plan in_time sites texts tells) functions g is_main no_params goes begins plan pieces (λ pc. refl) budget
