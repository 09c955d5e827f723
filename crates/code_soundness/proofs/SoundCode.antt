-- The code of a source is sound, where its functions lie as the flow has them.
use Rattle.std.proofs.Common.{◌≡◌, ℕ, ◌<◌, List, [], length, Some, true, slice_get}
use Rattle.sc_base.specs.declared.value.Value.{Value}
use Rattle.sc_layout.specs.Layout.{Arrangement}
use Rattle.sc_isa.specs.declared.code.Code.{Code}
use Rattle.sc_isa.specs.Begin.{begin}
use Rattle.sc_isa.specs.Sound.{IsSound}
use Rattle.sc_core.specs.Core.{Function, Program}
use Rattle.sc_meaning.specs.Points.{first_point}
use Rattle.sc_meaning.specs.Meaning.{begun}
use Rattle.site_graph.specs.declared.plan.Plan.{Plan}
use Rattle.site_graph.specs.Plans.{IsPlan, WaitsInTime}
use Rattle.site_graph.specs.Ways.{Goes}
use Rattle.flow_form.specs.FlowOf.{flow_of}
use Rattle.value_soundness.specs.Laws.{IsLaidSource}
use Rattle.node_emit.specs.Sources.{IsCodeOf}
use Rattle.node_emit.specs.Spelled.{Piece}
use Rattle.node_emit.specs.Law.{told_of, played_of, Reaches, BeginsInMain}
use Rattle.emit_laws.proofs.Parts.{FunctionAt}
use Rattle.emit_laws.proofs.Setups.{setup, TellsEmpty, timely, reaches}
use Rattle.emit_laws.proofs.Whole.{at_beginning}
use Rattle.code_soundness.proofs.Numbers.{numbers, falls}
use Rattle.code_soundness.proofs.Lawfully.{lawful_begun, lawful_pass}
use Rattle.code_soundness.proofs.Safe.{Safe, safely, safe_at}
use Rattle.code_soundness.proofs.Reaching.{goes_on, placed}

module _ (layout : Arrangement) (program : Program) (plan : Plan) (code : Code) (pieces : List Piece)
    (between : ℕ → ℕ → List ℕ)
    (source : IsLaidSource layout program) (is_plan : IsPlan (flow_of layout.nodes program) plan)
    (in_time : WaitsInTime (flow_of layout.nodes program) plan) (is : IsCodeOf plan program code)
    (begins : BeginsInMain program code)
    (sites : length (flow_of layout.nodes program).sites ≡ code.sites)
    (tells : TellsEmpty layout program plan code pieces between)
    (functions : (node f : ℕ) (g : Function) → slice_get program.functions f ≡ Some g
    → FunctionAt (setup layout program plan code pieces between node) f g)
    (goes : Goes (flow_of layout.nodes program) 0 (first_point program.functions program.main)) where
  -- from its beginning on a node is safe under each oracle
  safe : (node budget : ℕ) → node < layout.nodes → (value : ℕ → Value) (n : ℕ)
      → Safe (setup layout program plan code pieces between node) value n (record { accesses = 0; flying = [] })
      (begin code budget)
  safe node budget within value n =
      let c = setup layout program plan code pieces between node in
      let d = begun c.here (slice_get program.functions program.main) budget in
      safe_at c value (record { at = 0; left = []; own = true; accesses = 0; flying = [] }) (begin code budget) d
      (at_beginning c (timely layout program plan code pieces between node is_plan in_time sites is.texts tells)
      (functions node)
      source.typed.main source.typed.begins source.typed.no_params goes begins value (safely c value) budget)
      (lawful_pass layout program 0 d (lawful_begun layout program node budget source within)) n

  pub is_sound : IsSound code layout
  is_sound = record {
    never_stuck = λ node budget s within reached.
        goes_on (setup layout program plan code pieces between node) budget (safe node budget within) s reached;
    placed = λ node budget s within reached.
        placed (setup layout program plan code pieces between node) budget (safe node budget within) s reached;
    numbers = numbers plan program code _ source.typed is;
    falls = λ node budget s next within reached plain leads. falls plan program code _ source.typed is layout node s
        next plain leads;
  }

  -- what the source shows the code shows too
  pub shows : (node budget : ℕ) → Reaches (told_of layout program node budget)
      (played_of layout program plan code pieces between node budget)
  shows node budget =
      reaches layout program plan code pieces between node budget is_plan in_time sites is.texts tells (functions node)
      source.typed.main source.typed.begins source.typed.no_params goes begins
