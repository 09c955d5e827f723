-- Small sources that use up their budget or their frames.
use Rattle.std.specs.Prelude.{◌≡◌, ℕ, true, None, [], ◌∷◌}
use Rattle.resumption.specs.Resumption.{RunOf, Ends, run_of}
use Rattle.sc_base.specs.declared.value.End.TheVariants.{Ended, Fault, Cut}
use Rattle.sc_base.specs.declared.value.FaultKind.TheVariants.{Depth}
use Rattle.sc_core.specs.declared.operation.Operation.TheVariants.{Call}
use Rattle.sc_core.specs.declared.operation.Action.TheVariants.{Drop}
use Rattle.sc_core.specs.Core.{step, none, nothing, break, continue, loop, Function, Program}
use Rattle.sc_meaning.specs.declared.request.Request.{Request}
use Rattle.sc_meaning.specs.declared.request.Request.TheVariants.{Put}
use Rattle.sc_meaning.specs.Asking.{Halt, Finishes}
use Rattle.sc_meaning.specs.Meaning.{meaning}
use Rattle.meaning_laws.specs.ExampleSources.{layout, one, put, acts, in_order, program}
use Rattle.meaning_laws.specs.ExampleHistories.{int, s0, s1}

-- what node 0 does under the budget, where nothing is answered
abbrev pub runs : Program → (budget : ℕ) → RunOf Request Halt
runs program budget = run_of (meaning (record { layout = layout; node = 0; program = program }) budget) []

-- `for (;;) { s[0] := 1; }`
abbrev pub endless : Program
endless = program (loop None nothing (put 0 1) nothing ∷ []) []

-- a loop whose body goes on before its second put, and is left by what stands before a turn, or after it
abbrev pub left_before : Program
left_before = program (loop None break (put 0 1) nothing ∷ put 1 2 ∷ []) []

abbrev pub left_after : Program
left_after = program (loop None nothing (in_order (put 0 1 ∷ continue ∷ put 0 3 ∷ [])) break ∷
    put 1 2 ∷ []) []

abbrev pub calling : (function : ℕ) → Function
calling f = record {
  params = [];
  others = [];
  result = record { void = true; stars = [] };
  body = acts Drop (one (step (Call f 0) none 1));
  line = 1;
}

-- `f() { f(); } splitc_main() { f(); }`
abbrev pub calls_itself : Program
calls_itself = record { functions = calling 0 ∷ calling 0 ∷ []; main = 1; texts = [] }

pub record BudgetsCut : Type 0 where
  pub no_turn : (runs endless 0).events ≡ []
  pub three_turns : (runs endless 3).events ≡ Put s0 (int 1) 1 ∷ Put s0 (int 1) 1 ∷ Put s0 (int 1) 1 ∷ []
  pub endless_is_cut : (runs endless 3).end ≡ Ends (Finishes Cut)
  -- a loop that is left before its turn uses no budget
  pub before : (runs left_before 0).events ≡ Put s1 (int 2) 1 ∷ []
  pub before_ends : (runs left_before 0).end ≡ Ends (Finishes Ended)
  pub after : (runs left_after 1).events ≡ Put s0 (int 1) 1 ∷ Put s1 (int 2) 1 ∷ []
  pub after_ends : (runs left_after 1).end ≡ Ends (Finishes Ended)
  -- 255 calls make 256 frames, and the 256th call decides
  pub call_is_cut : (runs calls_itself 255).end ≡ Ends (Finishes Cut)
  pub call_is_deep : (runs calls_itself 256).end ≡ Ends (Finishes (Fault Depth 1))
