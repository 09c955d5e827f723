-- The code of a source has numbers that fall at each step but turns, calls and returns.
use Rattle.std.proofs.Common.{◌≡◌, ℕ, ◌+◌, ◌<◌, Some, false, slice_get, All, sym, ap, ◌∙◌, subst, arith, List, get_or}
use Rattle.std.specs.Option.{option_map_or}
use Rattle.sc_base.specs.declared.shape.Shape.{Shape}
use Rattle.sc_layout.specs.Layout.{Arrangement}
use Rattle.sc_isa.specs.declared.code.Code.{Code}
use Rattle.sc_isa.specs.declared.op.Instr.{Instr}
use Rattle.sc_isa.specs.State.{State}
use Rattle.sc_isa.specs.Table.{step_of}
use Rattle.sc_isa.specs.Sound.{Leads, is_bounded, is_bounded_at}
use Rattle.sc_core.specs.Core.{Function, Program}
use Rattle.sc_core.specs.Kinds.{kind_of_type}
use Rattle.sc_core.specs.Typed.{IsTyped, IsTypedFunction, scope_of}
use Rattle.site_graph.specs.declared.plan.Plan.{Plan}
use Rattle.node_emit.specs.Sources.{IsCodeOf}
use Rattle.code_soundness.proofs.Nexts.{LeadsTo, instr_is, leads_to}
use Rattle.code_soundness.proofs.Stays.{Stays, typed_stays}
use Rattle.code_soundness.proofs.Forward.{Falls, FallsFrom}
use Rattle.code_soundness.proofs.Ranks.{functions_ranks, number_at, ranked_list, functions_fall, falls_at}

module _ (plan : Plan) (program : Program) (code : Code) (objects : List Shape) (typed : IsTyped objects program)
    (is : IsCodeOf plan program code) where
  pub numbers : ℕ → ℕ
  numbers at = number_at (functions_ranks plan program.functions 1) at

  function_stays : (f : Function) → IsTypedFunction objects program f → Stays false false f.body
  function_stays f h = typed_stays (scope_of objects program f) (kind_of_type f.result) false false f.body h

  functions_stay : All (λ (f : Function). Stays false false f.body) program.functions
  functions_stay k d lt = function_stays (get_or program.functions k d) (typed.functions k d lt)

  code_falls : FallsFrom numbers 0 code.instrs
  unfolding numbers
  code_falls =
      subst (λ all. FallsFrom numbers 0 all) (sym is.instrs)
      (functions_fall numbers plan program.functions 1 0 0 functions_stay
      (ranked_list (functions_ranks plan program.functions 1)))

  falls_there : (at : ℕ) (i : Instr) → slice_get code.instrs at ≡ Some i → is_bounded_at code at ≡ false
      → LeadsTo (λ x. numbers x < numbers at) (at + 1) i.op
  falls_there at i e plain =
      let here : 0 + at ≡ at = omega arith in
      let falls = subst (λ n. Falls numbers n i.op) here (falls_at numbers 0 code.instrs at i code_falls e) in
      falls (sym (ap (λ o. option_map_or (λ (instr : Instr). is_bounded instr.op) o false) e) ∙ plain)

  pub falls : (layout : Arrangement) (node : ℕ) (s next : State) → is_bounded_at code s.frame.at ≡ false
      → Leads layout (step_of code layout node s) next → numbers next.frame.at < numbers s.frame.at
  falls layout node s next plain leads =
      let P : ℕ → Type 0 = λ x. numbers x < numbers s.frame.at in
      leads_to P s.flying layout (step_of code layout node s) next
      (instr_is P code layout node (slice_get code.instrs s.frame.at) s (λ i e. falls_there s.frame.at i e plain)) leads
