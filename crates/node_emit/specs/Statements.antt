-- The code of statements. k is the number of the first point, s says how many sites come before, and pc is the number
-- of the first instruction; `break` leads to `out`, and `continue` to `again`.
use Rattle.std.specs.Prelude.{ℕ, suc, ◌+◌, List, [], ◌∷◌, ◌++◌}
use Rattle.sc_isa.specs.declared.op.Instr.{Instr}
use Rattle.sc_isa.specs.declared.op.Op.TheVariants.{Jump, Turn, Ret}
use Rattle.sc_core.specs.Core.{Does, nothing, break, continue, then_, act, choose, loop, return}
use Rattle.sc_core.specs.Table.{ops_of_action}
use Rattle.sc_meaning.specs.Points.{size, sizes, size_of}
use Rattle.flow_form.specs.Accesses.{accesses, accesses_all, accesses_in}
use Rattle.site_graph.specs.declared.plan.Plan.{Plan}
use Rattle.node_emit.specs.Runs.{outside, run, run_width, test_ops, test_width}
use Rattle.node_emit.specs.Widths.{width, width_in}
use Rattle.node_emit.specs.Expressions.{code, code_all}

module _ (plan : Plan) where
  abbrev pub code_in : Does → (k s out again pc : ℕ) → List Instr
  code_in nothing k s out again pc = []
  code_in break k s out again pc = outside (Jump out) ∷ []
  code_in continue k s out again pc = outside (Jump again) ∷ []
  code_in (then_ first second) k s out again pc =
      code_in first k s out again pc ++
      code_in second (k + size_of first) (s + accesses_in first) out again (pc + width_in plan first k)
  code_in (act action arguments line) k s out again pc =
      code_all plan arguments k s pc ++
      run plan (k + sizes arguments) line (ops_of_action (suc (s + accesses_all arguments)) action)
  code_in (choose of_pointer test on off) k s out again pc =
      let t = k + size test in
      let s' = s + accesses test in
      let at_on = pc + width plan test k + run_width plan t (test_width of_pointer) in
      let at_off = at_on + width_in plan on (t + 1) + 1 in
      let end = at_off + width_in plan off (t + 1 + size_of on) in
      code plan test k s pc ++ run plan t 0 (test_ops of_pointer at_off) ++ code_in on (t + 1) s' out again at_on ++
      outside (Jump end) ∷ code_in off (t + 1 + size_of on) (s' + accesses_in on) out again at_off
  -- what comes before a turn, the turn, the body, what comes behind it, and the way back
  code_in (loop mine before body after) k s out again pc =
      let t = k + size_of before in
      let u = t + 1 + size_of body in
      let s_body = s + accesses_in before in
      let at_body = pc + width_in plan before k + run_width plan t 1 in
      let at_after = at_body + width_in plan body (t + 1) in
      let end = at_after + width_in plan after u + 1 in
      code_in before k s end again pc ++ run plan t 0 (Turn ∷ [])
      ++ code_in body (t + 1) s_body end at_after at_body ++
      code_in after u (s_body + accesses_in body) end again at_after ++ outside (Jump pc) ∷ []
  code_in (return e line) k s out again pc = code plan e k s pc ++ run plan (k + size e) line (Ret ∷ [])
