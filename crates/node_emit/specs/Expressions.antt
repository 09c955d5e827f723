-- The code of expressions. k is the number of the first point, s says how many sites come before, and pc is the number
-- of the first instruction. Each point's run is its waits and its instructions; constants, the copy of an update's
-- pointer and jumps stand outside of the runs.
use Rattle.std.specs.Prelude.{ℕ, suc, ◌+◌, pos, List, [], ◌∷◌, ◌++◌, Option, Some, None}
use Rattle.sc_isa.specs.declared.op.Instr.{Instr}
use Rattle.sc_isa.specs.declared.op.Op.TheVariants.{Push, Dup, Jump, Read}
use Rattle.sc_core.specs.declared.operation.Operation.{Operation}
use Rattle.sc_core.specs.Core.{Core, constant, step, choice, update, Arguments, none, argument}
use Rattle.sc_core.specs.Table.{ops_of, write_op}
use Rattle.sc_meaning.specs.Points.{size, sizes}
use Rattle.flow_form.specs.Accesses.{accesses, accesses_all, accesses_by}
use Rattle.site_graph.specs.declared.plan.Plan.{Plan}
use Rattle.node_emit.specs.Runs.{goes_one_way, outside, run, run_width, constant_op, test_ops, test_width}
use Rattle.node_emit.specs.Widths.{width, widths, ops_width}

module _ (plan : Plan) where
  -- the step of an operation at the point t, behind s sites
  abbrev pub step_code : Operation → (line t s : ℕ) → List Instr
  step_code operation line t s = run plan t line (ops_of (goes_one_way plan (suc s)) (suc s) operation)

  abbrev pub back_code : Option Operation → (line t s : ℕ) → List Instr
  back_code None line t s = []
  back_code (Some operation) line t s = outside (Push (pos 1)) ∷ step_code operation line t s

  abbrev mutual
    pub code : Core → (k s pc : ℕ) → List Instr
    code (constant c) k s pc = outside (constant_op c) ∷ []
    code (step operation arguments line) k s pc =
        code_all arguments k s pc ++ step_code operation line (k + sizes arguments) (s + accesses_all arguments)
    code (choice of_pointer test on off) k s pc =
        let t = k + size test in
        let s' = s + accesses test in
        let at_on = pc + width plan test k + run_width plan t (test_width of_pointer) in
        let at_off = at_on + width plan on (t + 1) + 1 in
        let end = at_off + width plan off (t + 1 + size on) in
        code test k s pc ++ run plan t 0 (test_ops of_pointer at_off) ++ code on (t + 1) s' at_on ++
        outside (Jump end) ∷ code off (t + 1 + size on) (s' + accesses on) at_off
    -- the pointer, kept for the write; the read, the right side, what joins the two, the write, and what takes back
    code (update pointer operation right back line) k s pc =
        let t = k + size pointer in
        let u = t + 1 + size right in
        let read = s + accesses pointer in
        let join = read + 1 + accesses right in
        let write = join + accesses_by operation in
        let at_right = pc + width plan pointer k + 1 + run_width plan t 1 in
        code pointer k s pc ++ outside Dup ∷ run plan t line (Read (suc read) ∷ []) ++
        code right (t + 1) (read + 1) at_right ++ step_code operation line u join ++
        run plan (u + 1) line (write_op (goes_one_way plan (suc write)) (suc write) ∷ []) ++
        back_code back line (u + 2) (write + 1)

    pub code_all : Arguments → (k s pc : ℕ) → List Instr
    code_all none k s pc = []
    code_all (argument e more) k s pc =
        code e k s pc ++ code_all more (k + size e) (s + accesses e) (pc + width plan e k)
