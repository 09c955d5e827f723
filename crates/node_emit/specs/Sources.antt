-- The code of a source: the functions in the order of the text, each its body and the return at its end.
use Rattle.std.specs.Prelude.{◌≡◌, ℕ, suc, ◌+◌, ◌<◌, List, [], ◌∷◌, ◌++◌, length, slice_get, Some}
use Rattle.sc_base.specs.declared.limits.TheConstants.{LIMITS}
use Rattle.sc_isa.specs.declared.code.Code.{Code}
use Rattle.sc_isa.specs.declared.code.FnRow.{FnRow}
use Rattle.sc_isa.specs.declared.op.Instr.{Instr}
use Rattle.sc_isa.specs.declared.op.Op.TheVariants.{Ret}
use Rattle.sc_core.specs.Core.{Function, Program}
use Rattle.sc_core.specs.Statements.{zero_of}
use Rattle.sc_meaning.specs.Points.{size_of}
use Rattle.flow_form.specs.Accesses.{accesses_in, accesses_of}
use Rattle.site_graph.specs.declared.plan.Plan.{Plan}
use Rattle.node_emit.specs.Runs.{outside, run, constant_op}
use Rattle.node_emit.specs.Widths.{width_of}
use Rattle.node_emit.specs.Statements.{code_in}

-- of a function whose first point is k; no loop is around its body
abbrev pub function_code : Plan → Function → (k s pc : ℕ) → List Instr
function_code plan f k s pc =
    code_in plan f.body (k + 1) s 0 0 pc ++ outside (constant_op (zero_of f.result)) ∷
    run plan (k + 1 + size_of f.body) f.line (Ret ∷ [])

abbrev pub functions_code : Plan → List Function → (k s pc : ℕ) → List Instr
functions_code plan [] k s pc = []
functions_code plan (f ∷ more) k s pc =
    function_code plan f k s pc ++
    functions_code plan more (k + size_of f.body + 2) (s + accesses_in f.body) (pc + width_of plan f k)

-- how many locals the function has, its parameters among them
abbrev pub locals_of : Function → ℕ
locals_of f = length f.params + length f.others

abbrev pub rows_from : Plan → List Function → (k pc : ℕ) → List FnRow
rows_from plan [] k pc = []
rows_from plan (f ∷ more) k pc =
    record { start = pc; params = length f.params; locals = locals_of f } ∷
    rows_from plan more (k + size_of f.body + 2) (pc + width_of plan f k)

-- it is the code of the source under the plan
pub record IsCodeOf (plan : Plan) (program : Program) (code : Code) : Type 0 where
  pub functions : code.functions ≡ rows_from plan program.functions 1 0
  pub instrs : code.instrs ≡ functions_code plan program.functions 1 0 0
  pub texts : code.texts ≡ program.texts
  pub sites : code.sites ≡ accesses_of program

-- the function with this number is the first that has more locals than the limit
pub record IsFirstOver (program : Program) (count : ℕ) : Type 0 where
  pub number : ℕ
  pub over : Function
  pub is_there : slice_get program.functions number ≡ Some over
  pub is_over : LIMITS.locals < locals_of over
  pub count_is : count ≡ locals_of over
  pub before : (n : ℕ) (f : Function) → n < number → slice_get program.functions n ≡ Some f →
      (LIMITS.locals < locals_of f) → ⊥
