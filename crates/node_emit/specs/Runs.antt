-- The runs of single points: the waits that a plan puts before a step, and the step's instructions. Waits stand where
-- they are first demanded, after Krishnamurthy and Yelick, "Optimizing parallel programs with explicit
-- synchronization" (1995).
use Rattle.std.specs.Prelude.{ℕ, ◌+◌, ◌==◌, Bool, true, false, List, [], ◌∷◌, ◌++◌, length, map}
use Rattle.std.specs.List.{list_any}
use Rattle.sc_isa.specs.declared.op.Instr.{Instr}
use Rattle.sc_isa.specs.declared.op.Op.{Op}
use Rattle.sc_isa.specs.declared.op.Op.TheVariants.{Push, Null, Mine, Procs, Truth, Zero, Wait}
use Rattle.sc_core.specs.declared.operation.Constant.{Constant}
use Rattle.sc_core.specs.declared.operation.Constant.TheVariants as constants
use Rattle.site_graph.specs.declared.plan.Plan.{Plan}
use Rattle.site_graph.specs.Plans.{waits_at}

-- the write of the site is sent one-way
abbrev pub goes_one_way : Plan → (site : ℕ) → Bool
goes_one_way plan site = list_any (λ other. other == site) plan.oneway

abbrev pub instr : (line : ℕ) → Op → Instr
instr line o = record { op = o; line = line }

-- an instruction that belongs to no point; it meets no fault, and has no line
abbrev pub outside : Op → Instr
outside o = instr 0 o

-- the waits of the point, and then the instructions of its step
abbrev pub run : Plan → (point line : ℕ) → List Op → List Instr
run plan t line ops = map (λ site. instr line (Wait site)) (waits_at plan t) ++ map (instr line) ops

-- how long the run of a step of so many instructions is
abbrev pub run_width : Plan → (point ops : ℕ) → ℕ
run_width plan t ops = length (waits_at plan t) + ops

abbrev pub constant_op : Constant → Op
constant_op (constants.Number n) = Push n
constant_op constants.Null = Null
constant_op constants.Mine = Mine
constant_op constants.Procs = Procs

-- a test, of a pointer where the first says so, which leads on, or on 0 to the target
abbrev pub test_ops : (of_pointer : Bool) → (target : ℕ) → List Op
test_ops false target = Zero target ∷ []
test_ops true target = Truth ∷ Zero target ∷ []

abbrev pub test_width : (of_pointer : Bool) → ℕ
test_width false = 1
test_width true = 2
