-- Code while it is written, and what each part of a core tree adds to it. A jump whose target is not known yet leads
-- to 0 until it is led on: backpatching, as in Aho, Sethi and Ullman, "Compilers" (1986).
use Rattle.std.specs.Prelude.{ℕ, suc, ◌+◌, pos, List, [], ◌∷◌, ◌++◌, length, map, set, Option, Some, None, Bool}
use Rattle.sc_isa.specs.declared.op.Instr.{Instr}
use Rattle.sc_isa.specs.declared.op.Op.{Op}
use Rattle.sc_isa.specs.declared.op.Op.TheVariants.{Push, Jump, Zero, Wait}
use Rattle.sc_core.specs.declared.operation.Operation.{Operation}
use Rattle.sc_core.specs.declared.operation.Action.{Action}
use Rattle.sc_core.specs.Core.{Core, Arguments}
use Rattle.sc_core.specs.Table.{ops_of, ops_of_action}
use Rattle.sc_meaning.specs.Points.{size, sizes}
use Rattle.flow_form.specs.Accesses.{accesses, accesses_all, accesses_by, accesses_by_action}
use Rattle.site_graph.specs.declared.plan.Plan.{Plan}
use Rattle.node_emit.specs.Runs.{goes_one_way, instr, outside, run, test_ops}
use Rattle.node_emit.specs.Expressions.{code, code_all}

-- the instructions so far, the number of the next point, and how many sites come before it
pub record Written : Type 0 where
  pub instrs : List Instr
  pub point : ℕ
  pub sites : ℕ

-- ---- single instructions

unfoldable pub grown : Written → List Instr → (points sites : ℕ) → Written
grown d more points sites = record { instrs = d.instrs ++ more; point = d.point + points; sites = d.sites + sites }

unfoldable pub put_instr : Instr → Written → Written
put_instr i d = grown d (i ∷ []) 0 0

abbrev pub put : Op → Written → Written
put o d = put_instr (outside o) d

unfoldable pub put_all : (line : ℕ) → List Op → Written → Written
put_all line ops d = grown d (map (instr line) ops) 0 0

-- the point is done with
unfoldable pub passed : Written → Written
passed d = grown d [] 1 0

-- so many sites more come before
unfoldable pub counted : ℕ → Written → Written
counted n d = grown d [] 0 n

unfoldable pub waits_put : (line : ℕ) → List ℕ → Written → Written
waits_put line sites d = grown d (map (λ site. instr line (Wait site)) sites) 0 0

-- the instruction at this place becomes another
unfoldable pub led : (at : ℕ) → Instr → Written → Written
led at i d = record d { instrs = set d.instrs at i }

unfoldable pub led_all : List ℕ → (target : ℕ) → Written → Written
led_all [] target d = d
led_all (at ∷ more) target d = led_all more target (led at (outside (Jump target)) d)

abbrev pub place_of : Written → ℕ
place_of d = length d.instrs

-- ---- runs

unfoldable pub ran : Plan → (line : ℕ) → List Op → Written → Written
ran plan line ops d = grown d (run plan d.point line ops) 1 0

unfoldable pub stepped : Plan → Operation → (line : ℕ) → Written → Written
stepped plan operation line d =
    counted (accesses_by operation) (ran plan line (ops_of (goes_one_way plan (suc d.sites)) (suc d.sites) operation) d)

unfoldable pub acted : Plan → Action → (line : ℕ) → Written → Written
acted plan action line d =
    counted (accesses_by_action action) (ran plan line (ops_of_action (suc d.sites) action) d)

unfoldable pub taken_back : Plan → Option Operation → (line : ℕ) → Written → Written
taken_back plan None line d = d
taken_back plan (Some operation) line d = stepped plan operation line (put (Push (pos 1)) d)

-- ---- choices: the test with a target that is not known; the way past the other branch, which begins behind it

unfoldable pub tested : Plan → (of_pointer : Bool) → Written → Written
tested plan of_pointer d = ran plan 0 (test_ops of_pointer 0) d

unfoldable pub turned : (place : ℕ) → Written → Written
turned place d = led place (instr 0 (Zero (length d.instrs + 1))) (put (Jump 0) d)

-- the jumps lead to what comes next
unfoldable pub ended : List ℕ → Written → Written
ended jumps d = led_all jumps (length d.instrs) d

-- ---- expressions

unfoldable pub emitted : Plan → Core → Written → Written
emitted plan e d = grown d (code plan e d.point d.sites (length d.instrs)) (size e) (accesses e)

unfoldable pub emitted_all : Plan → Arguments → Written → Written
emitted_all plan all d = grown d (code_all plan all d.point d.sites (length d.instrs)) (sizes all) (accesses_all all)
