-- Code is as long as it is said to be.
use Rattle.std.proofs.Common.{◌≡◌, refl, ℕ, Bool, true, false, length, Option, Some, None, arith, length-append}
use Rattle.std.proofs.lemmas.List.{length-map}
use Rattle.sc_core.specs.declared.operation.Operation.{Operation}
use Rattle.sc_core.specs.declared.operation.Operation.TheVariants.{Use, Element, Address, Own, Convert, Forward, Back, Binary, Unary, Same, Differ, IsNull, ToGlobal, ToProc, ToLocal, Set, Call, Read, Write}
use Rattle.sc_core.specs.declared.operation.Action.{Action}
use Rattle.sc_core.specs.declared.operation.Action.TheVariants as acts
use Rattle.sc_core.specs.Core.{Core, constant, step, choice, update, Arguments, none, argument, Does, nothing, break, continue, then_, act, choose, loop, return}
use Rattle.sc_core.specs.Table.{ops_of, ops_of_action}
use Rattle.site_graph.specs.declared.plan.Plan.{Plan}
use Rattle.node_emit.specs.Runs.{test_ops, test_width}
use Rattle.node_emit.specs.Widths.{ops_width, action_width, back_width, width, widths, width_in}
use Rattle.node_emit.specs.Expressions.{back_code, code, code_all}
use Rattle.node_emit.specs.Statements.{code_in}

pub length-ops : (w : Bool) (site : ℕ) (operation : Operation) → length (ops_of w site operation) ≡ ops_width operation
length-ops w site (Use x) = refl
length-ops w site (Element o n plain) = refl
length-ops w site (Address o n) = refl
length-ops w site Own = refl
length-ops w site Convert = refl
length-ops w site (Forward star) = refl
length-ops w site (Back star) = refl
length-ops w site (Binary operator) = refl
length-ops w site (Unary operator) = refl
length-ops w site Same = refl
length-ops w site Differ = refl
length-ops w site IsNull = refl
length-ops w site ToGlobal = refl
length-ops w site ToProc = refl
length-ops w site ToLocal = refl
length-ops w site (Set x) = refl
length-ops w site (Call f n) = refl
length-ops w site Read = refl
length-ops true site Write = refl
length-ops false site Write = refl

pub length-test : (of_pointer : Bool) (target : ℕ) → length (test_ops of_pointer target) ≡ test_width of_pointer
length-test true target = refl
length-test false target = refl

length-back : (plan : Plan) (back : Option Operation) (line t s : ℕ) → length (back_code plan back line t s) ≡ back_width plan back t
length-back plan None line t s = refl
length-back plan (Some operation) line t s = simp (length-append, length-map) (omega (arith, length-ops))

mutual
  pub length-code : (plan : Plan) (e : Core) (k s pc : ℕ) → length (code plan e k s pc) ≡ width plan e k
  length-code plan (constant c) k s pc = refl
  length-code plan (step operation arguments line) k s pc =
      simp (length-append, length-map) (omega (arith, length-all plan arguments, length-ops))
  length-code plan (choice of_pointer test on off) k s pc =
      simp (length-append, length-map) (omega (arith, length-code plan test, length-code plan on, length-code plan off, length-test))
  length-code plan (update pointer operation right back line) k s pc =
      simp (length-append, length-map) (omega (arith, length-code plan pointer, length-code plan right, length-ops, length-back plan back))

  pub length-all : (plan : Plan) (all : Arguments) (k s pc : ℕ) → length (code_all plan all k s pc) ≡ widths plan all k
  length-all plan none k s pc = refl
  length-all plan (argument e more) k s pc =
      simp length-append (omega (arith, length-code plan e, length-all plan more))

pub length-action : (site : ℕ) (action : Action) → length (ops_of_action site action) ≡ action_width action
length-action site acts.Drop = refl
length-action site (acts.Begin x) = refl
length-action site (acts.Clear x pointer) = refl
length-action site (acts.Fill x) = refl
length-action site (acts.Get x) = refl
length-action site acts.Put = refl
length-action site acts.Send = refl
length-action site (acts.Copy mode) = refl
length-action site (acts.Print text n) = refl
length-action site acts.Sync = refl
length-action site acts.Barrier = refl
length-action site acts.AllStoreSync = refl

pub length-in : (plan : Plan) (s : Does) (k n out again pc : ℕ) → length (code_in plan s k n out again pc) ≡ width_in plan s k
length-in plan nothing k n out again pc = refl
length-in plan break k n out again pc = refl
length-in plan continue k n out again pc = refl
length-in plan (then_ first second) k n out again pc =
    simp length-append (omega (arith, length-in plan first, length-in plan second))
length-in plan (act action arguments line) k n out again pc =
    simp (length-append, length-map) (omega (arith, length-all plan arguments, length-action))
length-in plan (choose of_pointer test on off) k n out again pc =
    simp (length-append, length-map) (omega (arith, length-code plan test, length-in plan on, length-in plan off, length-test))
length-in plan (loop mine before body after) k n out again pc =
    simp (length-append, length-map) (omega (arith, length-in plan before, length-in plan body, length-in plan after))
length-in plan (return e line) k n out again pc =
    simp (length-append, length-map) (omega (arith, length-code plan e))
