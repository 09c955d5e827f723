-- The locals that the parts of a core tree write.
use Rattle.std.specs.Prelude.{ℕ, List, [], ◌++◌, Option, Some, None, option_to_list}
use Rattle.sc_core.specs.declared.operation.Operation.{Operation}
use Rattle.sc_core.specs.declared.operation.Operation.TheVariants.{Set}
use Rattle.sc_core.specs.declared.operation.Action.{Action}
use Rattle.sc_core.specs.declared.operation.Action.TheVariants.{Begin, Clear, Fill, Get}
use Rattle.sc_core.specs.Core.{Core, constant, step, choice, update, Arguments, none, argument, Does, then_, act, choose, loop, return}

-- the local that the step itself sets; that of a get is set at the next sync
abbrev pub set_by : Operation → Option ℕ
set_by (Set x) = Some x
set_by _ = None

abbrev pub set_by_action : Action → Option ℕ
set_by_action (Begin x) = Some x
set_by_action (Clear x pointer) = Some x
set_by_action (Fill x) = Some x
set_by_action (Get x) = Some x
set_by_action _ = None

-- with those of its arguments
abbrev mutual
  pub written : Core → List ℕ
  written (constant c) = []
  written (step operation arguments line) = written_all arguments ++ option_to_list (set_by operation)
  written (choice of_pointer test on off) = written test ++ written on ++ written off
  written (update pointer operation right back line) = written pointer ++ written right

  pub written_all : Arguments → List ℕ
  written_all none = []
  written_all (argument e more) = written e ++ written_all more

abbrev pub written_in : Does → List ℕ
written_in (then_ first second) = written_in first ++ written_in second
written_in (act action arguments line) = written_all arguments ++ option_to_list (set_by_action action)
written_in (choose of_pointer test on off) = written test ++ written_in on ++ written_in off
written_in (loop mine before body after) = written_in before ++ written_in body ++ written_in after
written_in (return e line) = written e
written_in _ = []
