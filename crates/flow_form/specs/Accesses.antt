-- How many accesses the parts of a core tree have.
use Rattle.std.specs.Prelude.{ℕ, ◌+◌, Option, sum_by}
use Rattle.std.specs.Option.{option_map_or}
use Rattle.sc_core.specs.declared.operation.Operation.{Operation}
use Rattle.sc_core.specs.declared.operation.Operation.TheVariants.{Read, Write}
use Rattle.sc_core.specs.declared.operation.Action.{Action}
use Rattle.sc_core.specs.declared.operation.Action.TheVariants.{Fill, Get, Put, Send, Copy}
use Rattle.sc_core.specs.Core.{Core, constant, step, choice, update, Arguments, none, argument, Does, then_, act, choose, loop, return, Program}

-- the step itself
abbrev pub accesses_by : Operation → ℕ
accesses_by Read = 1
accesses_by Write = 1
accesses_by _ = 0

abbrev pub accesses_by_action : Action → ℕ
accesses_by_action (Fill x) = 1
accesses_by_action (Get x) = 1
accesses_by_action Put = 1
accesses_by_action Send = 1
accesses_by_action (Copy mode) = 1
accesses_by_action _ = 0

abbrev pub accesses_back : Option Operation → ℕ
accesses_back back = option_map_or accesses_by back 0

-- with those of its arguments; an update reads and writes its cell
abbrev mutual
  pub accesses : Core → ℕ
  accesses (constant c) = 0
  accesses (step operation arguments line) = accesses_all arguments + accesses_by operation
  accesses (choice of_pointer test on off) = accesses test + accesses on + accesses off
  accesses (update pointer operation right back line) =
      accesses pointer + 1 + accesses right + accesses_by operation + 1 + accesses_back back

  pub accesses_all : Arguments → ℕ
  accesses_all none = 0
  accesses_all (argument e more) = accesses e + accesses_all more

abbrev pub accesses_in : Does → ℕ
accesses_in (then_ first second) = accesses_in first + accesses_in second
accesses_in (act action arguments line) = accesses_all arguments + accesses_by_action action
accesses_in (choose of_pointer test on off) = accesses test + accesses_in on + accesses_in off
accesses_in (loop mine before body after) = accesses_in before + accesses_in body + accesses_in after
accesses_in (return e line) = accesses e
accesses_in _ = 0

-- the whole source
abbrev pub accesses_of : Program → ℕ
accesses_of program = sum_by (λ f. accesses_in f.body) program.functions
