-- A core expression of the code as plain data.
use Rattle.std.specs.Prelude.{ℕ, Bool, List, [], ◌∷◌}
use Rattle.sc_core.specs.declared.operation.Operation.{Operation}
use Rattle.sc_core.specs.declared.expression.CoreExpr.{CoreExpr, fold-CoreExpr}
use Rattle.sc_core.specs.declared.expression.CoreFirst.TheOpen.{CoreFirst-F, CoreExpr-F, CoreLink-F, CoreTest-F}
use Rattle.sc_core.specs.Core.{Core, constant, step, choice, update, Arguments, none, argument}
use Rattle.sc_core.specs.Places.{number_one, number_zero}

-- a step that is done with a value and the arguments behind it
pub record Linked : Type 0 where
  pub operation : Operation
  pub more : Arguments
  pub line : ℕ

-- an operand that is tested
pub record Tested : Type 0 where
  pub of_pointer : Bool
  pub e : Core

abbrev pub arguments_of : List Core → Arguments
arguments_of [] = none
arguments_of (e ∷ more) = argument e (arguments_of more)

abbrev pub linked : Core → List Linked → Core
linked e [] = e
linked e (l ∷ more) = linked (step l.operation (argument e l.more) l.line) more

abbrev pub every_of : List Tested → Core
every_of [] = number_one
every_of (t ∷ more) = choice t.of_pointer t.e (every_of more) number_zero

abbrev pub any_of : List Tested → Core
any_of [] = number_zero
any_of (t ∷ more) = choice t.of_pointer t.e number_one (any_of more)

abbrev pub first_step : CoreFirst-F Core Core Linked Tested → Core
first_step (CoreFirst-F.Constant c) = constant c
first_step (CoreFirst-F.Step operation arguments line) = step operation (arguments_of arguments) line
first_step (CoreFirst-F.Every all) = every_of all
first_step (CoreFirst-F.Any all) = any_of all
first_step (CoreFirst-F.Choice of_pointer test on off) = choice of_pointer test on off
first_step (CoreFirst-F.Update pointer operation right taken_back line) = update pointer operation right taken_back line

abbrev pub expr_step : CoreExpr-F Core Core Linked Tested → Core
expr_step e = linked e.first e.links

abbrev pub link_step : CoreLink-F Core Core Linked Tested → Linked
link_step l = record { operation = l.operation; more = arguments_of l.more; line = l.line }

abbrev pub test_step : CoreTest-F Core Core Linked Tested → Tested
test_step t = record { of_pointer = t.of_pointer; e = t.e }

abbrev pub plain_core : CoreExpr → Core
plain_core = fold-CoreExpr Core Core Linked Tested first_step expr_step link_step test_step
