-- The constant that a core expression is, and its outermost step.
use Rattle.std.specs.Prelude.{Bool, true, false, Option, Some, None}
use Rattle.sc_core.specs.declared.operation.Constant.{Constant}
use Rattle.sc_core.specs.declared.operation.Operation.{Operation}
use Rattle.sc_core.specs.Core.{Core, constant, step, Arguments, none, argument}

pub record Stepped : Type 0 where
  pub operation : Operation
  pub arguments : Arguments

-- two arguments
pub record Sides : Type 0 where
  pub left : Core
  pub right : Core

unfoldable pub constant_in : Core → Option Constant
constant_in (constant c) = Some c
constant_in _ = None

unfoldable pub step_in : Core → Option Stepped
step_in (step operation arguments line) = Some (record { operation = operation; arguments = arguments })
step_in _ = None

-- the only argument
unfoldable pub one_in : Arguments → Option Core
one_in (argument e none) = Some e
one_in _ = None

unfoldable pub two_in : Arguments → Option Sides
two_in (argument a (argument b none)) = Some (record { left = a; right = b })
two_in _ = None

unfoldable pub has_none : Arguments → Bool
has_none none = true
has_none (argument e more) = false
