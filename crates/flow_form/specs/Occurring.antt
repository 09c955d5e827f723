-- Which locals occur in an expression, and whether its value may differ from node to node by itself: the node mark.
use Rattle.std.specs.Prelude.{ℕ, List, [], ◌∷◌, ◌++◌, nat_lt, Option, Some, None, if◌then◌else◌}
use Rattle.sc_core.specs.declared.operation.Constant.{Constant}
use Rattle.sc_core.specs.declared.operation.Constant.TheVariants.{Mine}
use Rattle.sc_core.specs.declared.operation.Operation.{Operation}
use Rattle.sc_core.specs.declared.operation.Operation.TheVariants.{Use, Own, Convert, ToGlobal, ToProc, ToLocal, Set, Call, Read}
use Rattle.sc_core.specs.Core.{Core, constant, step, choice, update, Arguments, none, argument}
use Rattle.site_graph.specs.declared.point.TheConstants.{NODE_MARK}

abbrev pub mark : List ℕ
mark = NODE_MARK ∷ []

-- a local, of a function with so many parameters; what a parameter is may differ
abbrev pub local : (params : ℕ) → ℕ → List ℕ
local params x = if nat_lt x params then x ∷ mark else x ∷ []

-- the executing node's number
abbrev pub occurring_constant : Constant → List ℕ
occurring_constant Mine = mark
occurring_constant _ = []

-- the step itself: a local; or a conversion of a local pointer, a read of memory or a call, of the library too
abbrev pub occurring_by : (params : ℕ) → Operation → List ℕ
occurring_by params (Use x) = local params x
occurring_by params (Set x) = local params x
occurring_by params Own = mark
occurring_by params Convert = mark
occurring_by params ToGlobal = mark
occurring_by params ToProc = mark
occurring_by params ToLocal = mark
occurring_by params (Call f n) = mark
occurring_by params Read = mark
occurring_by params _ = []

abbrev pub occurring_back : (params : ℕ) → Option Operation → List ℕ
occurring_back params None = []
occurring_back params (Some operation) = occurring_by params operation

-- also on a path where it is not evaluated; an update reads its cell
abbrev mutual
  pub occurring : (params : ℕ) → Core → List ℕ
  occurring params (constant c) = occurring_constant c
  occurring params (step operation arguments line) = occurring_all params arguments ++ occurring_by params operation
  occurring params (choice of_pointer test on off) =
      occurring params test ++ occurring params on ++ occurring params off
  occurring params (update pointer operation right back line) =
      occurring params pointer ++ mark ++ occurring params right ++ occurring_by params operation ++
      occurring_back params back

  pub occurring_all : (params : ℕ) → Arguments → List ℕ
  occurring_all params none = []
  occurring_all params (argument e more) = occurring params e ++ occurring_all params more
