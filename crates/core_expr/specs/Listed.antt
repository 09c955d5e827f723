-- Parts of the core that the code keeps in lists, as lists.
use Rattle.std.specs.Prelude.{List, [], ◌∷◌}
use Rattle.sc_base.specs.declared.shape.Shape.{Shape}
use Rattle.sc_tree.specs.PlainTyped.{TypedExpressions, no_expressions, expressions}
use Rattle.sc_core.specs.Core.{Core}
use Rattle.sc_core.specs.Places.{is_pointer}
use Rattle.sc_core.specs.Expressions.{star_of, value_of}
use Rattle.sc_core.specs.View.{Tested}

unfoldable pub values_in : List Shape → TypedExpressions → List Core
values_in objects no_expressions = []
values_in objects (expressions e more) = value_of objects e ∷ values_in objects more

-- the operands of `&&` or `||`
unfoldable pub tests_in : List Shape → TypedExpressions → List Tested
tests_in objects no_expressions = []
tests_in objects (expressions e more) =
    record { of_pointer = is_pointer (star_of e); e = value_of objects e } ∷ tests_in objects more
