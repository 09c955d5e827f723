-- A plain assignment as a whole statement, as the code finds its sides.
use Rattle.std.specs.Prelude.{ℕ, List}
use Rattle.sc_base.specs.declared.shape.Shape.{Shape}
use Rattle.sc_tree.specs.PlainTyped.{TypedExpression}
use Rattle.sc_core.specs.declared.operation.Action.TheVariants as acts
use Rattle.sc_core.specs.Core.{Does}
use Rattle.sc_core.specs.Places.{fetched, assigned}
use Rattle.sc_core.specs.Expressions.{found}
use Rattle.sc_core.specs.Statements.{act_on, assigning}

abbrev pub set_whole : List Shape → (left right : TypedExpression) → (line : ℕ) → Does
set_whole objects left right line =
    assigning (found objects left) (found objects right)
    (act_on acts.Drop (assigned (found objects left) (fetched (found objects right)) line) line) line
