-- The function that a definition or a prototype comes to, and it as a list.
use Rattle.std.specs.Prelude.{List, [], ◌∷◌, Option, Some, None}
use Rattle.sc_base.specs.declared.shape.Shape.{Shape}
use Rattle.sc_tree.specs.PlainTypedStmt.{TypedStatements}
use Rattle.sc_tree.specs.PlainTypedTree.{PlainTypedFunction}
use Rattle.sc_core.specs.Core.{Function}
use Rattle.sc_core.specs.Lowering.{function_with}

-- with this body, if there is one
abbrev pub function_in : List Shape → PlainTypedFunction → Option TypedStatements → Option Function
function_in objects f None = None
function_in objects f (Some body) = Some (function_with objects f body)

abbrev pub listed : Option Function → List Function
listed None = []
listed (Some f) = f ∷ []
