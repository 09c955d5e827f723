-- A typed statement of the code as plain data.
use Rattle.std.specs.Prelude.{List, [], ◌∷◌, map, Option, Some, None}
use Rattle.std.specs.Option.{option_map}
use Rattle.sc_tree.specs.ViewTyped.{plain_typed}
use Rattle.sc_tree.specs.PlainTypedStmt.{TypedDeclared, TypedStatement, block, empty, declare, simple, split, choose, choose_else, while_, do_while, for_, for_mine, return, break, continue, TypedStatements, no_statements, statements, TypedArm, arm, TypedArms, no_arms, arms}
use Rattle.sc_tree.specs.declared.typed_stmt.TypedLocal.{TypedLocal}
use Rattle.sc_tree.specs.declared.typed_stmt.TypedArm.{TypedArm as CodeArm, fold-TypedArm}
use Rattle.sc_tree.specs.declared.typed_stmt.TypedStmt.{TypedStmt, fold-TypedStmt}
use Rattle.sc_tree.specs.declared.typed_stmt.TypedStmt.TheOpen.{TypedStmt-F, TypedArm-F}

abbrev pub typed_statements_of : List TypedStatement → TypedStatements
typed_statements_of [] = no_statements
typed_statements_of (s ∷ more) = statements s (typed_statements_of more)

abbrev pub typed_arms_of : List TypedArm → TypedArms
typed_arms_of [] = no_arms
typed_arms_of (a ∷ more) = arms a (typed_arms_of more)

abbrev pub typed_declared : TypedLocal → TypedDeclared
typed_declared l =
    record { name = l.name; ty = l.ty; init = option_map plain_typed l.init; at = l.at; line = l.line }

abbrev pub typed_chosen : TypedArms → Option TypedStatement → TypedStatement
typed_chosen all None = choose all
typed_chosen all (Some s) = choose_else all s

abbrev pub typed_stmt_step : TypedStmt-F TypedStatement TypedArm → TypedStatement
typed_stmt_step (TypedStmt-F.Block all) = block (typed_statements_of all)
typed_stmt_step TypedStmt-F.Empty = empty
typed_stmt_step (TypedStmt-F.Declare locals) = declare (map typed_declared locals)
typed_stmt_step (TypedStmt-F.Simple e) = simple (plain_typed e)
typed_stmt_step (TypedStmt-F.Split left right oneway at line) =
    split (plain_typed left) (plain_typed right) oneway at line
typed_stmt_step (TypedStmt-F.If all rest) = typed_chosen (typed_arms_of all) rest
typed_stmt_step (TypedStmt-F.While test body) = while_ (plain_typed test) body
typed_stmt_step (TypedStmt-F.DoWhile body test) = do_while body (plain_typed test)
typed_stmt_step (TypedStmt-F.For first test next body) =
    for_ (option_map plain_typed first) (option_map plain_typed test) (option_map plain_typed next) body
typed_stmt_step (TypedStmt-F.ForMine name bound body at line) = for_mine name (plain_typed bound) body at line
typed_stmt_step (TypedStmt-F.Return value at line) = return (option_map plain_typed value) at line
typed_stmt_step (TypedStmt-F.Break at) = break at
typed_stmt_step (TypedStmt-F.Continue at) = continue at

abbrev pub typed_arm_step : TypedArm-F TypedStatement TypedArm → TypedArm
typed_arm_step a = arm (plain_typed a.test) a.body

abbrev pub plain_typed_stmt : TypedStmt → TypedStatement
plain_typed_stmt = fold-TypedStmt TypedStatement TypedArm typed_stmt_step typed_arm_step

abbrev pub plain_typed_arm : CodeArm → TypedArm
plain_typed_arm = fold-TypedArm TypedStatement TypedArm typed_stmt_step typed_arm_step
