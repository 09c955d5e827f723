-- A statement of the code as plain data.
use Rattle.std.specs.Prelude.{List, [], ◌∷◌, map, Option, Some, None}
use Rattle.std.specs.Option.{option_map}
use Rattle.sc_tree.specs.View.{plain}
use Rattle.sc_tree.specs.PlainStmt.{Declared, Statement, block, empty, declare, simple, split, choose, choose_else, while_, do_while, for_, for_mine, return, break, continue, Statements, no_statements, statements, Arm, arm, Arms, no_arms, arms}
use Rattle.sc_tree.specs.declared.stmt.Local.{Local}
use Rattle.sc_tree.specs.declared.stmt.Arm.{Arm as CodeArm, fold-Arm}
use Rattle.sc_tree.specs.declared.stmt.Stmt.{Stmt, fold-Stmt}
use Rattle.sc_tree.specs.declared.stmt.Stmt.TheOpen.{Stmt-F, Arm-F}

abbrev pub statements_of : List Statement → Statements
statements_of [] = no_statements
statements_of (s ∷ more) = statements s (statements_of more)

abbrev pub arms_of : List Arm → Arms
arms_of [] = no_arms
arms_of (a ∷ more) = arms a (arms_of more)

abbrev pub declared : Local → Declared
declared l = record { name = l.name; ty = l.ty; init = option_map plain l.init; at = l.at; line = l.line }

abbrev pub chosen : Arms → Option Statement → Statement
chosen all None = choose all
chosen all (Some s) = choose_else all s

abbrev pub stmt_step : Stmt-F Statement Arm → Statement
stmt_step (Stmt-F.Block all) = block (statements_of all)
stmt_step Stmt-F.Empty = empty
stmt_step (Stmt-F.Declare locals) = declare (map declared locals)
stmt_step (Stmt-F.Simple e) = simple (plain e)
stmt_step (Stmt-F.Split left right oneway at line) = split (plain left) (plain right) oneway at line
stmt_step (Stmt-F.If all rest) = chosen (arms_of all) rest
stmt_step (Stmt-F.While test body) = while_ (plain test) body
stmt_step (Stmt-F.DoWhile body test) = do_while body (plain test)
stmt_step (Stmt-F.For first test next body) =
    for_ (option_map plain first) (option_map plain test) (option_map plain next) body
stmt_step (Stmt-F.ForMine name bound body at line) = for_mine name (plain bound) body at line
stmt_step (Stmt-F.Return value at line) = return (option_map plain value) at line
stmt_step (Stmt-F.Break at) = break at
stmt_step (Stmt-F.Continue at) = continue at

abbrev pub arm_step : Arm-F Statement Arm → Arm
arm_step a = arm (plain a.test) a.body

abbrev pub plain_stmt : Stmt → Statement
plain_stmt = fold-Stmt Statement Arm stmt_step arm_step

abbrev pub plain_arm : CodeArm → Arm
plain_arm = fold-Arm Statement Arm stmt_step arm_step
