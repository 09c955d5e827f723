-- A core statement, function or source of the code as plain data.
use Rattle.std.specs.Prelude.{Bool, List, [], ◌∷◌, map}
use Rattle.sc_core.specs.declared.statement.CoreStmt.{CoreStmt, fold-CoreStmt}
use Rattle.sc_core.specs.declared.statement.CoreStmt.TheOpen.{CoreStmt-F, CoreArm-F}
use Rattle.sc_core.specs.declared.statement.CoreFunction.{CoreFunction}
use Rattle.sc_core.specs.declared.statement.CoreProgram.{CoreProgram}
use Rattle.sc_core.specs.Core.{Core, Does, nothing, break, continue, then_, act, choose, loop, return, Function, Program}
use Rattle.sc_core.specs.View.{arguments_of, plain_core}

-- an arm of an `if`
pub record Armed : Type 0 where
  pub of_pointer : Bool
  pub test : Core
  pub body : Does

abbrev pub block_of : List Does → Does
block_of [] = nothing
block_of (s ∷ more) = then_ s (block_of more)

abbrev pub chosen : List Armed → Does → Does
chosen [] otherwise = otherwise
chosen (a ∷ more) otherwise = choose a.of_pointer a.test a.body (chosen more otherwise)

abbrev pub stmt_step : CoreStmt-F Does Armed → Does
stmt_step CoreStmt-F.Nothing = nothing
stmt_step CoreStmt-F.Break = break
stmt_step CoreStmt-F.Continue = continue
stmt_step (CoreStmt-F.Block all) = block_of all
stmt_step (CoreStmt-F.Act action arguments line) = act action (arguments_of (map plain_core arguments)) line
stmt_step (CoreStmt-F.Choose arms rest) = chosen arms rest
stmt_step (CoreStmt-F.Loop mine before body after) = loop mine before body after
stmt_step (CoreStmt-F.Return value line) = return (plain_core value) line

abbrev pub arm_step : CoreArm-F Does Armed → Armed
arm_step a = record { of_pointer = a.of_pointer; test = plain_core a.test; body = a.body }

abbrev pub plain_does : CoreStmt → Does
plain_does = fold-CoreStmt Does Armed stmt_step arm_step

abbrev pub plain_function : CoreFunction → Function
plain_function f = record {
  params = f.params;
  others = f.others;
  result = f.result;
  body = plain_does f.body;
  line = f.line;
}

abbrev pub plain_program : CoreProgram → Program
plain_program program = record {
  functions = map plain_function program.functions;
  main = program.main;
  texts = program.texts;
}
