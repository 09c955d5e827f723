-- The typed tree of a source as plain data.
use Rattle.std.specs.Prelude.{List, map}
use Rattle.std.specs.Option.{option_map}
use Rattle.sc_tree.specs.ViewTypedStmt.{plain_typed_stmt, typed_statements_of}
use Rattle.sc_tree.specs.PlainTypedStmt.{TypedStatements}
use Rattle.sc_tree.specs.PlainTypedTree.{PlainTypedFunction, PlainTypedTree}
use Rattle.sc_tree.specs.declared.typed_stmt.TypedStmt.{TypedStmt}
use Rattle.sc_tree.specs.declared.typed_stmt.TypedFunction.{TypedFunction}
use Rattle.sc_tree.specs.declared.typed_stmt.Typed.{Typed}

abbrev pub plain_typed_block : List TypedStmt → TypedStatements
plain_typed_block all = typed_statements_of (map plain_typed_stmt all)

abbrev pub plain_typed_function : TypedFunction → PlainTypedFunction
plain_typed_function f =
    record {
      name = f.name;
      result = f.result;
      params = f.params;
      body = option_map plain_typed_block f.body;
      at = f.at;
      line = f.line;
    }

abbrev pub plain_typed_tree : Typed → PlainTypedTree
plain_typed_tree t =
    record {
      objects = t.objects;
      functions = map plain_typed_function t.functions;
      lines = t.lines;
      last = t.last;
      texts = t.texts;
    }
