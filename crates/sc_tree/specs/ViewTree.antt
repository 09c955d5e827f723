-- The tree of a source as plain data.
use Rattle.std.specs.Prelude.{List, map}
use Rattle.std.specs.Option.{option_map}
use Rattle.sc_tree.specs.ViewStmt.{plain_stmt, statements_of}
use Rattle.sc_tree.specs.PlainStmt.{Statements}
use Rattle.sc_tree.specs.PlainTree.{PlainFunction, PlainTree}
use Rattle.sc_tree.specs.declared.stmt.Stmt.{Stmt}
use Rattle.sc_tree.specs.declared.tree.Function.{Function}
use Rattle.sc_tree.specs.declared.tree.Tree.{Tree}

abbrev pub plain_block : List Stmt → Statements
plain_block all = statements_of (map plain_stmt all)

abbrev pub plain_function : Function → PlainFunction
plain_function f =
    record {
      name = f.name;
      result = f.result;
      params = f.params;
      body = option_map plain_block f.body;
      at = f.at;
      line = f.line;
    }

abbrev pub plain_tree : Tree → PlainTree
plain_tree t =
    record { objects = t.objects; functions = map plain_function t.functions; lines = t.lines; last = t.last }
