use Rattle.std.proofs.Common.{◌≡◌, ◌++◌, map, take, drop}
use Rattle.sync_book.specs.Book.{released_node}
use Rattle.sync_book.proofs.book.release_rows.Given as goal

abbrev pub invariant-loop-row : goal.invariant-loop-row
invariant-loop-row l =
    l.rows ≡ map released_node (take l.row-index l.initial.rows) ++ drop l.row-index l.initial.rows
