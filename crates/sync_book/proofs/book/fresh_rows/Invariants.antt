use Rattle.std.proofs.Common.{◌≡◌, replicate}
use Rattle.sync_book.specs.Book.{fresh_node}
use Rattle.sync_book.proofs.book.fresh_rows.Given as goal

abbrev pub invariant-loop : goal.invariant-loop
invariant-loop l = l.rows.items ≡ replicate l.counter (fresh_node l.sites)
