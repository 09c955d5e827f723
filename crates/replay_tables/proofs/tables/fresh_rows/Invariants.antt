use Rattle.std.proofs.Common.{◌≡◌, replicate}
use Rattle.replay_books.specs.Row.{fresh_row}
use Rattle.replay_tables.proofs.tables.fresh_rows.Given as goal

abbrev pub invariant-loop : goal.invariant-loop
invariant-loop l = l.rows.items ≡ replicate l.counter fresh_row
