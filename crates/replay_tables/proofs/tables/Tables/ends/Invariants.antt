use Rattle.std.proofs.Common.{◌≡◌, map, take}
use Rattle.replay_books.specs.Tables.{end_or_cut}
use Rattle.replay_tables.proofs.tables.Tables.ends.Given as goal

abbrev pub invariant-loop-row : goal.invariant-loop-row
invariant-loop-row l = l.ends.items ≡ map (λ row. end_or_cut row.ended) (take l.row-index l.row-items)
