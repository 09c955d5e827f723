use Rattle.std.proofs.Common.{◌≡◌, map, take}
use Rattle.replay_books.specs.Row.{value_got}
use Rattle.replay_tables.proofs.row.Row.landing.Given as goal

abbrev pub invariant-loop-number : goal.invariant-loop-number
invariant-loop-number l = l.values.items ≡ map (value_got l.self) (take l.number-index l.number-items)
