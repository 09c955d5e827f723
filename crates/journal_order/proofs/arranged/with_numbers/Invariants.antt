use Rattle.std.proofs.Common.{◌≡◌, ◌++◌, drop, map}
use Rattle.journal_order.specs.Ordering.{item_at}
use Rattle.journal_order.proofs.arranged.with_numbers.Given as goal

abbrev pub invariant-loop-number : goal.invariant-loop-number
invariant-loop-number l =
    l.events.items ++ map (item_at l.items) (drop l.number-index l.numbers) ≡ map (item_at l.items) l.numbers
