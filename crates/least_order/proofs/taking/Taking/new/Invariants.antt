use Rattle.std.specs.BinaryHeap.{heap_items}
use Rattle.least_order.proofs.Loops.{IsHeaped}
use Rattle.least_order.proofs.taking.Taking.new.Given as goal

abbrev pub invariant-loop-item : goal.invariant-loop-item
invariant-loop-item l = IsHeaped l.held-items l.item (heap_items l.ready)
