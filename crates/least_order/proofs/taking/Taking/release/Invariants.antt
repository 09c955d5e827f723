use Rattle.std.proofs.Common.{◌≡◌, ℕ, length}
use Rattle.std.specs.BinaryHeap.{heap_items}
use Rattle.least_order.specs.Taking.{last, IsAt}
use Rattle.least_order.proofs.taking.Taking.release.Given as goal

abbrev pub invariant-loop-at : goal.invariant-loop-at
invariant-loop-at l = record {
  order : l.self.order.items ≡ l.initial.self.order.items;
  is_last : (m : ℕ) × (l.at ≡ last l.edges l.item m);
  stands : IsAt l.edges (length l.initial.self.counts.items) l.item l.at l.self.order.items l.self.counts.items (heap_items l.self.ready);
}

abbrev pub decreases-loop-at : goal.decreases-loop-at
decreases-loop-at l = l.at
