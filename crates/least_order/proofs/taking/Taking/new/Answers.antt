use Rattle.std.proofs.Common.{◌+◌, sym, subst}
use Rattle.std.specs.BinaryHeap.{heap_items}
use Rattle.least_order.proofs.Loops.{IsHeaped, heaped_more, heaped_past, pushed}
use Rattle.least_order.proofs.taking.Taking.new.Goals as goal
use Rattle.least_order.proofs.taking.Taking.new.Goals.{then-held-eq0+in_ok-push, else-held-eq0}

pub loop-item-preserved : goal.loop-item-preserved
loop-item-preserved c = elim c.if-held-eq0.branch [
  | then-held-eq0+in_ok-push w ↦
      subst (λ h. IsHeaped c.as_slice-held-items.result.now (c.loop-item.item + 1) (heap_items h)) (sym w.ready-is)
      (heaped_more c.as_slice-held-items.result.now c.loop-item.item (heap_items c.loop-item.ready) (heap_items w.push.new.self)
      c.loop-item.invariant w.if-held-eq0.true
      (pushed c.loop-item.item (heap_items c.loop-item.ready) (heap_items w.push.new.self) w.in_ok-push.ensures.permutation)
      (w.in_ok-push.ensures.heap_order c.loop-item.invariant.ordered))
  | else-held-eq0 w ↦
      subst (λ h. IsHeaped c.as_slice-held-items.result.now (c.loop-item.item + 1) (heap_items h)) (sym w.ready-is)
      (heaped_past c.as_slice-held-items.result.now c.loop-item.item (heap_items c.loop-item.ready) c.loop-item.invariant w.if-held-eq0.false)
]
