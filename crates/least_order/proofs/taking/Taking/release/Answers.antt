use Rattle.std.proofs.Common.{◌-◌, ◌<◌, length, sym, subst, ◌∙◌, arith, rules}
use Rattle.std.proofs.lemmas.Grind.{common_steps}
use Rattle.std.specs.BinaryHeap.{heap_items}
use Rattle.least_order.proofs.Counting.{last_le}
use Rattle.least_order.proofs.Releases.{GoesOn, there, is_counted, index_is, next_link, released, put_one, put_none}
use Rattle.least_order.proofs.taking.Taking.release.Goals as goal
use Rattle.least_order.proofs.taking.Taking.release.Goals.{then-index-eq0+in_ok-push, else-index-eq0}

pub offset_bounds-edges-edge : goal.offset_bounds-edges-edge
offset_bounds-edges-edge c =
    let low : c.loop-at.at - 1 < length c.args.edges.now =
    (there c.args.edges.now c.args.item c.loop-at.invariant.is_last.0 c.loop-at.at (record { before = 0; after = 0 })
    c.loop-at.invariant.is_last.1 c.loop-at-test.true).low in
    search (rules, low)

pub bounds-edges-edge : goal.bounds-edges-edge
bounds-edges-edge c =
    (there c.args.edges.now c.args.item c.loop-at.invariant.is_last.0 c.loop-at.at (record { before = 0; after = 0 })
    c.loop-at.invariant.is_last.1 c.loop-at-test.true).low

pub overflow_sub-index_mut : goal.overflow_sub-index_mut
overflow_sub-index_mut c =
    is_counted c.args.edges.now (length c.args.self.now.counts.items) c.args.item c.loop-at.at c.loop-at.self.order.items
    c.loop-at.self.counts.items (heap_items c.loop-at.self.ready) (record { before = 0; after = 0 }) c.index_mut.result.now
    c.requires.within c.loop-at.invariant.stands c.loop-at-test.true
    (there c.args.edges.now c.args.item c.loop-at.invariant.is_last.0 c.loop-at.at (record { before = 0; after = 0 })
    c.loop-at.invariant.is_last.1 c.loop-at-test.true) c.index_mut.ensures.value

pub index-at-requires-in-loop-at : goal.index-at-requires-in-loop-at
index-at-requires-in-loop-at c =
    let low : c.loop-at.at - 1 < length c.args.edges.now =
    (there c.args.edges.now c.args.item c.loop-at.invariant.is_last.0 c.loop-at.at (record { before = 0; after = 0 })
    c.loop-at.invariant.is_last.1 c.loop-at-test.true).low in
    let each = c.requires.links.each in
    grind (arith, common_steps, low, each)

pub loop-at-smaller : goal.loop-at-smaller
loop-at-smaller c =
    let t = (there c.args.edges.now c.args.item c.loop-at.invariant.is_last.0 c.loop-at.at (record { before = 0; after = 0 })
    c.loop-at.invariant.is_last.1 c.loop-at-test.true) in
    let next = next_link c.args.edges.now (length c.args.self.now.counts.items) c.args.item c.loop-at.at
    (record { before = 0; after = 0 }) c.args.links.now c.index-at-in-loop-at.result.now t c.requires.links
    c.index-at-in-loop-at.ensures in
    let low = last_le c.args.edges.now c.args.item (c.loop-at.at - 1) in
    let some = c.loop-at-test.true in
    omega (arith, next, low, some)

pub loop-at-preserved : goal.loop-at-preserved
loop-at-preserved c = elim c.if-index-eq0.branch [
  | then-index-eq0+in_ok-push w ↦
      let t = (there c.args.edges.now c.args.item c.loop-at.invariant.is_last.0 c.loop-at.at (record { before = 0; after = 0 })
      c.loop-at.invariant.is_last.1 c.loop-at-test.true) in
      let r = released c.args.edges.now (length c.args.self.now.counts.items) c.args.item c.loop-at.at c.loop-at.self.order.items
      c.loop-at.self.counts.items (heap_items c.loop-at.self.ready) (record { before = 0; after = 0 }) c.index_mut.result.now
      c.requires.within c.loop-at.invariant.stands c.loop-at-test.true t c.index_mut.ensures.value c.args.links.now
      c.index-at-in-loop-at.result.now (heap_items w.push.new.self) c.requires.links c.index-at-in-loop-at.ensures
      (put_one _ _ (heap_items c.loop-at.self.ready) (heap_items w.push.new.self)
      (index_is c.loop-at.self.counts.items _ _ c.index.result.now
      (let w = (c.requires.within _ (record { before = 0; after = 0 }) t.low).after_within in
      let l = c.loop-at.invariant.stands.items in omega (arith, w, l)) c.index.ensures ∙ w.if-index-eq0.true) w.in_ok-push.ensures.permutation)
      (w.in_ok-push.ensures.heap_order c.loop-at.invariant.stands.ordered) in
      let p = subst (GoesOn c.args.edges.now (length c.args.self.now.counts.items) c.args.item c.index-at-in-loop-at.result.now
      c.args.self.now.order.items) (sym w.self-is)
      (record { order_stays = c.loop-at.invariant.order; stands = r.1 }) in
      record { order = p.order_stays; is_last = (c.loop-at.at - 1, r.0); stands = p.stands }
  | else-index-eq0 w ↦
      let t = (there c.args.edges.now c.args.item c.loop-at.invariant.is_last.0 c.loop-at.at (record { before = 0; after = 0 })
      c.loop-at.invariant.is_last.1 c.loop-at-test.true) in
      let r = released c.args.edges.now (length c.args.self.now.counts.items) c.args.item c.loop-at.at c.loop-at.self.order.items
      c.loop-at.self.counts.items (heap_items c.loop-at.self.ready) (record { before = 0; after = 0 }) c.index_mut.result.now
      c.requires.within c.loop-at.invariant.stands c.loop-at-test.true t c.index_mut.ensures.value c.args.links.now
      c.index-at-in-loop-at.result.now (heap_items c.loop-at.self.ready) c.requires.links c.index-at-in-loop-at.ensures
      (put_none _ _ (heap_items c.loop-at.self.ready)
      (λ e. w.if-index-eq0.false (sym (index_is c.loop-at.self.counts.items _ _ c.index.result.now
      (let w = (c.requires.within _ (record { before = 0; after = 0 }) t.low).after_within in
      let l = c.loop-at.invariant.stands.items in omega (arith, w, l)) c.index.ensures) ∙ e)))
      c.loop-at.invariant.stands.ordered in
      let p = subst (GoesOn c.args.edges.now (length c.args.self.now.counts.items) c.args.item c.index-at-in-loop-at.result.now
      c.args.self.now.order.items) (sym w.self-is)
      (record { order_stays = c.loop-at.invariant.order; stands = r.1 }) in
      record { order = p.order_stays; is_last = (c.loop-at.at - 1, r.0); stands = p.stands }
]
