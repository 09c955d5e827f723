use Rattle.std.proofs.Common.{◌<◌, ◌∷◌, ◌++◌, [], length, sym, subst, ◌∙◌, arith}
use Rattle.std.specs.BinaryHeap.{heap_items}
use Rattle.least_order.specs.Taking.{last, IsAt, Stands}
use Rattle.least_order.proofs.Picks.{IsSoFar, left_from, left_fewer, at_first, at_last, one_more}
use Rattle.least_order.proofs.Whole.{popped, given_ready, least_given, none_in, took, all_taken, not_all_taken}
use Rattle.least_order.proofs.order.taken.Goals as goal

pub loop-item-init : goal.loop-item-init
loop-item-init c = record {
  so_far = subst (IsSoFar c.args.edges.now c.args.count) (sym c.in_ok-taking.ensures.none) (at_first c.args.edges.now c.args.count c.requires);
  stands = c.in_ok-taking.ensures.stands;
}

pub release-requires-clause-item : goal.release-requires-clause-item
release-requires-clause-item c =
    let t = c.loop-item.taking in
    let r = given_ready c.args.edges.now c.args.count t.order.items t.counts.items c.in-Some.field-0 (heap_items t.ready)
    (heap_items c.pop.new.self) c.loop-item.invariant.stands c.in-Some.ensures.permutation in
    let w = r.within in
    let l = c.loop-item.invariant.stands.items in
    omega (arith, w, l)

pub release-requires-clause-stands : goal.release-requires-clause-stands
release-requires-clause-stands c =
    let t = c.loop-item.taking in
    let s = c.loop-item.invariant.stands in
    let r = given_ready c.args.edges.now c.args.count t.order.items t.counts.items c.in-Some.field-0 (heap_items t.ready)
    (heap_items c.pop.new.self) s c.in-Some.ensures.permutation in
    let k = took c.args.edges.now c.args.count t.order.items t.counts.items (heap_items t.ready) (heap_items c.pop.new.self)
    c.in-Some.field-0.0 s r (popped c.in-Some.field-0 (heap_items t.ready) (heap_items c.pop.new.self) c.in-Some.ensures.permutation)
    (c.in-Some.ensures.heap_order s.ordered).0 in
    subst (λ out. IsAt c.args.edges.now (length t.counts.items) c.in-Some.field-0.0
    (last c.args.edges.now c.in-Some.field-0.0 (length c.args.edges.now)) out t.counts.items (heap_items c.pop.new.self))
    (sym c.in_ok-push.ensures.items)
    (subst (λ n. IsAt c.args.edges.now n c.in-Some.field-0.0
    (last c.args.edges.now c.in-Some.field-0.0 (length c.args.edges.now)) (t.order.items ++ c.in-Some.field-0.0 ∷ [])
    t.counts.items (heap_items c.pop.new.self)) (sym s.items) k)

pub loop-item-smaller : goal.loop-item-smaller
loop-item-smaller c =
    let t = c.loop-item.taking in
    let r = given_ready c.args.edges.now c.args.count t.order.items t.counts.items c.in-Some.field-0 (heap_items t.ready)
    (heap_items c.pop.new.self) c.loop-item.invariant.stands c.in-Some.ensures.permutation in
    let w = r.within in
    let fewer = left_fewer t.order.items c.in-Some.field-0.0 0 c.args.count r.left (omega arith) (omega (arith, w)) in
    subst (λ out. length (left_from out 0 c.args.count) < length (left_from t.order.items 0 c.args.count))
    (sym (c.in_ok-release.ensures.order ∙ c.in_ok-push.ensures.items)) (omega (arith, fewer))

pub loop-item-preserved : goal.loop-item-preserved
loop-item-preserved c =
    let t = c.loop-item.taking in
    let s = c.loop-item.invariant.stands in
    let r = given_ready c.args.edges.now c.args.count t.order.items t.counts.items c.in-Some.field-0 (heap_items t.ready)
    (heap_items c.pop.new.self) s c.in-Some.ensures.permutation in
    record {
      so_far = subst (IsSoFar c.args.edges.now c.args.count) (sym (c.in_ok-release.ensures.order ∙ c.in_ok-push.ensures.items))
          (one_more c.args.edges.now c.args.count c.requires t.order.items t.counts.items (heap_items t.ready) s c.in-Some.field-0.0 r
          (least_given c.in-Some.field-0 (heap_items t.ready) (c.in-Some.ensures.heap_order s.ordered).1) c.loop-item.invariant.so_far);
      stands = subst (λ n. Stands c.args.edges.now n c.release.new.self) s.items c.in_ok-release.ensures.stands;
    }

pub returns-then-len-count : goal.returns-then-len-count
returns-then-len-count c =
    let t = c.loop-item.taking in
    all_taken c.args.edges.now c.args.count t.order.items
    (at_last c.args.edges.now c.args.count c.requires t.order.items t.counts.items (heap_items t.ready) c.loop-item.invariant.stands
    c.loop-item.invariant.so_far (none_in (heap_items t.ready) (sym t.ready.data.ok.0 ∙ c.in_default.ensures.none)))
    (sym t.order.ok.0 ∙ sym c.len.ensures ∙ c.if-len-count.true)

pub returns : goal.returns
returns c =
    let t = c.loop-item.taking in
    not_all_taken c.args.edges.now c.args.count t.order.items
    (at_last c.args.edges.now c.args.count c.requires t.order.items t.counts.items (heap_items t.ready) c.loop-item.invariant.stands
    c.loop-item.invariant.so_far (none_in (heap_items t.ready) (sym t.ready.data.ok.0 ∙ c.in_default.ensures.none)))
    (λ e. c.if-len-count.false (c.len.ensures ∙ t.order.ok.0 ∙ e))
