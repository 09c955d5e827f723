use Rattle.std.proofs.Common.{◌≤◌, rules}
use Rattle.least_order.proofs.Loops.{counted_more, count_low}
use Rattle.least_order.proofs.taking.counts.Goals as goal

pub overflow_add-index_mut : goal.overflow_add-index_mut
overflow_add-index_mut c =
    let low : c.index_mut.result.now ≤ c.loop-edge.edge-index =
    count_low c.args.edges.now c.args.count c.loop-edge.edge-index c.loop-edge.counts.items _ _ c.loop-edge.invariant
    (c.requires c.loop-edge.edge-index _ c.loop-edge-test.true).after_within c.index_mut.ensures.value in
    let below = c.loop-edge-test.true in
    search (rules, low, below)

pub loop-edge-preserved : goal.loop-edge-preserved
loop-edge-preserved c =
    counted_more c.args.edges.now c.args.count c.loop-edge.edge-index c.loop-edge.counts.items _ _ c.loop-edge.invariant
    c.loop-edge-test.true (c.requires c.loop-edge.edge-index _ c.loop-edge-test.true).after_within c.index_mut.ensures.value
