use Rattle.std.proofs.Common.{reverse}
use Rattle.order_edges.proofs.Loops.{nodes_more}
use Rattle.order_edges.proofs.joined.add_nodes.Goals as goal

pub loop-node-preserved : goal.loop-node-preserved
loop-node-preserved c =
    nodes_more (reverse c.args.journal.now) c.args.items.now c.loop-node.node _ _ _ _ _ c.requires c.in_ok-node.ensures
    c.in_ok-add.ensures c.loop-node.invariant
