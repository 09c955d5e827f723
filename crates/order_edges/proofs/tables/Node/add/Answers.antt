use Rattle.order_edges.specs.Kinds.{item_edges}
use Rattle.order_edges.specs.Tables.{releases_in, node_in}
use Rattle.order_edges.proofs.Loops.{items_more}
use Rattle.order_edges.proofs.tables.Node.add.Goals as goal

pub loop-at-preserved : goal.loop-at-preserved
loop-at-preserved c =
    items_more (item_edges (releases_in c.args.releases.now) (node_in c.args.self.now)) c.args.items.now c.loop-at.at _ _ _ _
    c.loop-at-test.true c.in_ok-add_item.ensures c.loop-at.invariant
