use Rattle.order_edges.specs.Kinds.{release_edge}
use Rattle.order_edges.specs.Tables.{releases_in}
use Rattle.order_edges.proofs.Loops.{items_more}
use Rattle.order_edges.proofs.tables.Releases.add.Goals as goal

pub loop-at-preserved : goal.loop-at-preserved
loop-at-preserved c =
    items_more (release_edge (releases_in c.args.self.now)) c.args.items.now c.loop-at.at _ _ _ _ c.loop-at-test.true
    c.in_ok-add_at.ensures c.loop-at.invariant
