use Rattle.sc_layout.specs.Start.{start}
use Rattle.run_order.proofs.Arranged.{put_together, order_if_any}
use Rattle.run_order.proofs.ordering.order_by_edges.Goals as goal

pub returns : goal.returns
returns c =
    let both = put_together (start c.args.layout.now) c.args.layout.now.nodes _ _ c.args.journal.now _ _ _ _ _ _ _
    c.nodes.ensures c.nodes-2.ensures c.in_ok-effects.ensures c.as_slice.ensures.value c.in_ok-items.ensures
    c.as_slice-2.ensures.value c.in_ok-edges.ensures.ways c.as_slice-3.ensures.value c.as_slice-4.ensures.value in
    order_if_any _ _ _ _ _ _ both.0 both.1 c.in_ok-found.ensures
