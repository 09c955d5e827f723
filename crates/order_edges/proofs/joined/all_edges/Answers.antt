use Rattle.std.proofs.Common.{reverse}
use Rattle.order_edges.proofs.Loops.{all_more}
use Rattle.order_edges.proofs.joined.all_edges.Goals as goal

pub returns : goal.returns
returns c =
    all_more (reverse c.args.journal.now) c.args.nodes c.args.items.now _ _ _ _ _ _ _ c.in_ok-releases.ensures c.new-edges.ensures.items
    c.in_ok-add.ensures c.in_ok-add_nodes.ensures c.in_ok-add_keyed.ensures c.in_ok-add_keyed-2.ensures c.in_ok-add_keyed-3.ensures
