use Rattle.journal_order.proofs.ByEdges.{order_is_by_edges}
use Rattle.journal_order.proofs.laws.order_is_by_edges.Goals as goal

pub returns : goal.returns
returns c = order_is_by_edges
