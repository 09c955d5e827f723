use Rattle.source_order.proofs.Ordering.{order_holds}
use Rattle.source_order.proofs.laws.order_holds.Goals as goal

pub returns : goal.returns
returns c = order_holds
