use Rattle.source_order.proofs.ByRules.{order_is_by_rules}
use Rattle.source_order.proofs.laws.order_is_by_rules.Goals as goal

pub returns : goal.returns
returns c = order_is_by_rules
