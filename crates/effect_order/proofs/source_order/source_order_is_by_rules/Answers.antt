use Rattle.effect_order.proofs.Rules.{ordered_by_rules}
use Rattle.effect_order.proofs.source_order.source_order_is_by_rules.Goals as goal

pub returns : goal.returns
returns g c does earlier allowed follows sorted k out = ordered_by_rules does earlier allowed follows sorted k out
