use Rattle.effect_order.proofs.Ordered.{ordered_allowed}
use Rattle.effect_order.proofs.source_order.legal_by_construction.Goals as goal

pub returns : goal.returns
returns g c does earlier allowed all = ordered_allowed does earlier allowed all
