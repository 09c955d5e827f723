use Rattle.effect_order.proofs.Ordered.{orderable_sourced}
use Rattle.effect_order.proofs.source_order.each_after_what_it_needs.Goals as goal

pub returns : goal.returns
returns g c does start earlier needs allowed all o = (orderable_sourced does start earlier needs allowed all o).lawful
