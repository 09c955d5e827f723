use Rattle.effect_order.proofs.Moved.{reorder_shows}
use Rattle.effect_order.proofs.source_order.conflicting_order_keeps_values.Goals as goal

pub returns : goal.returns
returns g c does start before all out k r h = reorder_shows does before out all start k r h
