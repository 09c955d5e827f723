use Rattle.source_order.proofs.Orderable.{items_are_orderable}
use Rattle.source_order.proofs.laws.items_are_orderable.Goals as goal

pub returns : goal.returns
returns c = items_are_orderable
