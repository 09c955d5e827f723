use Rattle.sync_place.proofs.PlanLaws.{are_of_order}
use Rattle.sync_place.proofs.laws.plans_are_of_order.Goals as goal

pub returns : goal.returns
returns c = are_of_order
