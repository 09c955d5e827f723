use Rattle.sync_place.proofs.PlanLaws.{are_plans}
use Rattle.sync_place.proofs.laws.plans_are_plans.Goals as goal

pub returns : goal.returns
returns c = are_plans
