use Rattle.sync_place.proofs.PlanLaws.{wait_in_time}
use Rattle.sync_place.proofs.laws.plans_wait_in_time.Goals as goal

pub returns : goal.returns
returns c = wait_in_time
