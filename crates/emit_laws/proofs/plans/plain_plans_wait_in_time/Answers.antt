use Rattle.emit_laws.proofs.PlainPlans.{plain_plans_wait_in_time}
use Rattle.emit_laws.proofs.plans.plain_plans_wait_in_time.Goals as goal

pub returns : goal.returns
returns c = plain_plans_wait_in_time
