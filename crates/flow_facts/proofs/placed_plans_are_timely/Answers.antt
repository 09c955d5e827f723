use Rattle.flow_facts.proofs.FlowFacts.{placed_plans_are_timely}
use Rattle.flow_facts.proofs.placed_plans_are_timely.Goals as goal

pub returns : goal.returns
returns c = placed_plans_are_timely
