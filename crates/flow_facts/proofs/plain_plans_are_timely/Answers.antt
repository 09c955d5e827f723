use Rattle.flow_facts.proofs.FlowFacts.{plain_plans_are_timely}
use Rattle.flow_facts.proofs.plain_plans_are_timely.Goals as goal

pub returns : goal.returns
returns c = plain_plans_are_timely
