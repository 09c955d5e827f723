use Rattle.flow_facts.proofs.FlowFacts.{firsts_are_idle}
use Rattle.flow_facts.proofs.firsts_are_idle.Goals as goal

pub returns : goal.returns
returns c = firsts_are_idle
