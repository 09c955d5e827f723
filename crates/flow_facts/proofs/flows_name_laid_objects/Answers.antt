use Rattle.flow_facts.proofs.FlowFacts.{flows_name_laid_objects}
use Rattle.flow_facts.proofs.flows_name_laid_objects.Goals as goal

pub returns : goal.returns
returns c = flows_name_laid_objects
