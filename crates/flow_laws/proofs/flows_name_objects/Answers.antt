use Rattle.flow_laws.proofs.Named.{flows_name_objects}
use Rattle.flow_laws.proofs.flows_name_objects.Goals as goal

pub returns : goal.returns
returns c = flows_name_objects
