use Rattle.flow_form.proofs.Run.{sites_are_the_accesses}
use Rattle.flow_form.proofs.laws.sites_are_the_accesses.Goals as goal

pub returns : goal.returns
returns c = sites_are_the_accesses
