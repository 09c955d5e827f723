use Rattle.flow_form.proofs.Kept.{flows_are_kept}
use Rattle.flow_form.proofs.laws.flows_are_kept.Goals as goal

pub returns : goal.returns
returns c = flows_are_kept
