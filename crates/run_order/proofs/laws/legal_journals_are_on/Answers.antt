use Rattle.run_order.proofs.On.{legal_journals_are_on}
use Rattle.run_order.proofs.laws.legal_journals_are_on.Goals as goal

pub returns : goal.returns
returns c = legal_journals_are_on
