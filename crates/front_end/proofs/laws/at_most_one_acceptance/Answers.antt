use Rattle.front_end.proofs.OneAnswer.{accepted-once}
use Rattle.front_end.proofs.laws.at_most_one_acceptance.Goals as goal

pub returns : goal.returns
returns c = accepted-once
