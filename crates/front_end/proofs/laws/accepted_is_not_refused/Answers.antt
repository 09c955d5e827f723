use Rattle.front_end.proofs.OneAnswer.{accepted-not-refused}
use Rattle.front_end.proofs.laws.accepted_is_not_refused.Goals as goal

pub returns : goal.returns
returns c = accepted-not-refused
