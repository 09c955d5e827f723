use Rattle.front_end.proofs.OneAnswer.{refused-once}
use Rattle.front_end.proofs.laws.at_most_one_refusal.Goals as goal

pub returns : goal.returns
returns c = refused-once
