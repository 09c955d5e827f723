use Rattle.front_end.proofs.SomeAnswer.{some-answer}
use Rattle.front_end.proofs.laws.accepted_or_refused.Goals as goal

pub returns : goal.returns
returns c = some-answer
