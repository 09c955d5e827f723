use Rattle.sc_typing.proofs.Noted.{some-answer}
use Rattle.sc_typing.proofs.laws.some_answer.Goals as goal

pub returns : goal.returns
returns c = some-answer
