use Rattle.sc_grammar.proofs.SomeAnswer.{some-answer}
use Rattle.sc_grammar.proofs.refusals.sentence_or_refusal.Goals as goal

pub returns : goal.returns
returns c = some-answer
