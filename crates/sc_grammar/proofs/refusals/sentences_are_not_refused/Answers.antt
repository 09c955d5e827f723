use Rattle.sc_grammar.proofs.OneAnswer.{sentence-syntax, sentence-deep}
use Rattle.sc_grammar.proofs.refusals.sentences_are_not_refused.Goals as goal

pub returns : goal.returns
returns c = record { syntax = sentence-syntax; deep = sentence-deep }
