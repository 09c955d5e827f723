use Rattle.sc_grammar.proofs.OneAnswer.{syntax-once, deep-once, syntax-or-deep}
use Rattle.sc_grammar.proofs.refusals.at_most_one_refusal.Goals as goal

pub returns : goal.returns
returns c = record { syntax = syntax-once; deep = deep-once; not_both = syntax-or-deep }
