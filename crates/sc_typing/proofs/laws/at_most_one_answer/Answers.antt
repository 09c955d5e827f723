use Rattle.sc_typing.proofs.OneFirst.{one-rule, one-line, broken-not-typed}
use Rattle.sc_typing.proofs.laws.at_most_one_answer.Goals as goal

pub returns : goal.returns
returns c = record { rule = one-rule; line = one-line; not_both = broken-not-typed }
