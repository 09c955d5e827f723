use Rattle.sc_lexer.proofs.TextLaws.{one_of_both, not_both}
use Rattle.sc_lexer.proofs.laws.tokens_or_refusal.Goals as goal

pub returns : goal.returns
returns c = record { one = one_of_both; not_both = not_both }
