use Rattle.sc_lexer.proofs.NumberedLaws.{what-they-say}
use Rattle.sc_lexer.proofs.laws.tokens_are_what_they_say.Goals as goal

pub returns : goal.returns
returns c = what-they-say
