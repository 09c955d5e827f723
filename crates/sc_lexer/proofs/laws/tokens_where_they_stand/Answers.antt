use Rattle.sc_lexer.proofs.NumberedLaws.{tokens-stand}
use Rattle.sc_lexer.proofs.PlaceLaws.{all-on-lines}
use Rattle.sc_lexer.proofs.laws.tokens_where_they_stand.Goals as goal

pub returns : goal.returns
returns c = record { places = tokens-stand; lines = all-on-lines }
