use Rattle.sc_lexer.proofs.TextLaws.{lexed_once}
use Rattle.sc_lexer.proofs.laws.at_most_one_list.Goals as goal

pub returns : goal.returns
returns c = lexed_once
