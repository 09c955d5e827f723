use Rattle.sc_lexer.proofs.WholeLaws.{longest-pieces}
use Rattle.sc_lexer.proofs.laws.longest_elements.Goals as goal

pub returns : goal.returns
returns c = longest-pieces
