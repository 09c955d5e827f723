use Rattle.sc_lexer.proofs.WholeLaws.{format-pieces}
use Rattle.sc_lexer.proofs.laws.formats_written_again.Goals as goal

pub returns : goal.returns
returns c = format-pieces
