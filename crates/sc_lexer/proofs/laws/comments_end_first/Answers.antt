use Rattle.sc_lexer.proofs.WholeLaws.{gap-pieces}
use Rattle.sc_lexer.proofs.laws.comments_end_first.Goals as goal

pub returns : goal.returns
returns c = gap-pieces
