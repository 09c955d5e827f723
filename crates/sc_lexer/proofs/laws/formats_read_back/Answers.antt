use Rattle.sc_lexer.proofs.FormatLaws.{text-read-back}
use Rattle.sc_lexer.proofs.WholeLaws.{format-read-back}
use Rattle.sc_lexer.proofs.laws.formats_read_back.Goals as goal

pub returns : goal.returns
returns c = record { element = format-read-back; text = text-read-back }
