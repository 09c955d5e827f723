use Rattle.sc_lexer.proofs.WholeLaws.{open-begins, open-has-no-end}
use Rattle.sc_lexer.proofs.laws.open_comments_have_no_end.Goals as goal

pub returns : goal.returns
returns c = record { begins = open-begins; no_end = open-has-no-end }
