use Rattle.sc_lexer.proofs.WholeLaws.{marked-off-pieces, outside-comments, every-directive}
use Rattle.sc_lexer.proofs.laws.directives_begin_lines.Goals as goal

pub returns : goal.returns
returns c = record { marked_off = marked-off-pieces; outside = outside-comments; each = every-directive }
