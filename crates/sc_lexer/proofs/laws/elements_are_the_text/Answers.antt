use Rattle.sc_lexer.specs.Text.{start}
use Rattle.sc_lexer.proofs.PieceLaws.{start-stands, pieces-joined}
use Rattle.sc_lexer.proofs.WholeLaws.{some-bytes}
use Rattle.sc_lexer.proofs.laws.elements_are_the_text.Goals as goal

pub returns : goal.returns
returns c = record { joined = λ text a is. pieces-joined text _ text start is.0 is.1 (start-stands text) is.2 is.3; some = some-bytes }
