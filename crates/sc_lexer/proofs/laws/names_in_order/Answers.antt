use Rattle.sc_lexer.proofs.NumberedLaws.{numbered, have-numbers}
use Rattle.sc_lexer.proofs.laws.names_in_order.Goals as goal

pub returns : goal.returns
returns c = record { distinct = numbered; numbers = have-numbers }
