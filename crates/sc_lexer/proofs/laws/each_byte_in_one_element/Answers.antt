use Rattle.std.proofs.Common.{arith, []}
use Rattle.sc_lexer.specs.Text.{start}
use Rattle.sc_lexer.proofs.PieceLaws.{start-stands, one-covers, covers-once}
use Rattle.sc_lexer.proofs.laws.each_byte_in_one_element.Goals as goal

pub returns : goal.returns
returns c = record {
  some = λ text a is place below. one-covers text [] text start is.0 is.1 (start-stands text) is.2 is.3 place (omega arith) below;
  one = λ text a is place i j p q at_i at_j in_p in_q. covers-once [] text is.0 i j p q place at_i at_j in_p in_q;
}
