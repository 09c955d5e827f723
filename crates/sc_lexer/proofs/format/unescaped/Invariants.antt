use Rattle.std.proofs.Common.{◌≡◌, ◌++◌, false, drop}
use Rattle.sc_lexer.specs.Format.{unescaped}
use Rattle.sc_lexer.proofs.format.unescaped.Given as goal

-- the bytes that are left complete the text
abbrev pub invariant-loop-byte : goal.invariant-loop-byte
invariant-loop-byte l = l.text.items ++ unescaped l.escaped (drop l.byte-index l.coded) ≡ unescaped false l.coded
