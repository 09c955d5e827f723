use Rattle.std.proofs.Common.{◌≡◌, false, drop}
use Rattle.sc_lexer.specs.Format.{format_end}
use Rattle.sc_lexer.proofs.format.format_size.Given as goal

-- the bytes that are left decide
abbrev pub invariant-loop-i : goal.invariant-loop-i
invariant-loop-i l = format_end l.escaped l.i (drop l.i l.bytes) ≡ format_end false 1 (drop 1 l.bytes)
