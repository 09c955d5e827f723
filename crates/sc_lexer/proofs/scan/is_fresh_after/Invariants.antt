use Rattle.std.proofs.Common.{◌≡◌, drop}
use Rattle.sc_lexer.specs.Text.{is_fresh_after}
use Rattle.sc_lexer.proofs.scan.is_fresh_after.Given as goal

-- the bytes that are left decide
abbrev pub invariant-loop-byte : goal.invariant-loop-byte
invariant-loop-byte l = is_fresh_after l.only_blanks (drop l.byte-index l.piece) ≡ is_fresh_after l.fresh l.piece
