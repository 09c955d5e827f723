use Rattle.std.proofs.Common.{◌≡◌, drop}
use Rattle.sc_lexer.specs.Gap.{comment_end}
use Rattle.sc_lexer.proofs.gap.comment_end.Given as goal

-- the bytes that are left decide
abbrev pub invariant-loop-i : goal.invariant-loop-i
invariant-loop-i l = comment_end l.i (drop l.i l.bytes) ≡ comment_end 2 (drop 2 l.bytes)
