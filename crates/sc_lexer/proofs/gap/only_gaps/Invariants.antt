use Rattle.std.proofs.Common.{◌≡◌, ◌-◌, length}
use Rattle.sc_lexer.specs.Gap.{only_gaps}
use Rattle.sc_lexer.proofs.gap.only_gaps.Given as goal

-- what is left of the line decides, in the turns that are left
abbrev pub invariant-loop-turn : goal.invariant-loop-turn
invariant-loop-turn l = only_gaps (length l.line - l._turn) l.rest ≡ only_gaps (length l.line) l.line
