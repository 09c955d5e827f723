use Rattle.std.proofs.Common.{◌≡◌, ◌+◌, ◌*◌, drop}
use Rattle.std.specs.Prelude.{fold}
use Rattle.std.specs.Char.{digit_value}
use Rattle.sc_lexer.specs.Number.{value_of}
use Rattle.sc_lexer.proofs.number.value_of.Given as goal

-- the digits that are left complete the value
abbrev pub invariant-loop-digit : goal.invariant-loop-digit
invariant-loop-digit l = fold (λ value digit. value * l.radix + digit_value digit) l.value (drop l.digit-index l.digits) ≡ value_of l.radix l.digits
