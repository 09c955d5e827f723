use Rattle.std.proofs.Common.{◌≤◌, ◌+◌, ◌*◌, ◌^◌, refl, arith, get_or}
use Rattle.std.specs.Char.{digit_value}
use Rattle.sc_lexer.proofs.NumberLaws.{fold-wide}
use Rattle.sc_lexer.proofs.number.value_of.Goals as goal

-- the digits so far are too wide already
pub returns-in_default : goal.returns-in_default
returns-in_default c =
    let digits = c.args.digits.now in
    let wide : 2 ^ 63 ≤ c.loop-digit.value * c.args.radix + digit_value (get_or digits c.loop-digit.digit-index 0) = omega (arith, c.in_default.ensures) in
    rw (fold-wide c.args.radix c.loop-digit.value digits c.loop-digit.digit-index 0 _ c.requires (omega arith) c.loop-digit.invariant wide) refl

pub returns-in_default-checked_add : goal.returns-in_default-checked_add
returns-in_default-checked_add c =
    let digits = c.args.digits.now in
    let wide : 2 ^ 63 ≤ c.loop-digit.value * c.args.radix + digit_value (get_or digits c.loop-digit.digit-index 0) = omega (arith, c.in_default-checked_add.ensures, c.in-Some.ensures, c.digit_value.ensures) in
    rw (fold-wide c.args.radix c.loop-digit.value digits c.loop-digit.digit-index 0 _ c.requires (omega arith) c.loop-digit.invariant wide) refl
