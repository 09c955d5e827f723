-- The checked arithmetic of the language, in whole numbers: the exact result of each operator, and the fault
-- that stands in its place where there is none of 64 bits with sign. Division is that of the C standard
-- (ISO/IEC 9899, "Multiplicative operators"): it truncates towards zero.
use Rattle.std.specs.Prelude.{ℕ, zero, ◌/◌, ◌^◌, ℤ, pos, negsuc, ◌+ℤ◌, ◌-ℤ◌, ◌*ℤ◌, neg_ℤ, Result, Ok, Err, Bool, not, ◌&&◌, if◌then◌else◌, nat_lt, int_lt, int_le, int_div, int_rem}
use Rattle.std.specs.Int.{w64, int_bit_and, int_bit_or, int_bit_xor}
use Rattle.std.specs.Ordering.{int_eq}
use Rattle.sc_base.specs.declared.operator.Binary.{Binary}
use Rattle.sc_base.specs.declared.operator.Binary.TheVariants.{Add, Sub, Mul, Div, Rem, Shl, Shr, And, Or, Xor, Eq, Ne, Lt, Le, Gt, Ge}
use Rattle.sc_base.specs.declared.operator.Unary.{Unary}
use Rattle.sc_base.specs.declared.operator.Unary.TheVariants.{Minus, Not, Invert}
use Rattle.sc_base.specs.declared.value.FaultKind.{FaultKind}
use Rattle.sc_base.specs.declared.value.FaultKind.TheVariants.{Divide, Overflow, Shift}

-- the number where it has 64 bits with sign, and else the fault Overflow
abbrev pub within_int : ℤ → Result ℤ FaultKind
within_int z = if int_le (neg_ℤ (pos (2 ^ 63))) z && int_lt z (pos (2 ^ 63)) then Ok z else Err Overflow

-- a quotient or a remainder: the divisor zero is the fault Divide
abbrev pub divided : (ℤ → ℤ → ℤ) → ℤ → ℤ → Result ℤ FaultKind
divided f a (pos zero) = Err Divide
divided f a b = within_int (f a b)

-- a shift: a count outside 0 to 63 is the fault Shift
abbrev pub shifted : (ℕ → ℤ) → ℤ → Result ℤ FaultKind
shifted f (pos count) = if nat_lt count 64 then within_int (f count) else Err Shift
shifted f (negsuc count) = Err Shift

-- the greatest whole number that is at most a / d, for a positive d
abbrev pub floor_div : ℤ → ℕ → ℤ
floor_div (pos a) d = pos (a / d)
floor_div (negsuc a) d = negsuc (a / d)

-- what a comparison gives
abbrev pub truth : Bool → Result ℤ FaultKind
truth b = Ok (if b then pos 1 else pos 0)

abbrev pub binary_of : Binary → ℤ → ℤ → Result ℤ FaultKind
binary_of Add a b = within_int (a +ℤ b)
binary_of Sub a b = within_int (a -ℤ b)
binary_of Mul a b = within_int (a *ℤ b)
binary_of Div a b = divided int_div a b
binary_of Rem a b = divided int_rem a b
binary_of Shl a b = shifted (λ count. a *ℤ pos (2 ^ count)) b
binary_of Shr a b = shifted (λ count. floor_div a (2 ^ count)) b
binary_of And a b = Ok (int_bit_and w64 a b)
binary_of Or a b = Ok (int_bit_or w64 a b)
binary_of Xor a b = Ok (int_bit_xor w64 a b)
binary_of Eq a b = truth (int_eq a b)
binary_of Ne a b = truth (not (int_eq a b))
binary_of Lt a b = truth (int_lt a b)
binary_of Le a b = truth (int_le a b)
binary_of Gt a b = truth (int_lt b a)
binary_of Ge a b = truth (int_le b a)

-- the complement of every bit of a is -a - 1
abbrev pub unary_of : Unary → ℤ → Result ℤ FaultKind
unary_of Minus a = within_int (neg_ℤ a)
unary_of Not a = truth (int_eq a (pos 0))
unary_of Invert a = Ok (neg_ℤ a -ℤ pos 1)
