-- The number that digits of 32 bits stand for, least first, in two's complement.
use Rattle.std.specs.Prelude.{ℕ, ◌^◌, ℤ, pos, negsuc, ◌+ℤ◌, ◌*ℤ◌, Bool, true, false, List, [], ◌∷◌, Option, Some, None, nat_lt, slice_index_or, if◌then◌else◌}

-- the digits stand below `top`
abbrev pub value_over : List ℕ → (top : ℤ) → ℤ
value_over [] top = top
value_over (d ∷ more) top = pos d +ℤ pos 4294967296 *ℤ value_over more top

-- the number all of whose digits are ones, or zeros
abbrev pub sign : (negative : Bool) → ℤ
sign true = negsuc 0
sign false = pos 0

-- each digit past those that are written
abbrev pub filling : (negative : Bool) → ℕ
filling true = 4294967295
filling false = 0

-- the digit with this number, from 0
abbrev pub digit_at : List ℕ → (negative : Bool) → (number : ℕ) → ℕ
digit_at digits negative i = slice_index_or digits i (filling negative)

-- `negsuc n` is -n - 1
abbrev pub has_64_bits : ℤ → Bool
has_64_bits (pos n) = nat_lt n (2 ^ 63)
has_64_bits (negsuc n) = nat_lt n (2 ^ 63)

-- the number, if it has 64 bits with sign
abbrev pub in_64_bits : ℤ → Option ℤ
in_64_bits n = if has_64_bits n then Some n else None

-- the number with one digit below it, if both have 64 bits with sign
abbrev pub narrowed : Option ℤ → (digit : ℕ) → Option ℤ
narrowed None d = None
narrowed (Some n) d = in_64_bits (pos d +ℤ pos 4294967296 *ℤ n)
