-- Whole numbers: decimal ones without a leading zero and hexadecimal ones after `0x` or `0X`, as in C (ISO/IEC 9899,
-- "Integer constants") without octal ones and suffixes.
use Rattle.std.specs.Prelude.{ℕ, ◌+◌, ◌*◌, ◌^◌, ◌==◌, pos, Bool, false, ◌&&◌, ◌||◌, List, ◌∷◌, Result, Ok, Err, if◌then◌else◌, nat_lt, take, drop, fold, codes, nat_eq}
use Rattle.std.specs.List.{prefix_len, starts_with}
use Rattle.std.specs.Char.{digit_value, is_ascii_digit, is_ascii_hexdigit}
use Rattle.sc_lexer.specs.declared.number.Numeral.{Numeral}
use Rattle.sc_lexer.specs.declared.refusal.Refused.{Refused}
use Rattle.sc_lexer.specs.declared.refusal.Refused.TheVariants.{BadToken, WideNumber}
use Rattle.sc_lexer.specs.Class.{begins_with, is_name_byte}

-- what digits stand for
abbrev pub value_of : ℕ → List ℕ → ℕ
value_of radix digits = fold (λ value digit. value * radix + digit_value digit) 0 digits

-- whether the bytes begin with `0x` or `0X` and a hexadecimal digit
abbrev pub is_hex : List ℕ → Bool
is_hex (zero_ ∷ mark ∷ digit ∷ bytes) =
    ((zero_ == 48) && ((mark == 120) || (mark == 88))) && is_ascii_hexdigit digit
is_hex _ = false

-- the bytes of the number at the front of bytes that begin with a digit
abbrev pub numeral_size : List ℕ → ℕ
numeral_size bytes =
    if is_hex bytes then 2 + prefix_len is_ascii_hexdigit (drop 2 bytes)
    else (if starts_with nat_eq bytes (codes "0") then 1 else prefix_len is_ascii_digit bytes)

-- its value
abbrev pub numeral_value : List ℕ → ℕ
numeral_value bytes =
    if is_hex bytes then value_of 16 (take (prefix_len is_ascii_hexdigit (drop 2 bytes)) (drop 2 bytes))
    else value_of 10 (take (numeral_size bytes) bytes)

-- the number, which has 64 bits with sign and which no byte of a name follows
unfoldable pub number_at : List ℕ → Result Numeral Refused
number_at bytes =
    if nat_lt (numeral_value bytes) (2 ^ 63)
    then (if begins_with is_name_byte (drop (numeral_size bytes) bytes) then Err (BadToken (numeral_size bytes))
    else Ok (record { size = numeral_size bytes; value = pos (numeral_value bytes) }))
    else Err WideNumber
