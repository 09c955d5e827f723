-- The classes of bytes. Letters and digits are those of ASCII, and blanks are the white space of C (ISO/IEC 9899,
-- "Lexical elements") with the newline.
use Rattle.std.specs.Prelude.{ℕ, Bool, false, List, [], ◌∷◌, not, ◌||◌, ◌&&◌, ◌==◌, nat_le}
use Rattle.std.specs.Char.{is_ascii_alphabetic, is_ascii_alphanumeric}

-- space, or tab, newline, vertical tab, form feed and carriage return, which are 9 to 13
abbrev pub is_blank : ℕ → Bool
is_blank b = (b == 32) || (nat_le 9 b && nat_le b 13)

abbrev pub is_newline : ℕ → Bool
is_newline b = b == 10

abbrev pub is_not_newline : ℕ → Bool
is_not_newline b = not (is_newline b)

abbrev pub is_name_start : ℕ → Bool
is_name_start b = is_ascii_alphabetic b || (b == 95)

abbrev pub is_name_byte : ℕ → Bool
is_name_byte b = is_ascii_alphanumeric b || (b == 95)

-- whether there is a first byte and it is of the class
abbrev pub begins_with : (ℕ → Bool) → List ℕ → Bool
begins_with class [] = false
begins_with class (b ∷ bs) = class b
