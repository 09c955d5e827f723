-- Names, numbers and marks as whole texts, and the longest of them at the front of bytes.
use Rattle.std.specs.Prelude.{◌≡◌, ℕ, pos, None, ◌<◌, ◌≤◌, ◌==◌, Bool, true, false, not, ◌&&◌, ◌||◌, List, take, drop, length, codes}
use Rattle.std.specs.List.{list_all, list_any}
use Rattle.std.specs.Str.{bytes_eq}
use Rattle.std.specs.Char.{is_ascii_digit, is_ascii_hexdigit}
use Rattle.sc_lexer.specs.declared.element.Found.{Found}
use Rattle.sc_lexer.specs.declared.element.Found.TheVariants as found
use Rattle.sc_lexer.specs.Class.{is_name_start, is_name_byte, begins_with}
use Rattle.sc_lexer.specs.Number.{numeral_value}
use Rattle.sc_lexer.specs.Spelling.{word_text, mark_text, marks, word_of}
use Rattle.sc_lexer.specs.Piece.{Piece}

-- a letter or `_`, followed by letters, digits and `_`
abbrev pub is_name : List ℕ → Bool
is_name bytes = begins_with is_name_start bytes && list_all is_name_byte bytes

-- a digit other than 0, followed by digits
abbrev pub is_decimal : List ℕ → Bool
is_decimal bytes =
    (begins_with is_ascii_digit bytes && not (begins_with (λ b. b == 48) bytes))
    && list_all is_ascii_digit bytes

-- `0x` or `0X`, followed by at least one hexadecimal digit
abbrev pub is_hexadecimal : List ℕ → Bool
is_hexadecimal bytes =
    (bytes_eq (take 2 bytes) (codes "0x") || bytes_eq (take 2 bytes) (codes "0X"))
    && (begins_with is_ascii_hexdigit (drop 2 bytes) && list_all is_ascii_hexdigit (drop 2 bytes))

abbrev pub is_number : List ℕ → Bool
is_number bytes = (bytes_eq bytes (codes "0") || is_decimal bytes) || is_hexadecimal bytes

-- one of the marks
unfoldable pub is_mark : List ℕ → Bool
is_mark bytes = list_any (λ m. bytes_eq bytes (mark_text m)) marks

-- the front of this size is one of the kind, and no longer front is
pub record IsLongest (is_one : List ℕ → Bool) (bytes : List ℕ) (size : ℕ) : Type 0 where
  pub fits : is_one (take size bytes) ≡ true
  pub no_longer : (n : ℕ) → size < n → n ≤ length bytes → is_one (take n bytes) ≡ false

-- what is found in the bytes at the front is the longest of its kind, and is what they spell
abbrev pub IsLongestFound : List ℕ → ℕ → Found → Type 0
IsLongestFound bytes size found.Name = IsLongest is_name bytes size × (word_of (take size bytes) ≡ None)
IsLongestFound bytes size (found.Word word) = IsLongest is_name bytes size × (take size bytes ≡ word_text word)
IsLongestFound bytes size (found.Number value) = IsLongest is_number bytes size × (value ≡ pos (numeral_value bytes))
IsLongestFound bytes size (found.Mark mark) = IsLongest is_mark bytes size × (take size bytes ≡ mark_text mark)
IsLongestFound bytes size found.Format = Unit {0}
IsLongestFound bytes size found.Gap = Unit {0}
IsLongestFound bytes size found.Include = Unit {0}
IsLongestFound bytes size (found.Define from name_size value) = Unit {0}

-- the piece is the longest of its kind in the text where it stands
abbrev pub IsLongestPiece : List ℕ → Piece → Type 0
IsLongestPiece text p = IsLongestFound (drop (length p.before) text) (length p.bytes) p.found
