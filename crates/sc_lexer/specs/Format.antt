-- Formats: string literals of C (ISO/IEC 9899, "String literals") on one line, of printable ASCII and the escapes
-- of newline, tab, backslash and quote.
use Rattle.std.specs.Prelude.{ℕ, ◌+◌, ◌-◌, ◌==◌, Bool, true, false, not, ◌&&◌, ◌||◌, List, [], ◌∷◌, ◌++◌, Result, Ok, Err, if◌then◌else◌, nat_le, ◌≡◌, take, drop, length}
use Rattle.std.specs.List.{flat_map, list_all}
use Rattle.sc_lexer.specs.declared.refusal.Refused.{Refused}
use Rattle.sc_lexer.specs.declared.refusal.Refused.TheVariants.{BadToken}

-- the printable bytes of ASCII, with the space
abbrev pub is_printable : ℕ → Bool
is_printable b = nat_le 32 b && nat_le b 126

-- a printable byte other than the quote and the backslash, which stands for itself
abbrev pub is_plain : ℕ → Bool
is_plain b = (is_printable b && not (b == 34)) && not (b == 92)

-- what makes an escape after a backslash: `n`, `t`, a backslash or a quote
abbrev pub is_escape : ℕ → Bool
is_escape b = (((b == 110) || (b == 116)) || (b == 92)) || (b == 34)

-- and what it stands for
abbrev pub escape_value : ℕ → ℕ
escape_value b = if b == 110 then 10 else (if b == 116 then 9 else b)

-- the place after the closing quote of the format that goes on with these bytes, the first of which is at this
-- place; or the place of the first byte that fits no format. `true` says that a backslash stands before it, and
-- a backslash that begins no escape is itself the bad byte.
abbrev pub format_end : Bool → ℕ → List ℕ → Result ℕ Refused
format_end false place [] = Err (BadToken place)
format_end true place [] = Err (BadToken (place - 1))
format_end false place (b ∷ bs) =
    if b == 34 then Ok (place + 1)
    else (if b == 92 then format_end true (place + 1) bs
    else (if is_plain b then format_end false (place + 1) bs
    else Err (BadToken place)))
format_end true place (b ∷ bs) = if is_escape b then format_end false (place + 1) bs else Err (BadToken (place - 1))

-- what the bytes between the quotes stand for
abbrev pub unescaped : Bool → List ℕ → List ℕ
unescaped escaped [] = []
unescaped false (b ∷ bs) = if b == 92 then unescaped true bs else b ∷ unescaped false bs
unescaped true (b ∷ bs) = escape_value b ∷ unescaped false bs

-- how a byte of a format's text is written
abbrev pub coded : ℕ → List ℕ
coded c =
    if c == 10 then 92 ∷ 110 ∷ []
    else (if c == 9 then 92 ∷ 116 ∷ []
    else (if (c == 92) || (c == 34) then 92 ∷ c ∷ []
    else c ∷ []))

-- a byte that a format's text may have: one that stands for itself, a newline, a tab, a backslash or a quote
abbrev pub is_writable : ℕ → Bool
is_writable c = is_plain c || (((c == 10) || (c == 9)) || ((c == 92) || (c == 34)))

-- a text as it is written, and the whole format with its quotes
abbrev pub written : List ℕ → List ℕ
written text = flat_map coded text

abbrev pub quoted_text : List ℕ → List ℕ
quoted_text text = 34 ∷ (written text ++ 34 ∷ [])

-- what stands between the quotes of a format
abbrev pub between_quotes : List ℕ → List ℕ
between_quotes bytes = take (length bytes - 2) (drop 1 bytes)

-- the text of a format
abbrev pub format_text : List ℕ → List ℕ
format_text bytes = unescaped false (between_quotes bytes)

-- a format is a text as it is written, and between the quotes there are printable bytes of ASCII alone
pub record IsFormat (bytes : List ℕ) : Type 0 where
  pub writable : list_all is_writable (format_text bytes) ≡ true
  pub again : quoted_text (format_text bytes) ≡ bytes
  pub printable : list_all is_printable (between_quotes bytes) ≡ true
