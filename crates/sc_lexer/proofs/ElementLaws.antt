-- Each element takes at least one byte and at most those that there are, and a bad place is in the text or at its end.
use Rattle.std.proofs.Common.{◌≡◌, ℕ, zero, suc, ◌+◌, ◌-◌, ◌<◌, ◌≤◌, refl, sym, ap, ◌∙◌, subst, arith, Bool, true, false, cond, List, [], ◌∷◌, length, take, drop, Option, Some, None, Result, Ok, Err, length-drop, length-take-le, lit<}
use Rattle.std.specs.Prelude.{ℤ, ◌^◌, ◌||◌, ◌==◌, not, nat_eq, nat_lt, find, codes, is_none}
use Rattle.std.specs.List.{prefix_len, starts_with}
use Rattle.std.specs.Char.{is_ascii_digit, is_ascii_hexdigit}
use Rattle.std.proofs.lemmas.Bool.Decides.{nat_tests}
use Rattle.std.proofs.lemmas.Bool.{cond_both, and_parts, or_parts, false≢true, not-false}
use Rattle.std.proofs.lemmas.List.Sums.{prefix_len-le-length}
use Rattle.std.proofs.lemmas.List.Folds.{length-prefix_len}
use Rattle.sc_tree.specs.declared.token.Word.{Word}
use Rattle.sc_tree.specs.declared.token.Mark.{Mark}
use Rattle.sc_tree.specs.declared.token.Mark.TheVariants as mark
use Rattle.sc_lexer.specs.declared.number.Numeral.{Numeral}
use Rattle.sc_lexer.specs.declared.refusal.Refused.{Refused}
use Rattle.sc_lexer.specs.declared.refusal.Refused.TheVariants as refused
use Rattle.sc_lexer.specs.declared.element.Element.{Element}
use Rattle.sc_lexer.specs.declared.element.Found.TheVariants as found
use Rattle.sc_lexer.specs.Class.{is_blank, is_name_start, is_name_byte, is_not_newline, begins_with}
use Rattle.sc_lexer.specs.Spelling.{mark_text, marks, mark_of, word_of}
use Rattle.sc_lexer.specs.Number.{is_hex, numeral_size, numeral_value, number_at}
use Rattle.sc_lexer.specs.Format.{is_plain, is_escape, format_end}
use Rattle.sc_lexer.specs.Gap.{gap_at, comment_end, only_gaps}
use Rattle.sc_lexer.specs.Defined.{Definitions, defined_value}
use Rattle.sc_lexer.specs.Element.{element_at, or_solid, solid_at, name_at, named, numeral_at, numbered, format_at, quoted, mark_at, marked, directive_at, definition_at, can_define, defined_as, ends_line}
use Rattle.sc_lexer.specs.Text.{IsTakeable}

pub record IsGood (defined : Definitions) (bytes : List ℕ) (e : Element) : Type 0 where
  pub positive : 0 < e.size
  pub within : e.size ≤ length bytes
  pub takeable : IsTakeable defined (take e.size bytes) e.found

abbrev pub IsWithin : List ℕ → Refused → Type 0
IsWithin bytes refused.BadByte = Unit {0}
IsWithin bytes (refused.BadToken offset) = offset ≤ length bytes
IsWithin bytes refused.OpenComment = Unit {0}
IsWithin bytes refused.WideNumber = Unit {0}
IsWithin bytes refused.BadDirective = Unit {0}

abbrev pub IsFair : Definitions → List ℕ → Result Element Refused → Type 0
IsFair defined bytes (Ok e) = IsGood defined bytes e
IsFair defined bytes (Err r) = IsWithin bytes r

-- ---- names

name_byte-start : (b : ℕ) → is_name_start b ≡ true → is_name_byte b ≡ true
name_byte-start b e = grind (arith, nat_tests)

named-takeable : (defined : Definitions) (piece : List ℕ) (o : Option Word) → IsTakeable defined piece (named o)
named-takeable defined piece None = tt
named-takeable defined piece (Some w) = tt

pub prefix-positive : (p : ℕ → Bool) (bytes : List ℕ) → begins_with p bytes ≡ true → 0 < prefix_len p bytes
prefix-positive p [] e = absurd (false≢true e)
prefix-positive p (b ∷ bs) e = rw e (omega arith)

pub begins-name : (bytes : List ℕ) → begins_with is_name_start bytes ≡ true → begins_with is_name_byte bytes ≡ true
begins-name [] e = e
begins-name (b ∷ bs) e = name_byte-start b e

name_at-good : (defined : Definitions) (bytes : List ℕ) → begins_with is_name_start bytes ≡ true → IsGood defined bytes (name_at bytes)
unfolding name_at
name_at-good defined bytes e = record {
  positive = prefix-positive is_name_byte bytes (begins-name bytes e);
  within = prefix_len-le-length is_name_byte bytes;
  takeable = named-takeable defined _ (word_of (take (prefix_len is_name_byte bytes) bytes));
}

-- ---- numbers

hex-size : (bytes : List ℕ) → is_hex bytes ≡ true → 2 + prefix_len is_ascii_hexdigit (drop 2 bytes) ≤ length bytes
hex-size [] e = absurd (false≢true e)
hex-size (a ∷ []) e = absurd (false≢true e)
hex-size (a ∷ b ∷ []) e = absurd (false≢true e)
hex-size (a ∷ b ∷ c ∷ bs) e = omega (arith, prefix_len-le-length is_ascii_hexdigit (c ∷ bs))

record IsSize (bytes : List ℕ) (n : ℕ) : Type 0 where
  positive : 0 < n
  within : n ≤ length bytes

some-length : (p : ℕ → Bool) (bytes : List ℕ) → begins_with p bytes ≡ true → 0 < length bytes
some-length p [] e = absurd (false≢true e)
some-length p (b ∷ bs) e = omega arith

numeral_size-fits : (bytes : List ℕ) → begins_with is_ascii_digit bytes ≡ true → IsSize bytes (numeral_size bytes)
numeral_size-fits bytes e =
    let some = some-length is_ascii_digit bytes e in
    cond_both (is_hex bytes) _ _ (IsSize bytes)
    (λ hex. record { positive = omega arith; within = hex-size bytes hex })
    (λ _. cond_both (starts_with nat_eq bytes (codes "0")) _ _ (IsSize bytes)
    (λ _. record { positive = omega arith; within = omega arith })
    (λ _. record { positive = prefix-positive is_ascii_digit bytes e; within = prefix_len-le-length is_ascii_digit bytes }))

numeral_at-fair : (defined : Definitions) (bytes : List ℕ) → begins_with is_ascii_digit bytes ≡ true → IsFair defined bytes (numeral_at bytes)
unfolding numeral_at number_at
numeral_at-fair defined bytes e =
    let size = numeral_size-fits bytes e in
    cond_both (nat_lt (numeral_value bytes) (2 ^ 63)) _ _ (λ r. IsFair defined bytes (numbered r))
    (λ _. cond_both (begins_with is_name_byte (drop (numeral_size bytes) bytes)) _ _ (λ r. IsFair defined bytes (numbered r))
    (λ _. size.within)
    (λ _. record { positive = size.positive; within = size.within; takeable = tt }))
    (λ _. tt)

-- ---- formats

abbrev IsEnd : ℕ → List ℕ → Result ℕ Refused → Type 0
IsEnd place bytes (Ok n) = (place < n) × (n ≤ place + length bytes)
IsEnd place bytes (Err r) = (offset : ℕ) × (r ≡ refused.BadToken offset) × (offset ≤ place + length bytes)

IsEnd-more : (place b : ℕ) (bs : List ℕ) (r : Result ℕ Refused) → IsEnd (place + 1) bs r → IsEnd place (b ∷ bs) r
IsEnd-more place b bs (Ok n) h = (omega (arith, h.0), omega (arith, h.1))
IsEnd-more place b bs (Err r) h = (h.0, h.1, omega (arith, h.2))

format_end-ends : (escaped : Bool) (place : ℕ) (bytes : List ℕ) → IsEnd place bytes (format_end escaped place bytes)
format_end-ends false place [] = (place, refl, omega arith)
format_end-ends true place [] = (place - 1, refl, omega arith)
format_end-ends false place (b ∷ bs) =
    let quoted_on = IsEnd-more place b bs _ (format_end-ends true (place + 1) bs) in
    let plain_on = IsEnd-more place b bs _ (format_end-ends false (place + 1) bs) in
    cond_both (b == 34) _ _ (IsEnd place (b ∷ bs))
    (λ _. (omega arith, omega arith))
    (λ _. cond_both (b == 92) _ _ (IsEnd place (b ∷ bs))
    (λ _. quoted_on)
    (λ _. cond_both (is_plain b) _ _ (IsEnd place (b ∷ bs)) (λ _. plain_on) (λ _. (place, refl, omega arith))))
format_end-ends true place (b ∷ bs) =
    let plain_on = IsEnd-more place b bs _ (format_end-ends false (place + 1) bs) in
    cond_both (is_escape b) _ _ (IsEnd place (b ∷ bs)) (λ _. plain_on) (λ _. (place - 1, refl, omega arith))

quoted-fair : (defined : Definitions) (b : ℕ) (bs : List ℕ) (r : Result ℕ Refused) → IsEnd 1 bs r → IsFair defined (b ∷ bs) (quoted r)
quoted-fair defined b bs (Ok n) h = record {
  positive = omega (arith, h.0);
  within = omega (arith, h.1);
  takeable = let cut = length-take-le n (b ∷ bs) (omega (arith, h.1)) in omega (arith, h.0, cut);
}
quoted-fair defined b bs (Err r) h = subst (IsWithin (b ∷ bs)) (sym h.1) (omega (arith, h.2))

format_at-fair : (defined : Definitions) (bytes : List ℕ) → 0 < length bytes → IsFair defined bytes (format_at bytes)
unfolding format_at
format_at-fair defined [] h = absurd (omega arith)
format_at-fair defined (b ∷ bs) h = quoted-fair defined b bs (format_end false 1 bs) (format_end-ends false 1 bs)

-- ---- marks

pub mark_text-positive : (m : Mark) → 0 < length (mark_text m)
mark_text-positive mark.ShiftLeftEqual = lit< tt
mark_text-positive mark.ShiftRightEqual = lit< tt
mark_text-positive mark.ColonColon = lit< tt
mark_text-positive mark.ColonEqual = lit< tt
mark_text-positive mark.ColonMinus = lit< tt
mark_text-positive mark.EqualEqual = lit< tt
mark_text-positive mark.NotEqual = lit< tt
mark_text-positive mark.LessEqual = lit< tt
mark_text-positive mark.GreaterEqual = lit< tt
mark_text-positive mark.ShiftLeft = lit< tt
mark_text-positive mark.ShiftRight = lit< tt
mark_text-positive mark.AndAnd = lit< tt
mark_text-positive mark.OrOr = lit< tt
mark_text-positive mark.PlusPlus = lit< tt
mark_text-positive mark.MinusMinus = lit< tt
mark_text-positive mark.PlusEqual = lit< tt
mark_text-positive mark.MinusEqual = lit< tt
mark_text-positive mark.StarEqual = lit< tt
mark_text-positive mark.SlashEqual = lit< tt
mark_text-positive mark.PercentEqual = lit< tt
mark_text-positive mark.AndEqual = lit< tt
mark_text-positive mark.OrEqual = lit< tt
mark_text-positive mark.CaretEqual = lit< tt
mark_text-positive mark.OpenRound = lit< tt
mark_text-positive mark.CloseRound = lit< tt
mark_text-positive mark.OpenSquare = lit< tt
mark_text-positive mark.CloseSquare = lit< tt
mark_text-positive mark.OpenCurly = lit< tt
mark_text-positive mark.CloseCurly = lit< tt
mark_text-positive mark.Semicolon = lit< tt
mark_text-positive mark.Comma = lit< tt
mark_text-positive mark.Question = lit< tt
mark_text-positive mark.Colon = lit< tt
mark_text-positive mark.Equal = lit< tt
mark_text-positive mark.Plus = lit< tt
mark_text-positive mark.Minus = lit< tt
mark_text-positive mark.Star = lit< tt
mark_text-positive mark.Slash = lit< tt
mark_text-positive mark.Percent = lit< tt
mark_text-positive mark.And = lit< tt
mark_text-positive mark.Or = lit< tt
mark_text-positive mark.Caret = lit< tt
mark_text-positive mark.Tilde = lit< tt
mark_text-positive mark.Not = lit< tt
mark_text-positive mark.Less = lit< tt
mark_text-positive mark.Greater = lit< tt

pub starts_with-length : (xs needle : List ℕ) → starts_with nat_eq xs needle ≡ true → length needle ≤ length xs
starts_with-length xs [] e = omega arith
starts_with-length [] (n ∷ ns) e = absurd (false≢true e)
starts_with-length (x ∷ xs) (n ∷ ns) e =
    let shorter : length ns ≤ length xs = starts_with-length xs ns (and_parts _ _ e).1 in omega arith

pub find-passes : {X : Type 0} (p : X → Bool) (ms : List X) (m : X) → find p ms ≡ Some m → p m ≡ true
find-passes p [] m e = cc
find-passes {X} p (x ∷ xs) m e = first-or p x (find p xs) m (p x) refl e (find-passes p xs m)
  where
    first-or : (p : X → Bool) (x : X) (o : Option X) (m : X) (b : Bool) → b ≡ p x → cond b (Some x) o ≡ Some m → (o ≡ Some m → p m ≡ true) → p m ≡ true
    first-or p x o m true e f g = let same : x ≡ m = cc in ap p (sym same) ∙ sym e
    first-or p x o m false e f g = g f

marked-fair : (defined : Definitions) (bytes : List ℕ) → 0 < length bytes → (o : Option Mark) → mark_of bytes ≡ o → IsFair defined bytes (marked o)
unfolding mark_of
marked-fair defined bytes h None e = tt
marked-fair defined bytes h (Some m) e = record {
  positive = mark_text-positive m;
  within = starts_with-length bytes (mark_text m) (find-passes (λ x. starts_with nat_eq bytes (mark_text x)) marks m e);
  takeable = tt;
}

-- ---- directives

pub record IsLine (bytes line : List ℕ) : Type 0 where
  pub positive : 0 < length line
  pub within : length line ≤ length bytes
  pub front : take (length line) bytes ≡ line

ends_line-fair : (defined : Definitions) (bytes line : List ℕ) → IsLine bytes line → (from size : ℕ) (number : List ℕ) → from + size ≤ length line → defined_value (take size (drop from line)) defined ≡ None → (r : Result Numeral Refused) → IsFair defined bytes (ends_line (length line) from size number r)
ends_line-fair defined bytes line cut from size number within absent (Err r) = tt
ends_line-fair defined bytes line cut from size number within absent (Ok n) =
    cond_both (only_gaps (length (drop n.size number)) (drop n.size number)) _ _ (IsFair defined bytes)
    (λ _. record {
      positive = cut.positive;
      within = cut.within;
      takeable = subst (λ piece. IsTakeable defined piece (found.Define from size n.value)) (sym cut.front) (within, absent);
    })
    (λ _. tt)

is_none-true : (o : Option ℤ) → is_none o ≡ true → o ≡ None
is_none-true None e = refl
is_none-true (Some v) e = absurd (false≢true e)

definition_at-fair : (defined : Definitions) (bytes line : List ℕ) → IsLine bytes line → (place : ℕ) → place ≤ length line → IsFair defined bytes (definition_at defined line place)
unfolding definition_at defined_as can_define
definition_at-fair defined bytes line cut place within =
    let from = place + prefix_len is_blank (drop place line) in
    let name = drop from line in
    let size = prefix_len is_name_byte name in
    let rest = drop size name in
    let number = drop (prefix_len is_blank rest) rest in
    let blanks_within : prefix_len is_blank (drop place line) ≤ length line - place = subst (λ n. prefix_len is_blank (drop place line) ≤ n) (length-drop place line) (prefix_len-le-length is_blank (drop place line)) in
    let name_within : size ≤ length line - from = subst (λ n. size ≤ n) (length-drop from line) (prefix_len-le-length is_name_byte name) in
    let P : Result Element Refused → Type 0 = IsFair defined bytes in
    cond_both ((from == place) || not (can_define defined (take size name))) _ _ P
    (λ _. tt)
    (λ free. cond_both (begins_with is_ascii_digit number) _ _ P
    (λ _. ends_line-fair defined bytes line cut from size number (omega arith) (is_none-true _ (and_parts _ _ (not-false _ (or_parts (from == place) _ free).1)).1) (number_at number))
    (λ _. tt))

directive_at-fair : (defined : Definitions) (bytes line : List ℕ) → IsLine bytes line → IsFair defined bytes (directive_at defined line)
unfolding directive_at
directive_at-fair defined bytes line cut =
    let place = 1 + prefix_len is_blank (drop 1 line) in
    cond_both (starts_with nat_eq (drop place line) (codes "include")) _ _ (IsFair defined bytes)
    (λ _. record { positive = cut.positive; within = cut.within; takeable = tt })
    (λ _. cond_both (starts_with nat_eq (drop place line) (codes "define")) _ _ (IsFair defined bytes)
    (λ begins.
    let long : 6 ≤ length line - place = subst (λ n. 6 ≤ n) (length-drop place line) (starts_with-length (drop place line) (codes "define") begins) in
    definition_at-fair defined bytes line cut (place + 6) (omega arith))
    (λ _. tt))

-- ---- all

line-cut : (bytes : List ℕ) → begins_with is_not_newline bytes ≡ true → IsLine bytes (take (prefix_len is_not_newline bytes) bytes)
line-cut bytes e =
    let same = length-prefix_len is_not_newline bytes in
    record {
      positive = subst (λ n. 0 < n) (sym same) (prefix-positive is_not_newline bytes e);
      within = subst (λ n. n ≤ length bytes) (sym same) (prefix_len-le-length is_not_newline bytes);
      front = ap (λ n. take n bytes) same;
    }

hash-begins : (bytes : List ℕ) → begins_with (λ b. b == 35) bytes ≡ true → begins_with is_not_newline bytes ≡ true
hash-begins [] e = e
hash-begins (b ∷ bs) e = grind (arith, nat_tests)

solid_at-fair : (fresh : Bool) (defined : Definitions) (bytes : List ℕ) → 0 < length bytes → IsFair defined bytes (solid_at fresh defined bytes)
unfolding solid_at mark_at
solid_at-fair fresh defined bytes h =
    let P : Result Element Refused → Type 0 = IsFair defined bytes in
    cond_both (begins_with (λ b. b == 35) bytes) _ _ P
    (λ hash. cond_both fresh _ _ P (λ _. directive_at-fair defined bytes _ (line-cut bytes (hash-begins bytes hash))) (λ _. tt))
    (λ _. cond_both (begins_with is_name_start bytes) _ _ P
    (λ name. name_at-good defined bytes name)
    (λ _. cond_both (begins_with is_ascii_digit bytes) _ _ P
    (λ digit. numeral_at-fair defined bytes digit)
    (λ _. cond_both (begins_with (λ b. b == 34) bytes) _ _ P
    (λ _. format_at-fair defined bytes h)
    (λ _. marked-fair defined bytes h (mark_of bytes) refl))))

abbrev IsGapSize : List ℕ → Option ℕ → Type 0
IsGapSize bytes None = Unit {0}
IsGapSize bytes (Some n) = n ≤ length bytes

abbrev IsCommentEnd : ℕ → List ℕ → Option ℕ → Type 0
IsCommentEnd place bytes None = Unit {0}
IsCommentEnd place bytes (Some n) = n ≤ place + length bytes

IsCommentEnd-more : (place b : ℕ) (bs : List ℕ) (o : Option ℕ) → IsCommentEnd (place + 1) bs o → IsCommentEnd place (b ∷ bs) o
IsCommentEnd-more place b bs None h = tt
IsCommentEnd-more place b bs (Some n) h = omega arith

comment_end-within : (place : ℕ) (bytes : List ℕ) → IsCommentEnd place bytes (comment_end place bytes)
comment_end-within place [] = tt
comment_end-within place (b ∷ bs) =
    let more = IsCommentEnd-more place b bs _ (comment_end-within (place + 1) bs) in
    cond_both (starts_with nat_eq (b ∷ bs) (codes "*/")) _ _ (IsCommentEnd place (b ∷ bs))
    (λ e. let long = starts_with-length (b ∷ bs) (codes "*/") e in omega arith)
    (λ _. more)

comment-gap : (bytes : List ℕ) → 2 ≤ length bytes → (o : Option ℕ) → IsCommentEnd 2 (drop 2 bytes) o → IsGapSize bytes o
comment-gap bytes h None e = tt
comment-gap bytes h (Some n) e = let rest = length-drop 2 bytes in omega arith

gap_at-within : (bytes : List ℕ) → IsGapSize bytes (gap_at bytes)
gap_at-within [] = omega arith
gap_at-within (b ∷ bs) =
    let P : Option ℕ → Type 0 = IsGapSize (b ∷ bs) in
    cond_both (is_blank b) _ _ P (λ _. omega arith)
    (λ _. cond_both (starts_with nat_eq (b ∷ bs) (codes "//")) _ _ P (λ _. prefix_len-le-length is_not_newline (b ∷ bs))
    (λ _. cond_both (starts_with nat_eq (b ∷ bs) (codes "/*")) _ _ P
    (λ e. comment-gap (b ∷ bs) (starts_with-length (b ∷ bs) (codes "/*") e) _ (comment_end-within 2 (drop 2 (b ∷ bs))))
    (λ _. omega arith)))

or_solid-fair : (fresh : Bool) (defined : Definitions) (bytes : List ℕ) → 0 < length bytes → (o : Option ℕ) → IsGapSize bytes o → IsFair defined bytes (or_solid fresh defined bytes o)
or_solid-fair fresh defined bytes h None within = tt
or_solid-fair fresh defined bytes h (Some zero) within = solid_at-fair fresh defined bytes h
or_solid-fair fresh defined bytes h (Some (suc n)) within = record { positive = omega arith; within = within; takeable = tt }

pub element_at-fair : (fresh : Bool) (defined : Definitions) (bytes : List ℕ) → 0 < length bytes → IsFair defined bytes (element_at fresh defined bytes)
unfolding element_at
element_at-fair fresh defined bytes h = or_solid-fair fresh defined bytes h (gap_at bytes) (gap_at-within bytes)
