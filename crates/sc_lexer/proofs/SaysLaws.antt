-- What each element says of the bytes at its front.
use Rattle.std.proofs.Common.{◌≡◌, ℕ, zero, suc, ◌+◌, ◌<◌, ◌≤◌, refl, sym, ap, ◌∙◌, subst, arith, Bool, true, false, cond, List, [], ◌∷◌, ◌++◌, take, drop, length, get_or, length-take-le, Option, Some, None, Result, Ok, Err, inl, inr, ⊎_elim}
use Rattle.std.specs.Prelude.{◌==◌, ◌||◌, ◌&&◌, ◌^◌, not, nat_eq, nat_lt, codes}
use Rattle.std.specs.List.{list_all, prefix_len, starts_with}
use Rattle.std.specs.Char.{is_ascii_digit}
use Rattle.std.proofs.lemmas.Bool.{cond_both, and_parts, cases_lt, eqb-true, false≢true, ne_eqb, not-true}
use Rattle.std.proofs.lemmas.Bool.Decides.{nat_tests}
use Rattle.std.proofs.lemmas.List.{drop_all}
use Rattle.std.proofs.lemmas.List.Folds.{length-prefix_len}
use Rattle.std.proofs.lemmas.List.Sums.{prefix_len_stops}
use Rattle.sc_tree.specs.declared.token.Word.{Word}
use Rattle.sc_tree.specs.declared.token.Mark.{Mark}
use Rattle.sc_lexer.specs.declared.number.Numeral.{Numeral}
use Rattle.sc_lexer.specs.declared.refusal.Refused.{Refused}
use Rattle.sc_lexer.specs.declared.refusal.Refused.TheVariants as refused
use Rattle.sc_lexer.specs.declared.element.Element.{Element}
use Rattle.sc_lexer.specs.declared.element.Found.{Found}
use Rattle.sc_lexer.specs.declared.element.Found.TheVariants as found
use Rattle.sc_lexer.specs.Class.{is_blank, is_name_start, is_name_byte, is_not_newline, begins_with}
use Rattle.sc_lexer.specs.Spelling.{mark_text, word_text, mark_of, word_of}
use Rattle.sc_lexer.specs.Number.{numeral_size, numeral_value, number_at}
use Rattle.sc_lexer.specs.Format.{is_plain, is_escape, format_end, IsFormat}
use Rattle.sc_lexer.specs.Gap.{gap_at, comment_end, only_gaps, HasNoEnd, IsBlank, IsLineComment, IsBlockComment, IsGap}
use Rattle.sc_lexer.specs.Defined.{Definitions}
use Rattle.sc_lexer.specs.Element.{element_at, or_solid, solid_at, name_at, named, numeral_at, numbered, format_at, quoted, mark_at, marked, directive_at, definition_at, can_define, defined_as, ends_line}
use Rattle.sc_lexer.specs.Longest.{is_name, IsLongest, IsLongestFound}
use Rattle.sc_lexer.specs.Piece.{is_directive}
use Rattle.sc_lexer.proofs.ElementLaws.{mark_text-positive}
use Rattle.sc_lexer.proofs.FormatLaws.{format_end-format, format_end-line}
use Rattle.sc_lexer.proofs.LongestLaws.{comment_end-first, comment_end-none}
use Rattle.sc_lexer.proofs.LongestMatch.{all-prefix, all-weaker, begins-at, begins-take, name-longest, number-front, number-longest, mark-front, mark-longest, mark-on-line, mark-no-blank, word-front}

abbrev pub begins_hash : List ℕ → Bool
begins_hash bytes = begins_with (λ b. b == 35) bytes

abbrev pub IsOther : List ℕ → ℕ → Found → Type 0
IsOther bytes size found.Gap = IsGap bytes size
IsOther bytes size found.Format = IsFormat (take size bytes)
IsOther bytes size found.Include = Unit {0}
IsOther bytes size (found.Define from name_size value) = Unit {0}
IsOther bytes size (found.Number value) = Unit {0}
IsOther bytes size found.Name = Unit {0}
IsOther bytes size (found.Word word) = Unit {0}
IsOther bytes size (found.Mark mark) = Unit {0}

-- so many bytes stand on one line, and the first is no blank
pub record IsSolid (bytes : List ℕ) (size : ℕ) : Type 0 where
  pub first : begins_with is_blank bytes ≡ false
  pub on_line : list_all is_not_newline (take size bytes) ≡ true

abbrev pub IsGapOrSolid : List ℕ → ℕ → Found → Type 0
IsGapOrSolid bytes size found.Gap = Unit {0}
IsGapOrSolid bytes size found.Format = IsSolid bytes size
IsGapOrSolid bytes size found.Include = IsSolid bytes size
IsGapOrSolid bytes size (found.Define from name_size value) = IsSolid bytes size
IsGapOrSolid bytes size (found.Number value) = IsSolid bytes size
IsGapOrSolid bytes size found.Name = IsSolid bytes size
IsGapOrSolid bytes size (found.Word word) = IsSolid bytes size
IsGapOrSolid bytes size (found.Mark mark) = IsSolid bytes size

-- what a good element says
pub record Says (fresh : Bool) (bytes : List ℕ) (size : ℕ) (f : Found) : Type 0 where
  pub hash : begins_hash bytes ≡ is_directive f
  pub start : is_directive f ≡ true → fresh ≡ true
  pub longest : IsLongestFound bytes size f
  pub other : IsOther bytes size f
  pub solid : IsGapOrSolid bytes size f

-- what an open comment says
pub record IsOpen (bytes : List ℕ) : Type 0 where
  pub begins : starts_with nat_eq bytes (codes "/*") ≡ true
  pub no_end : HasNoEnd (drop 2 bytes)

abbrev pub SaysResult : Bool → List ℕ → Result Element Refused → Type 0
SaysResult fresh bytes (Ok e) = Says fresh bytes e.size e.found
SaysResult fresh bytes (Err r) = r ≡ refused.OpenComment → IsOpen bytes

no_directive : (fresh : Bool) → false ≡ true → fresh ≡ true
no_directive fresh e = absurd (false≢true e)

bad_byte : (bytes : List ℕ) → refused.BadByte ≡ refused.OpenComment → IsOpen bytes
bad_byte bytes e = absurd (differ e)
  where
    differ : refused.BadByte ≡ refused.OpenComment → ⊥
    differ e = cc

bad_token : (bytes : List ℕ) (n : ℕ) → refused.BadToken n ≡ refused.OpenComment → IsOpen bytes
bad_token bytes n e = absurd (differ n e)
  where
    differ : (n : ℕ) → refused.BadToken n ≡ refused.OpenComment → ⊥
    differ n e = cc

wide_number : (bytes : List ℕ) → refused.WideNumber ≡ refused.OpenComment → IsOpen bytes
wide_number bytes e = absurd (differ e)
  where
    differ : refused.WideNumber ≡ refused.OpenComment → ⊥
    differ e = cc

bad_directive : (bytes : List ℕ) → refused.BadDirective ≡ refused.OpenComment → IsOpen bytes
bad_directive bytes e = absurd (differ e)
  where
    differ : refused.BadDirective ≡ refused.OpenComment → ⊥
    differ e = cc

-- what stands for the first byte and the others
no-blank : (c : ℕ → Bool) → ((b : ℕ) → c b ≡ true → is_blank b ≡ false) → (bytes : List ℕ) → begins_with c bytes ≡ true → begins_with is_blank bytes ≡ false
no-blank c apart [] e = absurd (false≢true e)
no-blank c apart (b ∷ bs) e = apart b e

name-no-blank : (b : ℕ) → is_name_start b ≡ true → is_blank b ≡ false
name-no-blank b e = grind (arith, nat_tests)

digit-no-blank : (b : ℕ) → is_ascii_digit b ≡ true → is_blank b ≡ false
digit-no-blank b e = grind (arith, nat_tests)

quote-no-blank : (b : ℕ) → (b == 34) ≡ true → is_blank b ≡ false
quote-no-blank b e = grind (arith, nat_tests)

hash-no-blank : (b : ℕ) → (b == 35) ≡ true → is_blank b ≡ false
hash-no-blank b e = grind (arith, nat_tests)

name-on-line : (b : ℕ) → is_name_byte b ≡ true → is_not_newline b ≡ true
name-on-line b e = grind (arith, nat_tests)

on-line : (bytes : List ℕ) → list_all is_name_byte bytes ≡ true → list_all is_not_newline bytes ≡ true
on-line bytes e = all-weaker is_name_byte is_not_newline name-on-line bytes e

-- ---- names, numbers, formats and marks

named-says : (fresh : Bool) (bytes : List ℕ) (size : ℕ) → begins_hash bytes ≡ false → IsLongest is_name bytes size → IsSolid bytes size → (o : Option Word) → word_of (take size bytes) ≡ o → Says fresh bytes size (named o)
named-says fresh bytes size no_hash longest solid None is = record { hash = no_hash; start = no_directive fresh; longest = (longest, is); other = tt; solid = solid }
named-says fresh bytes size no_hash longest solid (Some w) is = record { hash = no_hash; start = no_directive fresh; longest = (longest, word-front (take size bytes) w is); other = tt; solid = solid }

name_at-says : (fresh : Bool) (bytes : List ℕ) → begins_hash bytes ≡ false → begins_with is_name_start bytes ≡ true → Says fresh bytes (name_at bytes).size (name_at bytes).found
unfolding name_at
name_at-says fresh bytes no_hash begins =
    let solid : IsSolid bytes (prefix_len is_name_byte bytes) = record { first = no-blank is_name_start name-no-blank bytes begins; on_line = on-line (take (prefix_len is_name_byte bytes) bytes) (all-prefix is_name_byte bytes) } in
    named-says fresh bytes (prefix_len is_name_byte bytes) no_hash (name-longest bytes begins) solid (word_of (take (prefix_len is_name_byte bytes) bytes)) refl

numeral_at-says : (fresh : Bool) (bytes : List ℕ) → begins_hash bytes ≡ false → begins_with is_ascii_digit bytes ≡ true → SaysResult fresh bytes (numeral_at bytes)
unfolding numeral_at number_at
numeral_at-says fresh bytes no_hash digit =
    let P : Result Numeral Refused → Type 0 = λ r. SaysResult fresh bytes (numbered r) in
    cond_both (nat_lt (numeral_value bytes) (2 ^ 63)) _ _ P
    (λ _. cond_both (begins_with is_name_byte (drop (numeral_size bytes) bytes)) _ _ P
    (λ _. bad_token bytes (numeral_size bytes))
    (λ stops. record {
      hash = no_hash;
      start = no_directive fresh;
      longest = (number-longest bytes digit stops, refl);
      other = tt;
      solid = record { first = no-blank is_ascii_digit digit-no-blank bytes digit; on_line = on-line (take (numeral_size bytes) bytes) (number-front bytes digit) };
    }))
    (λ _. wide_number bytes)

-- a format is refused for a byte of it
abbrev IsBadToken : Result ℕ Refused → Type 0
IsBadToken (Ok n) = Unit {0}
IsBadToken (Err r) = (n : ℕ) × (r ≡ refused.BadToken n)

format_end-token : (escaped : Bool) (place : ℕ) (bytes : List ℕ) → IsBadToken (format_end escaped place bytes)
format_end-token false place [] = (place, refl)
format_end-token true place [] = (_, refl)
format_end-token false place (b ∷ bs) =
    let escape_on = format_end-token true (place + 1) bs in
    let plain_on = format_end-token false (place + 1) bs in
    cond_both (b == 34) _ _ IsBadToken (λ _. tt)
    (λ _. cond_both (b == 92) _ _ IsBadToken (λ _. escape_on)
    (λ _. cond_both (is_plain b) _ _ IsBadToken (λ _. plain_on) (λ _. (place, refl))))
format_end-token true place (b ∷ bs) =
    let plain_on = format_end-token false (place + 1) bs in
    cond_both (is_escape b) _ _ IsBadToken (λ _. plain_on) (λ _. (_, refl))

quoted-says : (fresh : Bool) (b : ℕ) (bs : List ℕ) → begins_hash (b ∷ bs) ≡ false → (b == 34) ≡ true → (r : Result ℕ Refused) → format_end false 1 bs ≡ r → IsBadToken r → SaysResult fresh (b ∷ bs) (quoted r)
quoted-says fresh b bs no_hash quote (Ok n) is bad = record {
  hash = no_hash;
  start = no_directive fresh;
  longest = tt;
  other = format_end-format b bs n quote is;
  solid = record { first = quote-no-blank b quote; on_line = format_end-line b bs n quote is };
}
quoted-says fresh b bs no_hash quote (Err r) is bad = λ e. bad_token (b ∷ bs) bad.0 (sym bad.1 ∙ e)

format_at-says : (fresh : Bool) (bytes : List ℕ) → begins_hash bytes ≡ false → begins_with (λ b. b == 34) bytes ≡ true → SaysResult fresh bytes (format_at bytes)
unfolding format_at
format_at-says fresh [] no_hash quote = absurd (false≢true quote)
format_at-says fresh (b ∷ bs) no_hash quote = quoted-says fresh b bs no_hash quote (format_end false 1 bs) refl (format_end-token false 1 bs)

mark-solid : (bytes : List ℕ) (m : Mark) → mark_of bytes ≡ Some m → IsSolid bytes (length (mark_text m))
mark-solid bytes m is =
    let front = mark-front bytes m is in
    record {
      first = sym (begins-take is_blank bytes (length (mark_text m)) (mark_text-positive m)) ∙ ap (begins_with is_blank) front ∙ not-true (begins_with is_blank (mark_text m)) (mark-no-blank m);
      on_line = ap (list_all is_not_newline) front ∙ mark-on-line m;
    }

marked-says : (fresh : Bool) (bytes : List ℕ) → begins_hash bytes ≡ false → (o : Option Mark) → mark_of bytes ≡ o → SaysResult fresh bytes (marked o)
marked-says fresh bytes no_hash None is = bad_byte bytes
marked-says fresh bytes no_hash (Some m) is = record { hash = no_hash; start = no_directive fresh; longest = (mark-longest bytes m is, mark-front bytes m is); other = tt; solid = mark-solid bytes m is }

-- ---- directives

directive_at-says : (bytes : List ℕ) → begins_hash bytes ≡ true → (defined : Definitions) (line : List ℕ) → list_all is_not_newline (take (length line) bytes) ≡ true → SaysResult true bytes (directive_at defined line)
unfolding directive_at definition_at defined_as number_at
directive_at-says bytes hash defined line on_line =
    let place = 1 + prefix_len is_blank (drop 1 line) in
    let P : Result Element Refused → Type 0 = SaysResult true bytes in
    cond_both (starts_with nat_eq (drop place line) (codes "include")) _ _ P
    (λ _. record { hash = hash; start = λ _. refl; longest = tt; other = tt; solid = solid })
    (λ _. cond_both (starts_with nat_eq (drop place line) (codes "define")) _ _ P
    (λ _. definition-says (place + 6))
    (λ _. bad_directive bytes))
  where
    solid : IsSolid bytes (length line)
    solid = record { first = no-blank (λ b. b == 35) hash-no-blank bytes hash; on_line = on_line }

    ends_line-says : (from name_size : ℕ) (number : List ℕ) (r : Result Numeral Refused) → SaysResult true bytes (ends_line (length line) from name_size number r)
    ends_line-says from name_size number (Err r) = bad_directive bytes
    ends_line-says from name_size number (Ok n) =
        cond_both (only_gaps (length (drop n.size number)) (drop n.size number)) _ _ (SaysResult true bytes)
        (λ _. record { hash = hash; start = λ _. refl; longest = tt; other = tt; solid = solid })
        (λ _. bad_directive bytes)

    definition-says : (place : ℕ) → SaysResult true bytes (definition_at defined line place)
    definition-says place =
        let from = place + prefix_len is_blank (drop place line) in
        let name = drop from line in
        let size = prefix_len is_name_byte name in
        let rest = drop size name in
        let number = drop (prefix_len is_blank rest) rest in
        let P : Result Element Refused → Type 0 = SaysResult true bytes in
        cond_both ((from == place) || not (can_define defined (take size name))) _ _ P
        (λ _. bad_directive bytes)
        (λ _. cond_both (begins_with is_ascii_digit number) _ _ P
        (λ _. ends_line-says from size number (number_at number))
        (λ _. bad_directive bytes))

line-on-line : (bytes : List ℕ) → list_all is_not_newline (take (length (take (prefix_len is_not_newline bytes) bytes)) bytes) ≡ true
line-on-line bytes = ap (λ n. list_all is_not_newline (take n bytes)) (length-prefix_len is_not_newline bytes) ∙ all-prefix is_not_newline bytes

solid_at-says : (fresh : Bool) (defined : Definitions) (bytes : List ℕ) → SaysResult fresh bytes (solid_at fresh defined bytes)
unfolding solid_at mark_at
solid_at-says fresh defined bytes =
    let P : Result Element Refused → Type 0 = SaysResult fresh bytes in
    cond_both (begins_hash bytes) _ _ P
    (λ hash. cond_both fresh _ _ P
    (λ is_fresh. let Q : Bool → Type 0 = λ b. SaysResult b bytes (directive_at defined (take (prefix_len is_not_newline bytes) bytes)) in subst Q (sym is_fresh) (directive_at-says bytes hash defined (take (prefix_len is_not_newline bytes) bytes) (line-on-line bytes)))
    (λ _. bad_byte bytes))
    (λ no_hash. cond_both (begins_with is_name_start bytes) _ _ P
    (λ name. name_at-says fresh bytes no_hash name)
    (λ _. cond_both (begins_with is_ascii_digit bytes) _ _ P
    (λ digit. numeral_at-says fresh bytes no_hash digit)
    (λ _. cond_both (begins_with (λ b. b == 34) bytes) _ _ P
    (λ quote. format_at-says fresh bytes no_hash quote)
    (λ _. marked-says fresh bytes no_hash (mark_of bytes) refl))))

-- ---- blanks and comments

-- a gap at the front, which does not begin with `#`
record IsGapThere (bytes : List ℕ) (size : ℕ) : Type 0 where
  gap : IsGap bytes size
  no_hash : begins_hash bytes ≡ false

abbrev GapSays : List ℕ → Option ℕ → Type 0
GapSays bytes None = IsOpen bytes
GapSays bytes (Some n) = 0 < n → IsGapThere bytes n

blank-no-hash : (b : ℕ) → is_blank b ≡ true → (b == 35) ≡ false
blank-no-hash b e = grind (arith, nat_tests)

-- what begins with a slash does not begin with `#`
slash-no-hash : (b c : ℕ) (bs : List ℕ) → starts_with nat_eq (b ∷ bs) (47 ∷ c ∷ []) ≡ true → (b == 35) ≡ false
slash-no-hash b c bs e =
    let same : 47 ≡ b = eqb-true 47 b (and_parts (47 == b) _ e).0 in
    ne_eqb b 35 (λ is. omega arith)

line-ends : (bytes : List ℕ) → begins_with is_not_newline (drop (prefix_len is_not_newline bytes) bytes) ≡ false
line-ends bytes =
    let size = prefix_len is_not_newline bytes in
    ⊎_elim
    (λ inside. begins-at is_not_newline bytes size inside ∙ prefix_len_stops is_not_newline bytes 0 inside)
    (λ past. ap (begins_with is_not_newline) (drop_all size bytes past))
    (cases_lt size (length bytes))

block-says : (b : ℕ) (bs : List ℕ) → starts_with nat_eq (b ∷ bs) (codes "/*") ≡ true → (o : Option ℕ) → comment_end 2 (drop 2 (b ∷ bs)) ≡ o → GapSays (b ∷ bs) o
block-says b bs begins None is = record { begins = begins; no_end = comment_end-none 2 (drop 2 (b ∷ bs)) is }
block-says b bs begins (Some n) is = λ _. record {
  gap = inr (inr (record { begins = begins; ends = comment_end-first 2 (drop 2 (b ∷ bs)) n is }));
  no_hash = slash-no-hash b 42 bs begins;
}

gap_at-says : (bytes : List ℕ) → GapSays bytes (gap_at bytes)
gap_at-says [] = λ h. absurd (omega arith)
gap_at-says (b ∷ bs) =
    let P : Option ℕ → Type 0 = GapSays (b ∷ bs) in
    cond_both (is_blank b) _ _ P
    (λ blank. λ _. record { gap = inl (record { blank = blank; one = refl }); no_hash = blank-no-hash b blank })
    (λ _. cond_both (starts_with nat_eq (b ∷ bs) (codes "//")) _ _ P
    (λ begins. λ _. record { gap = inr (inl (record { begins = begins; on_line = all-prefix is_not_newline (b ∷ bs); ends = line-ends (b ∷ bs) })); no_hash = slash-no-hash b 47 bs begins })
    (λ _. cond_both (starts_with nat_eq (b ∷ bs) (codes "/*")) _ _ P
    (λ begins. block-says b bs begins (comment_end 2 (drop 2 (b ∷ bs))) refl)
    (λ _. λ h. absurd (omega arith))))

or_solid-says : (fresh : Bool) (defined : Definitions) (bytes : List ℕ) (o : Option ℕ) → GapSays bytes o → SaysResult fresh bytes (or_solid fresh defined bytes o)
or_solid-says fresh defined bytes None opened = λ _. opened
or_solid-says fresh defined bytes (Some zero) says = solid_at-says fresh defined bytes
or_solid-says fresh defined bytes (Some (suc n)) says =
    let there = says (omega arith) in
    record { hash = there.no_hash; start = no_directive fresh; longest = tt; other = there.gap; solid = tt }

pub element_at-says : (fresh : Bool) (defined : Definitions) (bytes : List ℕ) → SaysResult fresh bytes (element_at fresh defined bytes)
unfolding element_at
element_at-says fresh defined bytes = or_solid-says fresh defined bytes (gap_at bytes) (gap_at-says bytes)

-- what is answered says so
pub found-says : (fresh : Bool) (defined : Definitions) (bytes : List ℕ) (e : Element) → element_at fresh defined bytes ≡ Ok e → Says fresh bytes e.size e.found
found-says fresh defined bytes e is = let P : Result Element Refused → Type 0 = SaysResult fresh bytes in subst P is (element_at-says fresh defined bytes)

pub open-says : (fresh : Bool) (defined : Definitions) (bytes : List ℕ) → element_at fresh defined bytes ≡ Err refused.OpenComment → IsOpen bytes
open-says fresh defined bytes is =
    let P : Result Element Refused → Type 0 = SaysResult fresh bytes in
    let says : SaysResult fresh bytes (Err refused.OpenComment) = subst P is (element_at-says fresh defined bytes) in
    says refl
