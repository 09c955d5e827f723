-- A format is a text as it is written, and what is written so is read so.
use Rattle.std.proofs.Common.{◌≡◌, ℕ, zero, suc, ◌+◌, ◌-◌, ◌≤◌, refl, sym, ap, ◌∙◌, subst, arith, Bool, true, false, List, [], ◌∷◌, ◌++◌, take, drop, length, length-append, Result, Ok, Err, ⊎_elim}
use Rattle.std.specs.Prelude.{◌==◌, ◌||◌, ◌⊎◌}
use Rattle.std.specs.List.{flat_map, list_all}
use Rattle.std.proofs.lemmas.Bool.{cases_Bool, or_cases, and_parts, and_from, eqb-true, cond-true, cond-false, false≢true}
use Rattle.std.proofs.lemmas.Bool.Decides.{nat_tests}
use Rattle.std.proofs.lemmas.List.{append_assoc, take_at}
use Rattle.std.proofs.lemmas.List.Folds.{list_all-append}
use Rattle.sc_lexer.specs.declared.refusal.Refused.{Refused}
use Rattle.sc_lexer.specs.Class.{begins_with, is_not_newline}
use Rattle.sc_lexer.specs.Format.{is_printable, is_plain, is_escape, escape_value, format_end, unescaped, coded, is_writable, written, quoted_text, between_quotes, format_text, IsFormat}

-- from this place on the bytes are those of a text as it is written, and a quote, and the place after it is the end
record Spells (place : ℕ) (bytes : List ℕ) (end : ℕ) : Type 0 where
  n : ℕ
  ends : end ≡ place + n + 1
  quote : begins_with (λ b. b == 34) (drop n bytes) ≡ true
  again : flat_map coded (unescaped false (take n bytes)) ≡ take n bytes
  writable : list_all is_writable (unescaped false (take n bytes)) ≡ true
  printable : list_all is_printable (take n bytes) ≡ true

-- behind a backslash: the same, one byte on
record SpellsEscape (place : ℕ) (bytes : List ℕ) (end : ℕ) : Type 0 where
  n : ℕ
  ends : end ≡ place + suc n + 1
  quote : begins_with (λ b. b == 34) (drop (suc n) bytes) ≡ true
  again : flat_map coded (unescaped true (take (suc n) bytes)) ≡ 92 ∷ take (suc n) bytes
  writable : list_all is_writable (unescaped true (take (suc n) bytes)) ≡ true
  printable : list_all is_printable (take (suc n) bytes) ≡ true

ok_same : (a b : ℕ) → ◌≡◌ {A = Result ℕ Refused} (Ok a) (Ok b) → a ≡ b
ok_same a b e = cc

err_not_ok : (r : Refused) (b : ℕ) → ◌≡◌ {A = Result ℕ Refused} (Err r) (Ok b) → ⊥
err_not_ok r b e = cc

plain-coded : (b : ℕ) → is_plain b ≡ true → coded b ≡ b ∷ []
plain-coded b e = grind (arith, nat_tests)

plain-printable : (b : ℕ) → is_plain b ≡ true → is_printable b ≡ true
plain-printable b e = (and_parts _ _ (and_parts _ _ e).0).0

plain-writable : (b : ℕ) → is_plain b ≡ true → is_writable b ≡ true
plain-writable b e = grind (arith, nat_tests)

-- what holds of each byte that makes an escape
escape-cases : (P : ℕ → Type 0) (b : ℕ) → is_escape b ≡ true → P 110 → P 116 → P 92 → P 34 → P b
escape-cases P b e at_n at_t at_backslash at_quote = ⊎_elim
    (λ three. ⊎_elim
    (λ two. ⊎_elim
    (λ one. subst P (sym (eqb-true b 110 one)) at_n)
    (λ one. subst P (sym (eqb-true b 116 one)) at_t)
    (or_cases (b == 110) (b == 116) two))
    (λ one. subst P (sym (eqb-true b 92 one)) at_backslash)
    (or_cases ((b == 110) || (b == 116)) (b == 92) three))
    (λ one. subst P (sym (eqb-true b 34 one)) at_quote)
    (or_cases (((b == 110) || (b == 116)) || (b == 92)) (b == 34) e)

escape-coded : (b : ℕ) → is_escape b ≡ true → coded (escape_value b) ≡ 92 ∷ b ∷ []
escape-coded b e = escape-cases (λ x. coded (escape_value x) ≡ 92 ∷ x ∷ []) b e refl refl refl refl

escape-writable : (b : ℕ) → is_escape b ≡ true → is_writable (escape_value b) ≡ true
escape-writable b e = escape-cases (λ x. is_writable (escape_value x) ≡ true) b e refl refl refl refl

escape-printable : (b : ℕ) → is_escape b ≡ true → is_printable b ≡ true
escape-printable b e = escape-cases (λ x. is_printable x ≡ true) b e refl refl refl refl

after_quote : (place b : ℕ) (bs : List ℕ) (end : ℕ) → (b == 34) ≡ true → place + 1 ≡ end → Spells place (b ∷ bs) end
after_quote place b bs end quote is = record { n = 0; ends = omega arith; quote = quote; again = refl; writable = refl; printable = refl }

after_backslash : (place b : ℕ) (bs : List ℕ) (end : ℕ) → (b == 92) ≡ true → SpellsEscape (place + 1) bs end → Spells place (b ∷ bs) end
after_backslash place b bs end slash h =
    let rest = take (suc h.n) bs in
    let opened : unescaped false (b ∷ rest) ≡ unescaped true rest = cond-true (b == 92) (unescaped true rest) (b ∷ unescaped false rest) slash in
    let same = eqb-true b 92 slash in
    let P : ℕ → Type 0 = λ x. list_all is_printable (x ∷ rest) ≡ true in
    record {
      n = suc (suc h.n);
      ends = omega (arith, h.ends);
      quote = h.quote;
      again = ap (flat_map coded) opened ∙ h.again ∙ ap (λ x. x ∷ rest) (sym same);
      writable = ap (list_all is_writable) opened ∙ h.writable;
      printable = subst P (sym same) h.printable;
    }

after_plain : (place b : ℕ) (bs : List ℕ) (end : ℕ) → (b == 92) ≡ false → is_plain b ≡ true → Spells (place + 1) bs end → Spells place (b ∷ bs) end
after_plain place b bs end slash plain h =
    let rest = take h.n bs in
    let opened : unescaped false (b ∷ rest) ≡ b ∷ unescaped false rest = cond-false (b == 92) (unescaped true rest) (b ∷ unescaped false rest) slash in
    record {
      n = suc h.n;
      ends = omega (arith, h.ends);
      quote = h.quote;
      again = ap (flat_map coded) opened ∙ ap (λ front. front ++ flat_map coded (unescaped false rest)) (plain-coded b plain) ∙ ap (λ l. b ∷ l) h.again;
      writable = ap (list_all is_writable) opened ∙ and_from (is_writable b) (list_all is_writable (unescaped false rest)) (plain-writable b plain) h.writable;
      printable = and_from (is_printable b) (list_all is_printable rest) (plain-printable b plain) h.printable;
    }

after_escape : (place b : ℕ) (bs : List ℕ) (end : ℕ) → is_escape b ≡ true → Spells (place + 1) bs end → SpellsEscape place (b ∷ bs) end
after_escape place b bs end escape h =
    let rest = take h.n bs in
    record {
      n = h.n;
      ends = omega (arith, h.ends);
      quote = h.quote;
      again = ap (λ front. front ++ flat_map coded (unescaped false rest)) (escape-coded b escape) ∙ ap (λ l. 92 ∷ b ∷ l) h.again;
      writable = and_from (is_writable (escape_value b)) (list_all is_writable (unescaped false rest)) (escape-writable b escape) h.writable;
      printable = and_from (is_printable b) (list_all is_printable rest) (escape-printable b escape) h.printable;
    }

abbrev SpellsAfter : Bool → ℕ → List ℕ → ℕ → Type 0
SpellsAfter false place bytes end = Spells place bytes end
SpellsAfter true place bytes end = SpellsEscape place bytes end

format_end-after : (escaped : Bool) (place : ℕ) (bytes : List ℕ) (end : ℕ) → format_end escaped place bytes ≡ Ok end → SpellsAfter escaped place bytes end
format_end-after false place [] end e = absurd (err_not_ok _ end e)
format_end-after true place [] end e = absurd (err_not_ok _ end e)
format_end-after true place (b ∷ bs) end e =
    let on = format_end-after false (place + 1) bs end in
    ⊎_elim
    (λ here. after_escape place b bs end here (on (sym (cond-true (is_escape b) _ _ here) ∙ e)))
    (λ not_here. absurd (err_not_ok _ end (sym (cond-false (is_escape b) (format_end false (place + 1) bs) _ not_here) ∙ e)))
    (cases_Bool (is_escape b))
format_end-after false place (b ∷ bs) end e =
    let on = format_end-after false (place + 1) bs end in
    let escape_on = format_end-after true (place + 1) bs end in
    ⊎_elim
    (λ quote. after_quote place b bs end quote (ok_same _ end (sym (cond-true (b == 34) _ _ quote) ∙ e)))
    (λ no_quote.
    let e' = sym (cond-false (b == 34) (Ok (place + 1)) _ no_quote) ∙ e in
    ⊎_elim
    (λ slash. after_backslash place b bs end slash (escape_on (sym (cond-true (b == 92) _ _ slash) ∙ e')))
    (λ no_slash.
    let e'' = sym (cond-false (b == 92) (format_end true (place + 1) bs) _ no_slash) ∙ e' in
    ⊎_elim
    (λ plain. after_plain place b bs end no_slash plain (on (sym (cond-true (is_plain b) _ _ plain) ∙ e'')))
    (λ odd. absurd (err_not_ok _ end (sym (cond-false (is_plain b) (format_end false (place + 1) bs) _ odd) ∙ e'')))
    (cases_Bool (is_plain b)))
    (cases_Bool (b == 92)))
    (cases_Bool (b == 34))

-- ---- the bytes of a format

take-quote : (n : ℕ) (bs : List ℕ) → begins_with (λ b. b == 34) (drop n bs) ≡ true → take (suc n) bs ≡ take n bs ++ 34 ∷ []
take-quote zero [] e = absurd (false≢true e)
take-quote zero (b ∷ bs) e = ap (λ x. x ∷ []) (eqb-true b 34 e)
take-quote (suc n) [] e = absurd (false≢true e)
take-quote (suc n) (b ∷ bs) e = ap (λ l. b ∷ l) (take-quote n bs e)

between : (inner : List ℕ) → between_quotes (34 ∷ (inner ++ 34 ∷ [])) ≡ inner
between inner =
    let size : length inner ≡ length (34 ∷ (inner ++ 34 ∷ [])) - 2 = omega (arith, length-append inner (34 ∷ [])) in
    take_at inner (34 ∷ []) (length (34 ∷ (inner ++ 34 ∷ [])) - 2) size

format-of : (bytes inner : List ℕ) → bytes ≡ 34 ∷ (inner ++ 34 ∷ []) → list_all is_writable (unescaped false inner) ≡ true → written (unescaped false inner) ≡ inner → list_all is_printable inner ≡ true → IsFormat bytes
format-of bytes inner whole writable again printable =
    let middle : between_quotes bytes ≡ inner = ap between_quotes whole ∙ between inner in
    record {
      writable = ap (λ l. list_all is_writable (unescaped false l)) middle ∙ writable;
      again = ap (λ l. quoted_text (unescaped false l)) middle ∙ ap (λ l. 34 ∷ (l ++ 34 ∷ [])) again ∙ sym whole;
      printable = ap (list_all is_printable) middle ∙ printable;
    }

whole-format : (b : ℕ) (bs : List ℕ) (end : ℕ) → (b == 34) ≡ true → (h : Spells 1 bs end) → take end (b ∷ bs) ≡ 34 ∷ (take h.n bs ++ 34 ∷ [])
whole-format b bs end quote h =
    let size : end ≡ suc (suc h.n) = omega (arith, h.ends) in
    ap (λ n. take n (b ∷ bs)) size ∙ ap (λ x. x ∷ take (suc h.n) bs) (eqb-true b 34 quote) ∙ ap (λ l. 34 ∷ l) (take-quote h.n bs h.quote)

-- the bytes of a format behind its first quote
pub format_end-format : (b : ℕ) (bs : List ℕ) (end : ℕ) → (b == 34) ≡ true → format_end false 1 bs ≡ Ok end → IsFormat (take end (b ∷ bs))
format_end-format b bs end quote e =
    let h : Spells 1 bs end = format_end-after false 1 bs end e in
    format-of (take end (b ∷ bs)) (take h.n bs) (whole-format b bs end quote h) h.writable h.again h.printable

printable-on-line : (b : ℕ) → is_printable b ≡ true → is_not_newline b ≡ true
printable-on-line b e = grind (arith, nat_tests)

all-on-line : (bytes : List ℕ) → list_all is_printable bytes ≡ true → list_all is_not_newline bytes ≡ true
all-on-line [] e = refl
all-on-line (b ∷ bs) e =
    let parts = and_parts (is_printable b) (list_all is_printable bs) e in
    and_from (is_not_newline b) (list_all is_not_newline bs) (printable-on-line b parts.0) (all-on-line bs parts.1)

-- it stands on one line
pub format_end-line : (b : ℕ) (bs : List ℕ) (end : ℕ) → (b == 34) ≡ true → format_end false 1 bs ≡ Ok end → list_all is_not_newline (take end (b ∷ bs)) ≡ true
format_end-line b bs end quote e =
    let h : Spells 1 bs end = format_end-after false 1 bs end e in
    let inner = take h.n bs in
    ap (list_all is_not_newline) (whole-format b bs end quote h)
    ∙ list_all-append is_not_newline inner (34 ∷ [])
    ∙ and_from (list_all is_not_newline inner) true (all-on-line inner h.printable) refl

-- ---- back from what is written

writable-cases : (P : ℕ → Type 0) (c : ℕ) → is_writable c ≡ true → (is_plain c ≡ true → P c) → P 10 → P 9 → P 92 → P 34 → P c
writable-cases P c e at_plain at_newline at_tab at_backslash at_quote = ⊎_elim
    at_plain
    (λ four. ⊎_elim
    (λ two. ⊎_elim
    (λ one. subst P (sym (eqb-true c 10 one)) at_newline)
    (λ one. subst P (sym (eqb-true c 9 one)) at_tab)
    (or_cases (c == 10) (c == 9) two))
    (λ two. ⊎_elim
    (λ one. subst P (sym (eqb-true c 92 one)) at_backslash)
    (λ one. subst P (sym (eqb-true c 34 one)) at_quote)
    (or_cases (c == 92) (c == 34) two))
    (or_cases ((c == 10) || (c == 9)) ((c == 92) || (c == 34)) four))
    (or_cases (is_plain c) (((c == 10) || (c == 9)) || ((c == 92) || (c == 34))) e)

plain-no-quote : (c : ℕ) → is_plain c ≡ true → (c == 34) ≡ false
plain-no-quote c e = grind (arith, nat_tests)

plain-no-backslash : (c : ℕ) → is_plain c ≡ true → (c == 92) ≡ false
plain-no-backslash c e = grind (arith, nat_tests)

-- one byte of the text, as it is written, is read as that byte
record ReadsByte (c : ℕ) : Type 0 where
  ends : (place : ℕ) (bytes : List ℕ) → format_end false place (coded c ++ bytes) ≡ format_end false (place + length (coded c)) bytes
  text : (bytes : List ℕ) → unescaped false (coded c ++ bytes) ≡ c ∷ unescaped false bytes

two-on : (place : ℕ) (bytes : List ℕ) → format_end false (place + 1 + 1) bytes ≡ format_end false (place + 2) bytes
two-on place bytes = let same : place + 1 + 1 ≡ place + 2 = omega arith in ap (λ n. format_end false n bytes) same

reads-plain : (c : ℕ) → is_plain c ≡ true → ReadsByte c
reads-plain c plain =
    let as_is = plain-coded c plain in
    record {
      ends = λ place bytes.
          ap (λ l. format_end false place (l ++ bytes)) as_is
          ∙ cond-false (c == 34) _ _ (plain-no-quote c plain)
          ∙ cond-false (c == 92) _ _ (plain-no-backslash c plain)
          ∙ cond-true (is_plain c) _ _ plain
          ∙ ap (λ l. format_end false (place + length l) bytes) (sym as_is);
      text = λ bytes. ap (λ l. unescaped false (l ++ bytes)) as_is ∙ cond-false (c == 92) _ _ (plain-no-backslash c plain);
    }

reads-byte : (c : ℕ) → is_writable c ≡ true → ReadsByte c
reads-byte c e = writable-cases ReadsByte c e (reads-plain c)
    (record { ends = two-on; text = λ bytes. refl })
    (record { ends = two-on; text = λ bytes. refl })
    (record { ends = two-on; text = λ bytes. refl })
    (record { ends = two-on; text = λ bytes. refl })

-- the text, as it is written, is read as that text
reads-ends : (text : List ℕ) → list_all is_writable text ≡ true → (place : ℕ) (bytes : List ℕ) → format_end false place (written text ++ bytes) ≡ format_end false (place + length (written text)) bytes
reads-ends [] e place bytes = let same : place ≡ place + 0 = omega arith in ap (λ n. format_end false n bytes) same
reads-ends (c ∷ cs) e place bytes =
    let parts = and_parts (is_writable c) (list_all is_writable cs) e in
    let same : place + length (coded c) + length (written cs) ≡ place + length (written (c ∷ cs)) = omega (arith, length-append (coded c) (written cs)) in
    ap (format_end false place) (append_assoc (coded c) (written cs) bytes)
    ∙ (reads-byte c parts.0).ends place (written cs ++ bytes)
    ∙ reads-ends cs parts.1 (place + length (coded c)) bytes
    ∙ ap (λ n. format_end false n bytes) same

reads-text : (text : List ℕ) → list_all is_writable text ≡ true → unescaped false (written text) ≡ text
reads-text [] e = refl
reads-text (c ∷ cs) e =
    let parts = and_parts (is_writable c) (list_all is_writable cs) e in
    (reads-byte c parts.0).text (written cs) ∙ ap (λ l. c ∷ l) (reads-text cs parts.1)

pub text-read-back : (text : List ℕ) → list_all is_writable text ≡ true → format_text (quoted_text text) ≡ text
text-read-back text e = ap (unescaped false) (between (written text)) ∙ reads-text text e

pub format_end-read-back : (text behind : List ℕ) → list_all is_writable text ≡ true → format_end false 1 (written text ++ 34 ∷ behind) ≡ Ok (length (quoted_text text))
format_end-read-back text behind e =
    let size : 1 + length (written text) + 1 ≡ length (quoted_text text) = omega (arith, length-append (written text) (34 ∷ [])) in
    reads-ends text e 1 (34 ∷ behind) ∙ ap (λ n. Ok n) size
