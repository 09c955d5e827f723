-- Names, numbers and marks that are found are the longest of their kind at their place.
use Rattle.std.proofs.Common.{◌≡◌, ℕ, zero, suc, ◌+◌, ◌<◌, ◌≤◌, refl, sym, ap, ◌∙◌, subst, arith, Bool, true, false, cond, List, [], ◌∷◌, ◌++◌, take, drop, length, get_or, length-take-le, Option, Some, None, ⊎_elim}
use Rattle.std.specs.Prelude.{◌==◌, ◌||◌, ◌&&◌, not, nat_eq, codes, find, slice_get, All}
use Rattle.std.specs.List.{list_all, list_any, prefix_len, starts_with}
use Rattle.std.specs.Str.{bytes_eq}
use Rattle.std.specs.Char.{is_ascii_digit, is_ascii_hexdigit}
use Rattle.std.proofs.lemmas.Bool.{cases_Bool, or_cases, and_parts, and_from, and_right, or_left, or_right, eqb-true, false≢true, both_ways, false_from_ne_true, not_from_false, cond_both}
use Rattle.std.proofs.lemmas.Bool.Decides.{nat_tests}
use Rattle.std.proofs.lemmas.List.{get_or-take, take-append-drop, drop_more}
use Rattle.std.proofs.lemmas.List.Elements.{All-from_get_or}
use Rattle.std.proofs.lemmas.List.Folds.{length-prefix_len, list_all-append, list_all_at, list_any_at}
use Rattle.std.proofs.lemmas.List.Sums.{prefix_len_passes, prefix_len_stops, prefix_len-le-length, list_all-from_AllPass, AllPass-from_list_all}
use Rattle.std.proofs.lemmas.Option.{slice_get_within, get_or_from_slice_get}
use Rattle.std.proofs.lemmas.Slice.Eq.{bytes_eq-Decides}
use Rattle.sc_tree.specs.Names.{Text}
use Rattle.sc_tree.specs.declared.token.Word.{Word}
use Rattle.sc_tree.specs.declared.token.Mark.{Mark}
use Rattle.sc_lexer.specs.Class.{is_blank, is_not_newline, is_name_start, is_name_byte, begins_with}
use Rattle.sc_lexer.specs.Spelling.{word_text, mark_text, words, marks, word_of, mark_of}
use Rattle.sc_lexer.specs.Number.{is_hex, numeral_size}
use Rattle.sc_lexer.specs.Longest.{is_name, is_decimal, is_hexadecimal, is_number, is_mark, IsLongest}
use Rattle.sc_lexer.proofs.ElementLaws.{find-passes, begins-name, prefix-positive}
use Rattle.sc_lexer.proofs.LongestLaws.{longest-mark, place-of, is-placed}

-- ---- fronts

pub begins-take : (c : ℕ → Bool) (bytes : List ℕ) (k : ℕ) → 0 < k → begins_with c (take k bytes) ≡ begins_with c bytes
begins-take c bytes zero h = absurd (omega arith)
begins-take c [] (suc k) h = refl
begins-take c (b ∷ bs) (suc k) h = refl

pub all-prefix : (p : ℕ → Bool) (bytes : List ℕ) → list_all p (take (prefix_len p bytes) bytes) ≡ true
all-prefix p bytes =
    let size = length-prefix_len p bytes in
    list_all-from_AllPass p (take (prefix_len p bytes) bytes) (All-from_get_or (λ b. p b ≡ true) (take (prefix_len p bytes) bytes) 0
    (λ i below.
    let within : i < prefix_len p bytes = omega arith in
    ap p (get_or-take (prefix_len p bytes) bytes i 0 within) ∙ prefix_len_passes p bytes i 0 within))

-- a front that goes past a byte that fails
all-past : (p : ℕ → Bool) (bytes : List ℕ) (size n : ℕ) → size < n → n ≤ length bytes → p (get_or bytes size 0) ≡ false → list_all p (take n bytes) ≡ false
all-past p bytes size n past within fails =
    let long : length (take n bytes) ≡ n = length-take-le n bytes within in
    let inside : size < length (take n bytes) = omega arith in
    list_all_at p (take n bytes) size 0 inside (ap p (get_or-take n bytes size 0 past) ∙ fails)

-- ---- names

pub name-longest : (bytes : List ℕ) → begins_with is_name_start bytes ≡ true → IsLongest is_name bytes (prefix_len is_name_byte bytes)
name-longest bytes begins =
    let size = prefix_len is_name_byte bytes in
    let positive : 0 < size = prefix-positive is_name_byte bytes (begins-name bytes begins) in
    record {
      fits = and_from (begins_with is_name_start (take size bytes)) (list_all is_name_byte (take size bytes)) (begins-take is_name_start bytes size positive ∙ begins) (all-prefix is_name_byte bytes);
      no_longer = λ n past within.
          let inside : size < length bytes = omega arith in
          and_right (begins_with is_name_start (take n bytes)) (list_all is_name_byte (take n bytes)) (all-past is_name_byte bytes size n past within (prefix_len_stops is_name_byte bytes 0 inside));
    }

-- ---- numbers

pub all-weaker : (p q : ℕ → Bool) → ((b : ℕ) → p b ≡ true → q b ≡ true) → (bytes : List ℕ) → list_all p bytes ≡ true → list_all q bytes ≡ true
all-weaker p q weaker [] e = refl
all-weaker p q weaker (b ∷ bs) e =
    let parts = and_parts (p b) (list_all p bs) e in
    and_from (q b) (list_all q bs) (weaker b parts.0) (all-weaker p q weaker bs parts.1)

digit-in-name : (b : ℕ) → is_ascii_digit b ≡ true → is_name_byte b ≡ true
digit-in-name b e = grind (arith, nat_tests)

hexdigit-in-name : (b : ℕ) → is_ascii_hexdigit b ≡ true → is_name_byte b ≡ true
hexdigit-in-name b e = grind (arith, nat_tests)

hex-bytes : (bytes front : List ℕ) → list_all is_name_byte front ≡ true → take 2 bytes ≡ front → list_all is_ascii_hexdigit (drop 2 bytes) ≡ true → list_all is_name_byte bytes ≡ true
hex-bytes bytes front named e digits =
    ap (list_all is_name_byte) (sym (take-append-drop 2 bytes))
    ∙ list_all-append is_name_byte (take 2 bytes) (drop 2 bytes)
    ∙ and_from (list_all is_name_byte (take 2 bytes)) (list_all is_name_byte (drop 2 bytes)) (ap (list_all is_name_byte) e ∙ named) (all-weaker is_ascii_hexdigit is_name_byte hexdigit-in-name (drop 2 bytes) digits)

hexadecimal-bytes : (bytes : List ℕ) → is_hexadecimal bytes ≡ true → list_all is_name_byte bytes ≡ true
hexadecimal-bytes bytes e =
    let parts = and_parts (bytes_eq (take 2 bytes) (codes "0x") || bytes_eq (take 2 bytes) (codes "0X")) (begins_with is_ascii_hexdigit (drop 2 bytes) && list_all is_ascii_hexdigit (drop 2 bytes)) e in
    let digits = (and_parts (begins_with is_ascii_hexdigit (drop 2 bytes)) (list_all is_ascii_hexdigit (drop 2 bytes)) parts.1).1 in
    ⊎_elim
    (λ small. hex-bytes bytes (codes "0x") refl ((bytes_eq-Decides (take 2 bytes) (codes "0x")).0 small) digits)
    (λ large. hex-bytes bytes (codes "0X") refl ((bytes_eq-Decides (take 2 bytes) (codes "0X")).0 large) digits)
    (or_cases (bytes_eq (take 2 bytes) (codes "0x")) (bytes_eq (take 2 bytes) (codes "0X")) parts.0)

decimal-bytes : (bytes : List ℕ) → is_decimal bytes ≡ true → list_all is_name_byte bytes ≡ true
decimal-bytes bytes e = all-weaker is_ascii_digit is_name_byte digit-in-name bytes (and_parts (begins_with is_ascii_digit bytes && not (begins_with (λ b. b == 48) bytes)) (list_all is_ascii_digit bytes) e).1

-- each byte of a number may stand in a name
number-bytes : (bytes : List ℕ) → is_number bytes ≡ true → list_all is_name_byte bytes ≡ true
number-bytes bytes e = ⊎_elim
    (λ two. ⊎_elim
    (λ nought. ap (list_all is_name_byte) ((bytes_eq-Decides bytes (codes "0")).0 nought))
    (λ decimal. decimal-bytes bytes decimal)
    (or_cases (bytes_eq bytes (codes "0")) (is_decimal bytes) two))
    (λ hexadecimal. hexadecimal-bytes bytes hexadecimal)
    (or_cases (bytes_eq bytes (codes "0") || is_decimal bytes) (is_hexadecimal bytes) e)

nought-front : (bytes : List ℕ) → starts_with nat_eq bytes (codes "0") ≡ true → bytes_eq (take 1 bytes) (codes "0") ≡ true
nought-front [] e = absurd (false≢true e)
nought-front (b ∷ bs) e =
    let same : 48 ≡ b = eqb-true 48 b (and_parts (48 == b) true e).0 in
    let P : ℕ → Type 0 = λ x. bytes_eq (x ∷ []) (codes "0") ≡ true in
    subst P same refl

no-nought : (bytes : List ℕ) → starts_with nat_eq bytes (codes "0") ≡ false → begins_with (λ b. b == 48) bytes ≡ false
no-nought [] e = refl
no-nought (b ∷ bs) e = false_from_ne_true (b == 48) (λ is.
    let same : b ≡ 48 = eqb-true b 48 is in
    let P : ℕ → Type 0 = λ x. starts_with nat_eq (x ∷ bs) (codes "0") ≡ false in
    false≢true (sym (subst P same e)))

decimal-front : (bytes : List ℕ) → begins_with is_ascii_digit bytes ≡ true → starts_with nat_eq bytes (codes "0") ≡ false → is_decimal (take (prefix_len is_ascii_digit bytes) bytes) ≡ true
decimal-front bytes digit no_zero =
    let size = prefix_len is_ascii_digit bytes in
    let positive : 0 < size = prefix-positive is_ascii_digit bytes digit in
    let front = take size bytes in
    and_from (begins_with is_ascii_digit front && not (begins_with (λ b. b == 48) front)) (list_all is_ascii_digit front)
    (and_from (begins_with is_ascii_digit front) (not (begins_with (λ b. b == 48) front))
    (begins-take is_ascii_digit bytes size positive ∙ digit)
    (ap not (begins-take (λ b. b == 48) bytes size positive ∙ no-nought bytes no_zero)))
    (all-prefix is_ascii_digit bytes)

hex-mark : (m : ℕ) → ((m == 120) || (m == 88)) ≡ true → (bytes_eq (48 ∷ m ∷ []) (codes "0x") || bytes_eq (48 ∷ m ∷ []) (codes "0X")) ≡ true
hex-mark m e =
    let P : ℕ → Type 0 = λ x. (bytes_eq (48 ∷ x ∷ []) (codes "0x") || bytes_eq (48 ∷ x ∷ []) (codes "0X")) ≡ true in
    ⊎_elim
    (λ small. subst P (sym (eqb-true m 120 small)) refl)
    (λ large. subst P (sym (eqb-true m 88 large)) refl)
    (or_cases (m == 120) (m == 88) e)

hex-front : (bytes : List ℕ) → is_hex bytes ≡ true → is_hexadecimal (take (2 + prefix_len is_ascii_hexdigit (drop 2 bytes)) bytes) ≡ true
hex-front [] e = absurd (false≢true e)
hex-front (z ∷ []) e = absurd (false≢true e)
hex-front (z ∷ m ∷ []) e = absurd (false≢true e)
hex-front (z ∷ m ∷ d ∷ ds) e =
    let parts = and_parts ((z == 48) && ((m == 120) || (m == 88))) (is_ascii_hexdigit d) e in
    let opened = and_parts (z == 48) ((m == 120) || (m == 88)) parts.0 in
    let k = prefix_len is_ascii_hexdigit (d ∷ ds) in
    let positive : 0 < k = prefix-positive is_ascii_hexdigit (d ∷ ds) parts.1 in
    let size : 2 + k ≡ suc (suc k) = omega arith in
    let digits = take k (d ∷ ds) in
    let P : ℕ → Type 0 = λ x. (bytes_eq (x ∷ m ∷ []) (codes "0x") || bytes_eq (x ∷ m ∷ []) (codes "0X")) ≡ true in
    ap (λ n. is_hexadecimal (take n (z ∷ m ∷ d ∷ ds))) size
    ∙ and_from (bytes_eq (z ∷ m ∷ []) (codes "0x") || bytes_eq (z ∷ m ∷ []) (codes "0X")) (begins_with is_ascii_hexdigit digits && list_all is_ascii_hexdigit digits)
    (subst P (sym (eqb-true z 48 opened.0)) (hex-mark m opened.1))
    (and_from (begins_with is_ascii_hexdigit digits) (list_all is_ascii_hexdigit digits) (begins-take is_ascii_hexdigit (d ∷ ds) k positive ∙ parts.1) (all-prefix is_ascii_hexdigit (d ∷ ds)))

number-fits : (bytes : List ℕ) → begins_with is_ascii_digit bytes ≡ true → is_number (take (numeral_size bytes) bytes) ≡ true
number-fits bytes digit =
    let P : ℕ → Type 0 = λ n. is_number (take n bytes) ≡ true in
    cond_both (is_hex bytes) _ _ P
    (λ hex. let front = take (2 + prefix_len is_ascii_hexdigit (drop 2 bytes)) bytes in or_right (bytes_eq front (codes "0") || is_decimal front) (is_hexadecimal front) (hex-front bytes hex))
    (λ _. cond_both (starts_with nat_eq bytes (codes "0")) _ _ P
    (λ nought. let front = take 1 bytes in or_left (bytes_eq front (codes "0") || is_decimal front) (is_hexadecimal front) (or_left (bytes_eq front (codes "0")) (is_decimal front) (nought-front bytes nought)))
    (λ no_zero. let front = take (prefix_len is_ascii_digit bytes) bytes in or_left (bytes_eq front (codes "0") || is_decimal front) (is_hexadecimal front) (or_right (bytes_eq front (codes "0")) (is_decimal front) (decimal-front bytes digit no_zero))))

pub begins-at : (c : ℕ → Bool) (bytes : List ℕ) (i : ℕ) → i < length bytes → begins_with c (drop i bytes) ≡ c (get_or bytes i 0)
begins-at c bytes i h = ap (begins_with c) (drop_more bytes i 0 h)

-- each byte of the number at the front may stand in a name
pub number-front : (bytes : List ℕ) → begins_with is_ascii_digit bytes ≡ true → list_all is_name_byte (take (numeral_size bytes) bytes) ≡ true
number-front bytes digit = number-bytes (take (numeral_size bytes) bytes) (number-fits bytes digit)

pub number-longest : (bytes : List ℕ) → begins_with is_ascii_digit bytes ≡ true → begins_with is_name_byte (drop (numeral_size bytes) bytes) ≡ false → IsLongest is_number bytes (numeral_size bytes)
number-longest bytes digit stops = record {
  fits = number-fits bytes digit;
  no_longer = λ n past within.
      let size = numeral_size bytes in
      let inside : size < length bytes = omega arith in
      let next : is_name_byte (get_or bytes size 0) ≡ false = sym (begins-at is_name_byte bytes size inside) ∙ stops in
      false_from_ne_true (is_number (take n bytes)) (λ is. both_ways (list_all is_name_byte (take n bytes)) (all-past is_name_byte bytes size n past within next) (number-bytes (take n bytes) is));
}

-- ---- marks

any-mark : (p : Mark → Bool) (ms : List Mark) → list_any p ms ≡ true → (m : Mark) × (p m ≡ true)
any-mark p [] e = absurd (false≢true e)
any-mark p (m ∷ ms) e = ⊎_elim (λ here. (m, here)) (λ later. any-mark p ms later) (or_cases (p m) (list_any p ms) e)

one-mark : (bytes : List ℕ) (m : Mark) → bytes ≡ mark_text m → is_mark bytes ≡ true
unfolding is_mark
one-mark bytes m e =
    let at = is-placed m in
    let p : Mark → Bool = λ x. bytes_eq bytes (mark_text x) in
    list_any_at p marks (place-of m) m (slice_get_within marks (place-of m) m at)
    (ap p (get_or_from_slice_get marks (place-of m) m m at) ∙ (bytes_eq-Decides bytes (mark_text m)).1 e)

some-mark : (bytes : List ℕ) → is_mark bytes ≡ true → (m : Mark) × (bytes ≡ mark_text m)
unfolding is_mark
some-mark bytes e =
    let found = any-mark (λ m. bytes_eq bytes (mark_text m)) marks e in
    (found.0, (bytes_eq-Decides bytes (mark_text found.0)).0 found.1)

front-begins : (bytes text : List ℕ) → take (length text) bytes ≡ text → starts_with nat_eq bytes text ≡ true
front-begins bytes text e = (bytes_eq-Decides text (take (length text) bytes)).1 (sym e)

begins-front : (bytes text : List ℕ) → starts_with nat_eq bytes text ≡ true → take (length text) bytes ≡ text
begins-front bytes text e = sym ((bytes_eq-Decides text (take (length text) bytes)).0 e)

pub mark-front : (bytes : List ℕ) (m : Mark) → mark_of bytes ≡ Some m → take (length (mark_text m)) bytes ≡ mark_text m
unfolding mark_of
mark-front bytes m found = begins-front bytes (mark_text m) (find-passes (λ x. starts_with nat_eq bytes (mark_text x)) marks m found)

pub mark-longest : (bytes : List ℕ) (m : Mark) → mark_of bytes ≡ Some m → IsLongest is_mark bytes (length (mark_text m))
mark-longest bytes m found = record {
  fits = one-mark (take (length (mark_text m)) bytes) m (mark-front bytes m found);
  no_longer = λ n past within. false_from_ne_true (is_mark (take n bytes)) (λ is.
      let other = some-mark (take n bytes) is in
      let size : length (mark_text other.0) ≡ n = ap length (sym other.1) ∙ length-take-le n bytes within in
      let front : take (length (mark_text other.0)) bytes ≡ mark_text other.0 = ap (λ k. take k bytes) size ∙ other.1 in
      let shorter = longest-mark bytes m other.0 found (front-begins bytes (mark_text other.0) front) in
      omega arith);
}

-- what holds of every mark
each-mark : (p : Mark → Bool) → list_all p marks ≡ true → (m : Mark) → p m ≡ true
each-mark p all m =
    let is = is-placed m in
    ap p (sym (get_or_from_slice_get marks (place-of m) m m is)) ∙ AllPass-from_list_all p marks all (place-of m) m (slice_get_within marks (place-of m) m is)

pub mark-on-line : (m : Mark) → list_all is_not_newline (mark_text m) ≡ true
mark-on-line m = each-mark (λ x. list_all is_not_newline (mark_text x)) refl m

pub mark-no-blank : (m : Mark) → not (begins_with is_blank (mark_text m)) ≡ true
mark-no-blank m = each-mark (λ x. not (begins_with is_blank (mark_text x))) refl m

-- ---- words

pub word-front : (name : Text) (w : Word) → word_of name ≡ Some w → name ≡ word_text w
unfolding word_of
word-front name w found = (bytes_eq-Decides name (word_text w)).0 (find-passes (λ x. bytes_eq name (word_text x)) words w found)
