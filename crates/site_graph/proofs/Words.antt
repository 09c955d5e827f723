-- What is set in rows of words, and what stays set when words change.
use Rattle.std.proofs.Common.{◌≡◌, ◌⊎◌, ℕ, zero, suc, ◌+◌, ◌-◌, ◌*◌, ◌/◌, ◌%◌, ◌^◌, ◌<◌, ◌≤◌, List, [], ◌∷◌, Bool, true, false, map, length, get_or, eqb, min, max, bit_and, not, zero-mul, refl, sym, ap, ◌∙◌, subst, inl, inr, ⊎_elim, arith, bit_or}
use Rattle.std.specs.List.{Contains, filter, flat_map, range_with_len}
use Rattle.std.specs.Int.{bit_at}
use Rattle.std.proofs.lemmas.Bool.{eqb-true, eq-eqb, false_from_ne_true, both_ways, cases_eq, cases_lt, ne_eqb}
use Rattle.std.proofs.lemmas.Nat.{same_from_place, or_lt, one_shl, pow_pos}
use Rattle.std.proofs.lemmas.Nat.Bits.{bit_at_or, bit_at_and, bit_at-lt, bit_at-pow_same, bit_at-pow_other, bit_at-zero, and_pow, same_from_bits_below}
use Rattle.site_graph.specs.declared.bit_rows.BitRows.TheInside.{Inside}
use Rattle.site_graph.specs.Bits.{IsSet, no_bits, IsWith, IsJoined, IsWithCommon, Gains}
use Rattle.site_graph.specs.BitWords.{words_a_row, bit_of, is_set, set_in_row, bits_of, AreRows, AreAdded, Adds}
use Rattle.site_graph.proofs.Members.{in_first, in_later, from_range, to_range, from_filter, to_filter, from_map, to_map, from_flat_map, to_flat_map}

-- ---- the set pairs are those whose bit is set

pub from_bits : (i : Inside) (r c : ℕ) → IsSet (bits_of i) r c → (r < i.rows) × (c < i.columns) × (is_set i r c ≡ true)
from_bits i r c s =
    let row = from_flat_map (set_in_row i) (range_with_len 0 i.rows) (r, c) s in
    let column = from_map (λ (d : ℕ). (row.0, d)) (filter (is_set i row.0) (range_with_len 0 i.columns)) (r, c) row.2 in
    let bit = from_filter (is_set i row.0) (range_with_len 0 i.columns) column.0 column.1 in
    let same_row : row.0 ≡ r = ap (λ (p : ℕ × ℕ). p.0) column.2 in
    let same_column : column.0 ≡ c = ap (λ (p : ℕ × ℕ). p.1) column.2 in
    let h = from_range 0 i.rows row.0 row.1 in
    let k = from_range 0 i.columns column.0 bit.0 in (
      omega (arith, h.1, same_row),
      omega (arith, k.1, same_column),
      subst (λ w. is_set i w c ≡ true) same_row (subst (λ w. is_set i row.0 w ≡ true) same_column bit.1),
    )

pub to_bits : (i : Inside) (r c : ℕ) → r < i.rows → c < i.columns → is_set i r c ≡ true → IsSet (bits_of i) r c
to_bits i r c h k s =
    to_flat_map (set_in_row i) (range_with_len 0 i.rows) r (r, c) (to_range 0 i.rows r (omega arith) (omega arith))
    (to_map (λ (d : ℕ). (r, d)) (filter (is_set i r) (range_with_len 0 i.columns)) c
    (to_filter (is_set i r) (range_with_len 0 i.columns) c (to_range 0 i.columns c (omega arith) (omega arith)) s))

-- ---- bits of words

pub bit_of-or : (a b n : ℕ) → bit_of (bit_or a b) n ≡ true → (bit_of a n ≡ true) ⊎ (bit_of b n ≡ true)
bit_of-or a b n h =
    let e : max (bit_at a n) (bit_at b n) ≡ 1 = sym (bit_at_or a b n) ∙ eqb-true _ _ h in
    ⊎_elim (λ p. inl (eq-eqb _ _ p)) (λ p. inr (eq-eqb _ _ p)) (one_of (bit_at a n) (bit_at b n) e)
  where
    one_of : (x y : ℕ) → max x y ≡ 1 → (x ≡ 1) ⊎ (y ≡ 1)
    one_of x y e = grind arith

pub bit_of-or_left : (a b n : ℕ) → bit_of a n ≡ true → bit_of (bit_or a b) n ≡ true
bit_of-or_left a b n h =
    let p : bit_at a n ≡ 1 = eqb-true _ _ h in
    let q = bit_at-lt b n in
    let e : max (bit_at a n) (bit_at b n) ≡ 1 = omega arith in
    eq-eqb _ _ (bit_at_or a b n ∙ e)

pub bit_of-or_right : (a b n : ℕ) → bit_of b n ≡ true → bit_of (bit_or a b) n ≡ true
bit_of-or_right a b n h =
    let p : bit_at b n ≡ 1 = eqb-true _ _ h in
    let q = bit_at-lt a n in
    let e : max (bit_at a n) (bit_at b n) ≡ 1 = omega arith in
    eq-eqb _ _ (bit_at_or a b n ∙ e)

pub bit_of-and : (a b n : ℕ) → bit_of (bit_and a b) n ≡ true → (bit_of a n ≡ true) × (bit_of b n ≡ true)
bit_of-and a b n h =
    let e : min (bit_at a n) (bit_at b n) ≡ 1 = sym (bit_at_and a b n) ∙ eqb-true _ _ h in
    let p = bit_at-lt a n in
    let q = bit_at-lt b n in
    (eq-eqb _ _ (omega arith), eq-eqb _ _ (omega arith))

pub bit_of-and_both : (a b n : ℕ) → bit_of a n ≡ true → bit_of b n ≡ true → bit_of (bit_and a b) n ≡ true
bit_of-and_both a b n h k =
    let p : bit_at a n ≡ 1 = eqb-true _ _ h in
    let q : bit_at b n ≡ 1 = eqb-true _ _ k in
    let e : min (bit_at a n) (bit_at b n) ≡ 1 = omega arith in
    eq-eqb _ _ (bit_at_and a b n ∙ e)

pub bit_of-pow : (k n : ℕ) → bit_of (2 ^ k) n ≡ true → n ≡ k
bit_of-pow k n h =
    ⊎_elim (λ e. e) (λ d. let e = bit_at-pow_other k n d in absurd (omega (arith, e, eqb-true _ _ h))) (cases_eq n k)

pub bit_of-pow_same : (k : ℕ) → bit_of (2 ^ k) k ≡ true
bit_of-pow_same k = eq-eqb _ _ (bit_at-pow_same k)

-- ---- words to which bits are added

-- the set bits are the old ones and those that were added
pub record IsAdded (to width : ℕ) (more : ℕ → ℕ) (i j : Inside) : Type 0 where
  pub same_rows : j.rows ≡ i.rows
  pub same_columns : j.columns ≡ i.columns
  pub words : AreAdded to width more i.words.items j.words.items

abbrev pub place : Inside → (r c : ℕ) → ℕ
place i r c = r * words_a_row i.columns + c / 64

abbrev pub IsNew : (to width : ℕ) → (more : ℕ → ℕ) → Inside → (r c : ℕ) → Type 0
IsNew to width more i r c = (k : ℕ) × (k < width) × (to + k ≡ place i r c) × (bit_of (more k) (c % 64) ≡ true)

where_is : (to width p : ℕ) → ((p < to) ⊎ (to + width ≤ p)) ⊎ ((k : ℕ) × (k < width) × (to + k ≡ p))
where_is to width p =
    ⊎_elim (λ l. inl (inl l))
    (λ l. ⊎_elim (λ h. inr (p - to, omega arith, omega arith)) (λ h. inl (inr h)) (cases_lt p (to + width)))
    (cases_lt p to)

pub from_added : (to width : ℕ) (more : ℕ → ℕ) (i j : Inside) (r c : ℕ) → IsAdded to width more i j → is_set j r c ≡ true → (is_set i r c ≡ true) ⊎ IsNew to width more i r c
from_added to width more i j r c a h =
    let same = ap (λ n. r * words_a_row n + c / 64) a.same_columns in
    let bit : bit_of (get_or j.words.items (place i r c) 0) (c % 64) ≡ true = subst (λ p. bit_of (get_or j.words.items p 0) (c % 64) ≡ true) same h in
    ⊎_elim (λ out. inl (subst (λ w. bit_of w (c % 64) ≡ true) (a.words.outside (place i r c) out) bit))
    (λ in'. let e = subst (λ p. get_or j.words.items p 0 ≡ bit_or (get_or i.words.items p 0) (more in'.0)) in'.2 (a.words.inside in'.0 in'.1) in
    ⊎_elim inl (λ b. inr (in'.0, in'.1, in'.2, b))
    (bit_of-or (get_or i.words.items (place i r c) 0) (more in'.0) (c % 64) (subst (λ w. bit_of w (c % 64) ≡ true) e bit)))
    (where_is to width (place i r c))

pub to_added : (to width : ℕ) (more : ℕ → ℕ) (i j : Inside) (r c : ℕ) → IsAdded to width more i j → (is_set i r c ≡ true) ⊎ IsNew to width more i r c → is_set j r c ≡ true
to_added to width more i j r c a (inr new) =
    let same = ap (λ n. r * words_a_row n + c / 64) (sym a.same_columns) in
    let e = subst (λ p. get_or j.words.items p 0 ≡ bit_or (get_or i.words.items p 0) (more new.0)) new.2 (a.words.inside new.0 new.1) in
    let bit = bit_of-or_right (get_or i.words.items (place i r c) 0) (more new.0) (c % 64) new.3 in
    subst (λ p. bit_of (get_or j.words.items p 0) (c % 64) ≡ true) same (subst (λ w. bit_of w (c % 64) ≡ true) (sym e) bit)
to_added to width more i j r c a (inl old) =
    let same = ap (λ n. r * words_a_row n + c / 64) (sym a.same_columns) in
    subst (λ p. bit_of (get_or j.words.items p 0) (c % 64) ≡ true) same
    (⊎_elim (λ out. subst (λ w. bit_of w (c % 64) ≡ true) (sym (a.words.outside (place i r c) out)) old)
    (λ in'. let e = subst (λ p. get_or j.words.items p 0 ≡ bit_or (get_or i.words.items p 0) (more in'.0)) in'.2 (a.words.inside in'.0 in'.1) in
    subst (λ w. bit_of w (c % 64) ≡ true) (sym e) (bit_of-or_left (get_or i.words.items (place i r c) 0) (more in'.0) (c % 64) old))
    (where_is to width (place i r c)))

-- ---- what is kept of the old rows, and what is set in the new ones

within_row : (columns c : ℕ) → c < columns → c < 64 * words_a_row columns
within_row columns c h = omega arith

word_within : (c width : ℕ) → c < 64 * width → c / 64 < width
word_within c width h = omega arith

pub rows_added : (to width : ℕ) (more : ℕ → ℕ) (i j : Inside) → AreRows i → IsAdded to width more i j
    → ((r c : ℕ) → r < i.rows → i.columns ≤ c → c < 64 * words_a_row i.columns → IsNew to width more i r c → ⊥) → AreRows j
rows_added to width more i j kept a none = record {
  many = a.words.same_length ∙ (kept.many ∙ (ap (λ n. n * words_a_row i.columns) (sym a.same_rows) ∙ ap (λ n. j.rows * words_a_row n) (sym a.same_columns)));
  rest = λ r c h k l.
      let h' : r < i.rows = omega (arith, a.same_rows) in
      let k' : i.columns ≤ c = omega (arith, a.same_columns) in
      let l' = subst (λ n. c < 64 * words_a_row n) a.same_columns l in
      false_from_ne_true (is_set j r c) (λ t. ⊎_elim (λ s. both_ways (is_set i r c) (kept.rest r c h' k' l') s) (none r c h' k' l') (from_added to width more i j r c a t));
}

pub from_new_bits : (to width : ℕ) (more : ℕ → ℕ) (i j : Inside) (r c : ℕ) → IsAdded to width more i j → IsSet (bits_of j) r c
    → (r < i.rows) × (c < i.columns) × (IsSet (bits_of i) r c ⊎ IsNew to width more i r c)
from_new_bits to width more i j r c a s =
    let f = from_bits j r c s in
    let h : r < i.rows = omega (arith, f.0, a.same_rows) in
    let k : c < i.columns = omega (arith, f.1, a.same_columns) in
    (h, k, ⊎_elim (λ t. inl (to_bits i r c h k t)) inr (from_added to width more i j r c a f.2))

pub to_new_bits : (to width : ℕ) (more : ℕ → ℕ) (i j : Inside) (r c : ℕ) → IsAdded to width more i j → r < i.rows → c < i.columns
    → (is_set i r c ≡ true) ⊎ IsNew to width more i r c → IsSet (bits_of j) r c
to_new_bits to width more i j r c a h k s =
    to_bits j r c (omega (arith, a.same_rows)) (omega (arith, a.same_columns)) (to_added to width more i j r c a s)

-- ---- one pair is set

abbrev pub pair_added : (row column : ℕ) → (i j : Inside) → Type 0
pair_added row column i j = IsAdded (place i row column) 1 (λ (k : ℕ). 2 ^ (column % 64)) i j

new_pair : (row column : ℕ) (i : Inside) (r c : ℕ) → column < i.columns → c < 64 * words_a_row i.columns
    → IsNew (place i row column) 1 (λ (k : ℕ). 2 ^ (column % 64)) i r c → (r ≡ row) × (c ≡ column)
new_pair row column i r c h l n =
    let bit = bit_of-pow (column % 64) (c % 64) n.3 in
    let same = same_from_place row (column / 64) r (c / 64) (words_a_row i.columns) (word_within column (words_a_row i.columns) (within_row i.columns column h)) (word_within c (words_a_row i.columns) l) (omega (arith, n.1, n.2)) in
    (omega (arith, same.0), omega (arith, same.1, bit))

pub rows_with : (row column : ℕ) (i j : Inside) → AreRows i → column < i.columns → pair_added row column i j → AreRows j
rows_with row column i j kept h a =
    rows_added (place i row column) 1 (λ (k : ℕ). 2 ^ (column % 64)) i j kept a
    (λ r c p q l n. omega (arith, (new_pair row column i r c h l n).1))

pub bits_with : (row column : ℕ) (i j : Inside) → row < i.rows → column < i.columns → pair_added row column i j → IsWith row column (bits_of i) (bits_of j)
bits_with row column i j g h a = record {
  same_rows = a.same_rows;
  same_columns = a.same_columns;
  pairs = λ r c. (
    (λ s. let f = from_new_bits (place i row column) 1 (λ (k : ℕ). 2 ^ (column % 64)) i j r c a s in
        ⊎_elim inl (λ n. inr (new_pair row column i r c h (within_row i.columns c f.1) n)) f.2),
    (λ s. ⊎_elim (λ o. let f = from_bits i r c o in to_new_bits (place i row column) 1 (λ (k : ℕ). 2 ^ (column % 64)) i j r c a f.0 f.1 (inl f.2))
        (λ e. to_new_bits (place i row column) 1 (λ (k : ℕ). 2 ^ (column % 64)) i j r c a (omega (arith, e.0)) (omega (arith, e.1))
        (inr (0, omega arith, omega (arith, e.0, e.1, ap (λ n. n / 64) e.1, ap (λ n. n * words_a_row i.columns) e.0), subst (λ n. bit_of (2 ^ (column % 64)) (n % 64) ≡ true) (sym e.1) (bit_of-pow_same (column % 64)))))
        s),
  );
}

-- ---- a row is added

abbrev pub row_added : (row : ℕ) (more : ℕ → ℕ) (i j : Inside) → Type 0
row_added row more i j = IsAdded (row * words_a_row i.columns) (words_a_row i.columns) more i j

new_in_row : (row : ℕ) (more : ℕ → ℕ) (i : Inside) (r c : ℕ) → c < 64 * words_a_row i.columns
    → IsNew (row * words_a_row i.columns) (words_a_row i.columns) more i r c → (r ≡ row) × (bit_of (more (c / 64)) (c % 64) ≡ true)
new_in_row row more i r c l n =
    let same = same_from_place row n.0 r (c / 64) (words_a_row i.columns) n.1 (word_within c (words_a_row i.columns) l) n.2 in
    (sym same.0, subst (λ k. bit_of (more k) (c % 64) ≡ true) same.1 n.3)

pub rows_row : (row : ℕ) (more : ℕ → ℕ) (i j : Inside) → AreRows i → row_added row more i j
    → ((c : ℕ) → i.columns ≤ c → c < 64 * words_a_row i.columns → bit_of (more (c / 64)) (c % 64) ≡ true → ⊥) → AreRows j
rows_row row more i j kept a none =
    rows_added (row * words_a_row i.columns) (words_a_row i.columns) more i j kept a
    (λ r c p q l n. none c q l (new_in_row row more i r c l n).1)

pub from_row : (row : ℕ) (more : ℕ → ℕ) (i j : Inside) (r c : ℕ) → row_added row more i j → IsSet (bits_of j) r c
    → (c < i.columns) × (IsSet (bits_of i) r c ⊎ ((r ≡ row) × (bit_of (more (c / 64)) (c % 64) ≡ true)))
from_row row more i j r c a s =
    let f = from_new_bits (row * words_a_row i.columns) (words_a_row i.columns) more i j r c a s in
    (f.1, ⊎_elim inl (λ n. inr (new_in_row row more i r c (within_row i.columns c f.1) n)) f.2)

pub to_row : (row : ℕ) (more : ℕ → ℕ) (i j : Inside) (r c : ℕ) → row_added row more i j → row < i.rows
    → IsSet (bits_of i) r c ⊎ ((r ≡ row) × (c < i.columns) × (bit_of (more (c / 64)) (c % 64) ≡ true)) → IsSet (bits_of j) r c
to_row row more i j r c a h (inl o) =
    let f = from_bits i r c o in
    to_new_bits (row * words_a_row i.columns) (words_a_row i.columns) more i j r c a f.0 f.1 (inl f.2)
to_row row more i j r c a h (inr n) =
    to_new_bits (row * words_a_row i.columns) (words_a_row i.columns) more i j r c a (omega (arith, n.0)) n.1
    (inr (c / 64, word_within c (words_a_row i.columns) (within_row i.columns c n.1), ap (λ k. k * words_a_row i.columns + c / 64) (sym n.0), n.2))

-- ---- a row joined to another

abbrev pub joined_words : Inside → (from k : ℕ) → ℕ
joined_words i from k = get_or i.words.items (from * words_a_row i.columns + k) 0

pub rows_joined : (row from : ℕ) (i j : Inside) → AreRows i → from < i.rows → row_added row (joined_words i from) i j → AreRows j
rows_joined row from i j kept h a =
    rows_row row (joined_words i from) i j kept a (λ c p l t. both_ways (is_set i from c) (kept.rest from c h p l) t)

pub bits_joined : (row from : ℕ) (i j : Inside) → row < i.rows → from < i.rows → row_added row (joined_words i from) i j → IsJoined row from (bits_of i) (bits_of j)
bits_joined row from i j g h a = record {
  same_rows = a.same_rows;
  same_columns = a.same_columns;
  pairs = λ r c. (
    (λ s. let f = from_row row (joined_words i from) i j r c a s in ⊎_elim inl (λ n. inr (n.0, to_bits i from c h f.0 n.1)) f.1),
    (λ s. to_row row (joined_words i from) i j r c a g (⊎_elim inl (λ n. let f = from_bits i from c n.1 in inr (n.0, f.1, f.2)) s)),
  );
}

-- the row gains what is set in a word of the other alone
pub gains_from : (row from : ℕ) (i : Inside) → AreRows i → row < i.rows → from < i.rows
    → (k : ℕ) × (k < words_a_row i.columns) × Adds (joined_words i row k) (joined_words i from k) → Gains row from (bits_of i)
gains_from row from i kept g h (k, l, (n, m, t, f)) =
    let word : (k * 64 + n) / 64 ≡ k = omega arith in
    let bit : (k * 64 + n) % 64 ≡ n = omega arith in
    let s : is_set i from (k * 64 + n) ≡ true = rw (word, bit) t in
    let u : is_set i row (k * 64 + n) ≡ false = rw (word, bit) f in
    let c_within : k * 64 + n < i.columns =
    ⊎_elim (λ p. p) (λ p. absurd (both_ways (is_set i from (k * 64 + n)) (kept.rest from (k * 64 + n) h p (omega arith)) s)) (cases_lt (k * 64 + n) i.columns) in
    (k * 64 + n, to_bits i from (k * 64 + n) h c_within s, λ o. both_ways (is_set i row (k * 64 + n)) u (from_bits i row (k * 64 + n) o).2)

pub gains_to : (row from : ℕ) (i : Inside) → row < i.rows → Gains row from (bits_of i)
    → (k : ℕ) × (k < words_a_row i.columns) × Adds (joined_words i row k) (joined_words i from k)
gains_to row from i g (c, s, none) =
    let f = from_bits i from c s in (
      c / 64,
      word_within c (words_a_row i.columns) (within_row i.columns c f.1),
      (c % 64, omega arith, f.2, false_from_ne_true (is_set i row c) (λ t. none (to_bits i row c g f.1 t))),
    )

-- ---- what is set in two rows, added to one

abbrev pub common_words : (a : Inside) (a_row : ℕ) (b : Inside) (b_row k : ℕ) → ℕ
common_words a a_row b b_row k = bit_and (joined_words a a_row k) (joined_words b b_row k)

pub rows_common : (row : ℕ) (a : Inside) (a_row : ℕ) (b : Inside) (b_row : ℕ) (i j : Inside) → AreRows i → AreRows a → a_row < a.rows → a.columns ≡ i.columns
    → row_added row (common_words a a_row b b_row) i j → AreRows j
rows_common row a a_row b b_row i j kept kept_a h e added =
    rows_row row (common_words a a_row b b_row) i j kept added
    (λ c p l t. both_ways (is_set a a_row c) (kept_a.rest a_row c h (omega (arith, e)) (subst (λ n. c < 64 * words_a_row n) (sym e) l))
    (bit_of-and (joined_words a a_row (c / 64)) (joined_words b b_row (c / 64)) (c % 64) t).0)

pub bits_common : (row : ℕ) (a : Inside) (a_row : ℕ) (b : Inside) (b_row : ℕ) (i j : Inside) → row < i.rows → a_row < a.rows → b_row < b.rows
    → a.columns ≡ i.columns → b.columns ≡ i.columns → row_added row (common_words a a_row b b_row) i j
    → IsWithCommon row (bits_of a) a_row (bits_of b) b_row (bits_of i) (bits_of j)
bits_common row a a_row b b_row i j g h k e f added = record {
  same_rows = added.same_rows;
  same_columns = added.same_columns;
  pairs = λ r c. (
    (λ s. let n = from_row row (common_words a a_row b b_row) i j r c added s in
        ⊎_elim inl (λ m. let t = bit_of-and (joined_words a a_row (c / 64)) (joined_words b b_row (c / 64)) (c % 64) m.1 in
        inr (m.0, to_bits a a_row c h (omega (arith, n.0, e)) t.0, to_bits b b_row c k (omega (arith, n.0, f)) t.1)) n.1),
    (λ s. to_row row (common_words a a_row b b_row) i j r c added g
        (⊎_elim inl (λ m. let p = from_bits a a_row c m.1 in let q = from_bits b b_row c m.2 in
        inr (m.0, omega (arith, p.1, e), bit_of-and_both (joined_words a a_row (c / 64)) (joined_words b b_row (c / 64)) (c % 64) p.2 q.2)) s)),
  );
}

-- ---- no bit is set

no_pairs : (i : Inside) → ((r c : ℕ) → r < i.rows → is_set i r c ≡ false) → bits_of i ≡ no_bits i.rows i.columns
no_pairs i none = ap (λ (s : List (ℕ × ℕ)). record { rows = i.rows; columns = i.columns; set = s }) (all_empty (range_with_len 0 i.rows) (λ r c. let h : r < i.rows = omega (arith, (from_range 0 i.rows r c).1) in h))
  where
    row_empty : (p : ℕ → Bool) (r : ℕ) (cs : List ℕ) → ((c : ℕ) → p c ≡ false) → map {B = ℕ × ℕ} (λ (c : ℕ). (r, c)) (filter p cs) ≡ []
    row_empty p r [] e = refl
    row_empty p r (c ∷ cs) e = rw (e c) (row_empty p r cs e)

    all_empty : (rs : List ℕ) → ((r : ℕ) → Contains rs r → r < i.rows) → flat_map (set_in_row i) rs ≡ []
    all_empty [] h = refl
    all_empty (r ∷ rs) h = rw (row_empty (is_set i r) r (range_with_len 0 i.columns) (λ c. none r c (h r (in_first r rs)))) (all_empty rs (λ s d. h s (in_later r s rs d)))

zero_bit : (n : ℕ) → bit_of 0 n ≡ false
zero_bit n = false_from_ne_true (bit_of 0 n) (λ t. omega (arith, eqb-true _ _ t, bit_at-zero n))

none_set : (i : Inside) → ((k : ℕ) → get_or i.words.items k 0 ≡ 0) → (r c : ℕ) → is_set i r c ≡ false
none_set i zeros r c = subst (λ w. bit_of w (c % 64) ≡ false) (sym (zeros (place i r c))) (zero_bit (c % 64))

pub bits_empty : (i : Inside) → ((k : ℕ) → get_or i.words.items k 0 ≡ 0) → bits_of i ≡ no_bits i.rows i.columns
bits_empty i zeros = no_pairs i (λ r c h. none_set i zeros r c)

pub rows_empty : (i : Inside) → ((k : ℕ) → get_or i.words.items k 0 ≡ 0) → length i.words.items ≡ i.rows * words_a_row i.columns → AreRows i
rows_empty i zeros many = record { many = many; rest = λ r c h k l. none_set i zeros r c }

-- ---- words

abbrev Found : (a b w : ℕ) → Type 0
Found a b w = (n : ℕ) × (n < w) × (bit_of b n ≡ true) × (bit_of a n ≡ false)

abbrev Same : (a b w : ℕ) → Type 0
Same a b w = (n : ℕ) → n < w → bit_at (bit_or a b) n ≡ bit_at a n

one_bit : (x y : ℕ) → x < 2 → y < 2 → ((x ≡ 0) × (y ≡ 1)) ⊎ (max x y ≡ x)
one_bit x y p q = ⊎_elim (λ e. ⊎_elim (λ f. inl (e, f)) (λ f. inr (omega arith)) (cases_eq y 1)) (λ e. inr (omega arith)) (cases_eq x 0)

one_more : (a b w : ℕ) → Found a b w ⊎ Same a b w → Found a b (suc w) ⊎ Same a b (suc w)
one_more a b w (inl f) = inl (f.0, omega (arith, f.1), f.2, f.3)
one_more a b w (inr same) =
    ⊎_elim (λ d. inl (w, omega arith, eq-eqb _ _ d.1, ne_eqb (bit_at a w) 1 (λ e. omega (arith, e, d.0))))
    (λ e. inr (λ n l. ⊎_elim (λ q. rw q (bit_at_or a b w ∙ e)) (λ q. same n (omega arith)) (cases_eq n w)))
    (one_bit (bit_at a w) (bit_at b w) (bit_at-lt a w) (bit_at-lt b w))

search_bits : (a b w : ℕ) → Found a b w ⊎ Same a b w
search_bits a b zero = inr (λ n l. absurd (omega arith))
search_bits a b (suc w) = one_more a b w (search_bits a b w)

pub adds_from : (a b : ℕ) → a < 2 ^ 64 → b < 2 ^ 64 → (bit_or a b ≡ a → ⊥) → Adds a b
adds_from a b h k ne = ⊎_elim (λ f. f) (λ same. absurd (ne (same_from_bits_below 64 (bit_or a b) a (or_lt 64 a b h k) h same))) (search_bits a b 64)

pub adds_to : (a b : ℕ) → Adds a b → bit_or a b ≡ a → ⊥
adds_to a b (n, l, t, f) e = both_ways (bit_of a n) f (subst (λ w. bit_of w n ≡ true) e (bit_of-or_right a b n t))

pub test_bit : (word n : ℕ) → n < 64 → not (eqb (bit_and word (1 * 2 ^ n % 2 ^ 64)) 0) ≡ bit_of word n
test_bit word n l = rw (one_shl n 64 l) (rw (and_pow word n) (by_bit (bit_at word n) (bit_at-lt word n)))
  where
    by_bit : (x : ℕ) → x < 2 → not (eqb (x * 2 ^ n) 0) ≡ eqb x 1
    by_bit x p =
        ⊎_elim (λ e. rw e (rw (zero-mul (2 ^ n)) refl))
        (λ e. let one : x ≡ 1 = omega arith in rw one (ap not (ne_eqb (1 * 2 ^ n) 0 (λ z. omega (arith, z, pow_pos n)))))
        (cases_eq x 0)
