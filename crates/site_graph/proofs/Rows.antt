-- What the methods of bit rows give, by the equations of their steps.
use Rattle.std.proofs.Common.{◌≡◌, ◌⊎◌, ◌↔◌, ℕ, ◌+◌, ◌*◌, ◌/◌, ◌%◌, ◌^◌, ◌<◌, ◌≤◌, List, Bool, true, ◌||◌, length, get_or, set, replicate, bit_or, bit_and, refl, sym, ap, ◌∙◌, subst, inl, inr, ⊎_elim, arith}
use Rattle.std.proofs.lemmas.Bool.{or_cases, or_left, or_right, cases_eq, cases_lt}
use Rattle.std.proofs.lemmas.Nat.{mul-add-lt}
use Rattle.std.proofs.Math.Nat.{mul_comm}
use Rattle.std.proofs.lemmas.List.{get_or_past, get_or-replicate, length-replicate, get_or_read, get_or-set_same, get_or-set_other, length-set}
use Rattle.site_graph.specs.declared.bit_rows.BitRows.TheInside.{Inside}
use Rattle.site_graph.specs.Bits.{Bits, IsSet, IsWith, IsJoined, IsWithCommon, Gains}
use Rattle.site_graph.specs.BitWords.{words_a_row, bit_of, is_set, bits_of, AreRows, AreAdded, Adds}
use Rattle.std.specs.Vec.{with_item, with_items}
use Rattle.std.proofs.lemmas.List.{with_items_is}
use Rattle.site_graph.proofs.Words.{from_bits, to_bits, place, pair_added, row_added, rows_with, bits_with, rows_joined, bits_joined, joined_words, gains_from, gains_to, rows_common, bits_common, common_words}

-- ---- the steps of loops over words

pub none_added : (to : ℕ) (more : ℕ → ℕ) (old : List ℕ) → AreAdded to 0 more old old
none_added to more old = record {
  same_length = refl;
  inside = λ k l. absurd (omega arith);
  outside = λ k o. refl;
}

pub one_added : (to i : ℕ) (more : ℕ → ℕ) (old ws : List ℕ) (v : ℕ) → AreAdded to i more old ws → to + i < length ws
    → v ≡ bit_or (get_or ws (to + i) 0) (more i) → AreAdded to (i + 1) more old (set ws (to + i) v)
one_added to i more old ws v a l e = record {
  same_length = length-set ws (to + i) v ∙ a.same_length;
  inside = λ k h. ⊎_elim
      (λ q. subst (λ m. get_or (set ws (to + i) v) (to + m) 0 ≡ bit_or (get_or old (to + m) 0) (more m)) (sym q)
      (get_or-set_same ws (to + i) v 0 l ∙ (e ∙ ap (λ w. bit_or w (more i)) (a.outside (to + i) (inr (omega arith))))))
      (λ q. get_or-set_other ws (to + i) (to + k) v 0 (λ s. q (omega arith)) ∙ a.inside k (omega arith))
      (cases_eq k i);
  outside = λ k o. get_or-set_other ws (to + i) k v 0 (λ s. ⊎_elim (λ p. omega arith) (λ p. omega arith) o)
      ∙ a.outside k (⊎_elim inl (λ p. inr (omega arith)) o);
}

-- what is read from the words that are joined is as it was
pub same_read : (to from width i : ℕ) (more : ℕ → ℕ) (old ws : List ℕ) → AreAdded to i more old ws → i < width
    → (to ≡ from) ⊎ ((to + width ≤ from) ⊎ (from + width ≤ to)) → get_or ws (from + i) 0 ≡ get_or old (from + i) 0
same_read to from width i more old ws a l apart =
    a.outside (from + i) (⊎_elim (λ e. inr (omega arith)) (λ p. ⊎_elim (λ q. inr (omega arith)) (λ q. inl (omega arith)) p) apart)

pub some_more : (P : ℕ → Type 0) (i : ℕ) (b d : Bool) → ((b ≡ true) ↔ ((k : ℕ) × (k < i) × P k)) → ((d ≡ true) ↔ P i)
    → ((b || d) ≡ true) ↔ ((k : ℕ) × (k < i + 1) × P k)
some_more P i b d f g = (
  λ t. ⊎_elim (λ p. let x = f.0 p in (x.0, omega (arith, x.1), x.2)) (λ p. (i, omega arith, g.0 p)) (or_cases b d t),
  λ x. ⊎_elim (λ e. or_right b d (g.1 (subst P e x.2))) (λ e. or_left b d (f.1 (x.0, omega (arith, x.1, e), x.2))) (cases_eq x.0 i),
)

pub apart : (row from width : ℕ) → (row * width ≡ from * width) ⊎ ((row * width + width ≤ from * width) ⊎ (from * width + width ≤ row * width))
apart row from width =
    ⊎_elim (λ e. inl (ap (λ n. n * width) e))
    (λ e. inr (⊎_elim (λ l. inl (above row from width l)) (λ l. inr (above from row width (omega arith))) (cases_lt row from)))
    (cases_eq row from)
  where
    above : (a b w : ℕ) → a < b → a * w + w ≤ b * w
    above a b w l = grind arith

place_within : (i : Inside) (r c : ℕ) → AreRows i → r < i.rows → c < i.columns → place i r c < length i.words.items
place_within i r c kept row column =
    let word : c / 64 < words_a_row i.columns = omega arith in
    subst (λ n. place i r c < n) (mul_comm (words_a_row i.columns) i.rows ∙ sym kept.many) (mul-add-lt r (words_a_row i.columns) (c / 64) i.rows row word)

-- ---- the answer of `get`

pub answer : (i : Inside) (b : Bits) (r c : ℕ) (t : Bool) (word p : ℕ) → AreRows i → bits_of i ≡ b → r < b.rows → c < b.columns
    → p ≡ r * words_a_row i.columns + c / 64 → word ≡ get_or i.words.items p word → t ≡ bit_of word (c % 64) → (t ≡ true) ↔ IsSet b r c
answer i b r c t word p kept e h k q w f =
    let row : r < i.rows = omega (arith, ap (λ (x : Bits). x.rows) e) in
    let column : c < i.columns = omega (arith, ap (λ (x : Bits). x.columns) e) in
    let l : p < length i.words.items = subst (λ x. x < length i.words.items) (sym q) (place_within i r c kept row column) in
    let same : t ≡ is_set i r c = f ∙ ap (λ x. bit_of x (c % 64)) (get_or_read i.words.items p word l w 0 ∙ ap (λ x. get_or i.words.items x 0) q) in
    (λ s. subst (λ x. IsSet x r c) e (to_bits i r c row column (sym same ∙ s)), λ s. same ∙ (from_bits i r c (subst (λ x. IsSet x r c) (sym e) s)).2)

-- ---- the fields that `set` leaves

abbrev pub inside_with : (i : Inside) → (p v : ℕ) → Inside
inside_with i p v = record { rows = i.rows; columns = i.columns; words = with_item i.words p v }

set_added : (i : Inside) (r c p word v : ℕ) → AreRows i → r < i.rows → c < i.columns → p ≡ place i r c → word ≡ get_or i.words.items p word
    → v ≡ bit_or word (2 ^ (c % 64)) → pair_added r c i (inside_with i p v)
set_added i r c p word v kept h k q w f =
    let l : p < length i.words.items = subst (λ x. x < length i.words.items) (sym q) (place_within i r c kept h k) in
    let e : v ≡ bit_or (get_or i.words.items p 0) (2 ^ (c % 64)) = f ∙ ap (λ x. bit_or x (2 ^ (c % 64))) (get_or_read i.words.items p word l w 0) in
    record {
      same_rows = refl;
      same_columns = refl;
      words = subst (λ x. AreAdded x 1 (λ (k : ℕ). 2 ^ (c % 64)) i.words.items (set i.words.items p v)) q (record {
        same_length = length-set i.words.items p v;
        inside = λ n m.
            let zero_place : p + n ≡ p = omega arith in
            subst (λ x. get_or (set i.words.items p v) x 0 ≡ bit_or (get_or i.words.items x 0) (2 ^ (c % 64))) (sym zero_place) (get_or-set_same i.words.items p v 0 l ∙ e);
        outside = λ n o. get_or-set_other i.words.items p n v 0 (λ s. ⊎_elim (λ x. omega arith) (λ x. omega arith) o);
      });
    }

pub rows_set : (i : Inside) (b : Bits) (r c p word v : ℕ) → AreRows i → bits_of i ≡ b → r < b.rows → c < b.columns → p ≡ place i r c
    → word ≡ get_or i.words.items p word → v ≡ bit_or word (2 ^ (c % 64)) → AreRows (inside_with i p v)
rows_set i b r c p word v kept e h k q w f =
    let row : r < i.rows = omega (arith, h, ap (λ (x : Bits). x.rows) e) in
    let column : c < i.columns = omega (arith, k, ap (λ (x : Bits). x.columns) e) in
    rows_with r c i (inside_with i p v) kept column (set_added i r c p word v kept row column q w f)

pub bits_set : (i : Inside) (b : Bits) (r c p word v : ℕ) → AreRows i → bits_of i ≡ b → r < b.rows → c < b.columns → p ≡ place i r c
    → word ≡ get_or i.words.items p word → v ≡ bit_or word (2 ^ (c % 64)) → IsWith r c b (bits_of (inside_with i p v))
bits_set i b r c p word v kept e h k q w f =
    let row : r < i.rows = omega (arith, h, ap (λ (x : Bits). x.rows) e) in
    let column : c < i.columns = omega (arith, k, ap (λ (x : Bits). x.columns) e) in
    subst (λ (x : Bits). IsWith r c x (bits_of (inside_with i p v))) e
    (bits_with r c i (inside_with i p v) row column (set_added i r c p word v kept row column q w f))

-- ---- the fields that `join` and `add_common` leave

abbrev pub inside_of : (i : Inside) → List ℕ → Inside
inside_of i ws = record { rows = i.rows; columns = i.columns; words = with_items i.words ws }

words_added : (i : Inside) (row to width : ℕ) (more more' : ℕ → ℕ) (old ws : List ℕ) → old ≡ i.words.items → to ≡ row * words_a_row i.columns + 0 / 64 → width ≡ words_a_row i.columns
    → ((k : ℕ) → more k ≡ more' k) → AreAdded to width more old ws → row_added row more' i (inside_of i ws)
words_added i row to width more more' old ws o t w m a =
    let same_to : to ≡ row * words_a_row i.columns = omega arith in
    let long : length ws ≡ i.words.len = a.same_length ∙ (ap (λ (x : List ℕ). length x) o ∙ sym i.words.ok.0) in
    let all : AreAdded (row * words_a_row i.columns) (words_a_row i.columns) more' i.words.items ws = subst (λ x. AreAdded (row * words_a_row i.columns) (words_a_row i.columns) more' x ws) o
    (subst (λ x. AreAdded (row * words_a_row i.columns) x more' old ws) w (subst (λ x. AreAdded x width more' old ws) same_to
    (record { same_length = a.same_length; inside = λ k h. a.inside k h ∙ ap (λ x. bit_or (get_or old (to + k) 0) x) (m k); outside = a.outside }))) in
    record { same_rows = refl; same_columns = refl; words = subst (λ x. AreAdded (row * words_a_row i.columns) (words_a_row i.columns) more' i.words.items x) (sym (with_items_is i.words ws long)) all }

joined_added : (i : Inside) (row from to at width : ℕ) (old ws : List ℕ) → old ≡ i.words.items → to ≡ row * words_a_row i.columns + 0 / 64 → at ≡ from * words_a_row i.columns + 0 / 64 → width ≡ words_a_row i.columns
    → AreAdded to width (λ k. get_or old (at + k) 0) old ws → row_added row (joined_words i from) i (inside_of i ws)
joined_added i row from to at width old ws o t f w a =
    words_added i row to width (λ k. get_or old (at + k) 0) (joined_words i from) old ws o t w
    (λ k. let e : at + k ≡ from * words_a_row i.columns + k = omega arith in ap (λ x. get_or x (at + k) 0) o ∙ ap (λ x. get_or i.words.items x 0) e) a

pub rows_join : (i : Inside) (b : Bits) (row from to at width : ℕ) (old ws : List ℕ) → AreRows i → bits_of i ≡ b → from < b.rows → old ≡ i.words.items
    → to ≡ row * words_a_row i.columns + 0 / 64 → at ≡ from * words_a_row i.columns + 0 / 64 → width ≡ words_a_row i.columns
    → AreAdded to width (λ k. get_or old (at + k) 0) old ws → AreRows (inside_of i ws)
rows_join i b row from to at width old ws kept e h o t f w a =
    rows_joined row from i (inside_of i ws) kept (omega (arith, h, ap (λ (x : Bits). x.rows) e)) (joined_added i row from to at width old ws o t f w a)

pub bits_join : (i : Inside) (b : Bits) (row from to at width : ℕ) (old ws : List ℕ) → bits_of i ≡ b → row < b.rows → from < b.rows → old ≡ i.words.items
    → to ≡ row * words_a_row i.columns + 0 / 64 → at ≡ from * words_a_row i.columns + 0 / 64 → width ≡ words_a_row i.columns
    → AreAdded to width (λ k. get_or old (at + k) 0) old ws → IsJoined row from b (bits_of (inside_of i ws))
bits_join i b row from to at width old ws e g h o t f w a =
    subst (λ (x : Bits). IsJoined row from x (bits_of (inside_of i ws))) e
    (bits_joined row from i (inside_of i ws) (omega (arith, g, ap (λ (x : Bits). x.rows) e)) (omega (arith, h, ap (λ (x : Bits). x.rows) e))
    (joined_added i row from to at width old ws o t f w a))

pub gains_answer : (i : Inside) (b : Bits) (row from to at width : ℕ) (old : List ℕ) (result : Bool) → AreRows i → bits_of i ≡ b → row < b.rows → from < b.rows → old ≡ i.words.items
    → to ≡ row * words_a_row i.columns + 0 / 64 → at ≡ from * words_a_row i.columns + 0 / 64 → width ≡ words_a_row i.columns
    → ((result ≡ true) ↔ ((k : ℕ) × (k < width) × Adds (get_or old (to + k) 0) (get_or old (at + k) 0))) → (result ≡ true) ↔ Gains row from b
gains_answer i b row from to at width old result kept e g h o t f w says =
    let same_to : (k : ℕ) → get_or old (to + k) 0 ≡ joined_words i row k = λ k. let s : to + k ≡ row * words_a_row i.columns + k = omega arith in ap (λ x. get_or x (to + k) 0) o ∙ ap (λ x. get_or i.words.items x 0) s in
    let same_at : (k : ℕ) → get_or old (at + k) 0 ≡ joined_words i from k = λ k. let s : at + k ≡ from * words_a_row i.columns + k = omega arith in ap (λ x. get_or x (at + k) 0) o ∙ ap (λ x. get_or i.words.items x 0) s in
    let row_within : row < i.rows = omega (arith, g, ap (λ (x : Bits). x.rows) e) in
    let from_within : from < i.rows = omega (arith, h, ap (λ (x : Bits). x.rows) e) in (
      λ s. let n = says.0 s in
          subst (Gains row from) e (gains_from row from i kept row_within from_within
          (n.0, subst (λ x. n.0 < x) w n.1, subst (λ x. Adds (joined_words i row n.0) x) (same_at n.0) (subst (λ x. Adds x (get_or old (at + n.0) 0)) (same_to n.0) n.2))),
      λ s. let n = gains_to row from i row_within (subst (Gains row from) (sym e) s) in
          says.1 (n.0, subst (λ x. n.0 < x) (sym w) n.1, subst (λ x. Adds (get_or old (to + n.0) 0) x) (sym (same_at n.0)) (subst (λ x. Adds x (joined_words i from n.0)) (sym (same_to n.0)) n.2)),
    )

pub same_adds : (x y x' y' : ℕ) (P : Type 0) → x ≡ x' → y ≡ y' → (P ↔ Adds x y) → P ↔ Adds x' y'
same_adds x y x' y' P e f h = subst (λ w. P ↔ Adds x' w) f (subst (λ w. P ↔ Adds w y) e h)

pub rows_apart : (row from to at w width : ℕ) → to ≡ row * w + 0 / 64 → at ≡ from * w + 0 / 64 → width ≡ w
    → (to ≡ at) ⊎ ((to + width ≤ at) ⊎ (at + width ≤ to))
rows_apart row from to at w width t f e =
    ⊎_elim (λ p. inl (omega arith)) (λ p. inr (⊎_elim (λ q. inl (omega arith)) (λ q. inr (omega arith)) p)) (apart row from w)

-- ---- the fields that `new` gives

pub zeros_of : (n : ℕ) (ws : List ℕ) → ws ≡ replicate n 0 → (k : ℕ) → get_or ws k 0 ≡ 0
zeros_of n ws e k =
    ap (λ x. get_or x k 0) e
    ∙ ⊎_elim (λ l. get_or-replicate n k 0 0 l) (λ l. get_or_past (replicate n 0) k 0 (omega (arith, length-replicate {A = ℕ} n 0))) (cases_lt k n)

-- ---- the fields that `add_common` leaves

common_added : (i a b : Inside) (row a_row b_row to at_a at_b width : ℕ) (old of_a of_b ws : List ℕ) → a.columns ≡ i.columns → b.columns ≡ i.columns
    → old ≡ i.words.items → of_a ≡ a.words.items → of_b ≡ b.words.items → to ≡ row * words_a_row i.columns + 0 / 64 → at_a ≡ a_row * words_a_row i.columns + 0 / 64
    → at_b ≡ b_row * words_a_row i.columns + 0 / 64 → width ≡ words_a_row i.columns
    → AreAdded to width (λ k. bit_and (get_or of_a (at_a + k) 0) (get_or of_b (at_b + k) 0)) old ws → row_added row (common_words a a_row b b_row) i (inside_of i ws)
common_added i a b row a_row b_row to at_a at_b width old of_a of_b ws ea eb o oa ob t ta tb w added =
    words_added i row to width (λ k. bit_and (get_or of_a (at_a + k) 0) (get_or of_b (at_b + k) 0)) (common_words a a_row b b_row) old ws o t w
    (λ k. cc (same_word a a_row at_a of_a ea oa ta k, same_word b b_row at_b of_b eb ob tb k)) added
  where
    same_word : (x : Inside) (x_row at : ℕ) (of_x : List ℕ) → x.columns ≡ i.columns → of_x ≡ x.words.items → at ≡ x_row * words_a_row i.columns + 0 / 64 → (k : ℕ)
        → get_or of_x (at + k) 0 ≡ joined_words x x_row k
    same_word x x_row at of_x e o t k =
        let p : at + k ≡ x_row * words_a_row i.columns + k = omega arith in
        ap (λ y. get_or y (at + k) 0) o ∙ (ap (λ y. get_or x.words.items y 0) p ∙ ap (λ n. get_or x.words.items (x_row * words_a_row n + k) 0) (sym e))

pub rows_add_common : (i a b : Inside) (s p q : Bits) (row a_row b_row to at_a at_b width : ℕ) (old of_a of_b ws : List ℕ) → AreRows i → AreRows a
    → bits_of i ≡ s → bits_of a ≡ p → bits_of b ≡ q → a_row < p.rows → p.columns ≡ s.columns → q.columns ≡ s.columns
    → old ≡ i.words.items → of_a ≡ a.words.items → of_b ≡ b.words.items → to ≡ row * words_a_row i.columns + 0 / 64 → at_a ≡ a_row * words_a_row i.columns + 0 / 64
    → at_b ≡ b_row * words_a_row i.columns + 0 / 64 → width ≡ words_a_row i.columns
    → AreAdded to width (λ k. bit_and (get_or of_a (at_a + k) 0) (get_or of_b (at_b + k) 0)) old ws → AreRows (inside_of i ws)
rows_add_common i a b s p q row a_row b_row to at_a at_b width old of_a of_b ws kept kept_a e f g h ca cb o oa ob t ta tb w added =
    let ea : a.columns ≡ i.columns = ap (λ (x : Bits). x.columns) f ∙ (ca ∙ sym (ap (λ (x : Bits). x.columns) e)) in
    let eb : b.columns ≡ i.columns = ap (λ (x : Bits). x.columns) g ∙ (cb ∙ sym (ap (λ (x : Bits). x.columns) e)) in
    rows_common row a a_row b b_row i (inside_of i ws) kept kept_a (omega (arith, h, ap (λ (x : Bits). x.rows) f)) ea
    (common_added i a b row a_row b_row to at_a at_b width old of_a of_b ws ea eb o oa ob t ta tb w added)

pub bits_add_common : (i a b : Inside) (s p q : Bits) (row a_row b_row to at_a at_b width : ℕ) (old of_a of_b ws : List ℕ)
    → bits_of i ≡ s → bits_of a ≡ p → bits_of b ≡ q → row < s.rows → a_row < p.rows → b_row < q.rows → p.columns ≡ s.columns → q.columns ≡ s.columns
    → old ≡ i.words.items → of_a ≡ a.words.items → of_b ≡ b.words.items → to ≡ row * words_a_row i.columns + 0 / 64 → at_a ≡ a_row * words_a_row i.columns + 0 / 64
    → at_b ≡ b_row * words_a_row i.columns + 0 / 64 → width ≡ words_a_row i.columns
    → AreAdded to width (λ k. bit_and (get_or of_a (at_a + k) 0) (get_or of_b (at_b + k) 0)) old ws
    → IsWithCommon row p a_row q b_row s (bits_of (inside_of i ws))
bits_add_common i a b s p q row a_row b_row to at_a at_b width old of_a of_b ws e f g r h k ca cb o oa ob t ta tb w added =
    let ea : a.columns ≡ i.columns = ap (λ (x : Bits). x.columns) f ∙ (ca ∙ sym (ap (λ (x : Bits). x.columns) e)) in
    let eb : b.columns ≡ i.columns = ap (λ (x : Bits). x.columns) g ∙ (cb ∙ sym (ap (λ (x : Bits). x.columns) e)) in
    subst (λ (x : Bits). IsWithCommon row p a_row q b_row x (bits_of (inside_of i ws))) e
    (subst (λ (x : Bits). IsWithCommon row x a_row q b_row (bits_of i) (bits_of (inside_of i ws))) f
    (subst (λ (x : Bits). IsWithCommon row (bits_of a) a_row x b_row (bits_of i) (bits_of (inside_of i ws))) g
    (bits_common row a a_row b b_row i (inside_of i ws) (omega (arith, r, ap (λ (x : Bits). x.rows) e)) (omega (arith, h, ap (λ (x : Bits). x.rows) f))
    (omega (arith, k, ap (λ (x : Bits). x.rows) g)) ea eb (common_added i a b row a_row b_row to at_a at_b width old of_a of_b ws ea eb o oa ob t ta tb w added))))
