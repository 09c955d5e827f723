-- The set pairs of rows of bits stand in order, each once, and within the sizes.
use Rattle.std.proofs.Common.{◌≡◌, ℕ, zero, suc, ◌+◌, ◌<◌, List, [], ◌∷◌, ◌++◌, map, refl, ap, subst, ⊎_elim, IsTrue, ◌==◌, ◌&&◌, ltb, arith}
use Rattle.std.specs.List.{All, AllPairs, Contains, filter, flat_map, range_with_len}
use Rattle.std.proofs.lemmas.Bool.{or_left, or_right, and_from, eq-eqb, lt-ltb}
use Rattle.std.proofs.lemmas.List.Elements.{Contains-get_or, Contains-append_cases}
use Rattle.std.proofs.lemmas.List.Kept.{AllPairs-cons, AllPairs-filter}
use Rattle.site_graph.specs.declared.bit_rows.BitRows.TheInside.{Inside}
use Rattle.site_graph.specs.Bits.{pair_before, AreInOrder}
use Rattle.site_graph.specs.BitWords.{is_set, set_in_row, bits_of}
use Rattle.site_graph.proofs.Members.{in_first, in_later, from_range, from_map, from_flat_map}
use Rattle.site_graph.proofs.Words.{from_bits}

-- ---- pairs of members of lists

all_by : {X : Type 0} (P : X → Type 0) (xs : List X) → ((y : X) → Contains xs y → P y) → All P xs
all_by P xs h i d l = h _ (Contains-get_or xs i d l)

first_pairs : {X : Type 0} (R : X → X → Type 0) (x : X) (xs : List X) → AllPairs R (x ∷ xs) → (y : X) → Contains xs y → R x y
first_pairs R x xs h y (k, l, e) = subst (R x) e (h 0 (suc k) y (omega arith) (omega arith))

later_pairs : {X : Type 0} (R : X → X → Type 0) (x : X) (xs : List X) → AllPairs R (x ∷ xs) → AllPairs R xs
later_pairs R x xs h i j d l w = h (suc i) (suc j) d (omega arith) (omega arith)

no_pairs : {X : Type 0} (R : X → X → Type 0) → AllPairs R []
no_pairs R i j d l w = absurd (omega arith)

pairs_map : {X Y : Type 0} (R : Y → Y → Type 0) (f : X → Y) (xs : List X) → AllPairs (λ x y. R (f x) (f y)) xs → AllPairs R (map f xs)
pairs_map R f [] h = no_pairs R
pairs_map R f (x ∷ xs) h =
    AllPairs-cons R (f x) (map f xs)
    (all_by (R (f x)) (map f xs) (λ y c. let (z, i, e) = from_map f xs y c in subst (R (f x)) e (first_pairs (λ x y. R (f x) (f y)) x xs h z i)))
    (pairs_map R f xs (later_pairs (λ x y. R (f x) (f y)) x xs h))

pairs_append : {X : Type 0} (R : X → X → Type 0) (xs ys : List X) → AllPairs R xs → AllPairs R ys
    → ((x y : X) → Contains xs x → Contains ys y → R x y) → AllPairs R (xs ++ ys)
pairs_append R [] ys h g between = g
pairs_append R (x ∷ xs) ys h g between =
    AllPairs-cons R x (xs ++ ys)
    (all_by (R x) (xs ++ ys) (λ y c. ⊎_elim (first_pairs R x xs h y) (between x y (in_first x xs)) (Contains-append_cases xs ys y c)))
    (pairs_append R xs ys (later_pairs R x xs h) g (λ z y i j. between z y (in_later x z xs i) j))

-- ---- the order of pairs

abbrev Before : ℕ × ℕ → ℕ × ℕ → Type 0
Before p q = IsTrue (pair_before p q)

earlier_row : (p q : ℕ × ℕ) → p.0 < q.0 → Before p q
earlier_row p q l = or_left (ltb p.0 q.0) ((p.0 == q.0) && ltb p.1 q.1) (lt-ltb p.0 q.0 l)

same_row : (r c d : ℕ) → c < d → Before (r, c) (r, d)
same_row r c d l = or_right (ltb r r) ((r == r) && ltb c d) (and_from (r == r) (ltb c d) (eq-eqb r r refl) (lt-ltb c d l))

range_rises : (r a n : ℕ) → AllPairs (λ c d. Before (r, c) (r, d)) (range_with_len a n)
range_rises r a zero = no_pairs (λ c d. Before (r, c) (r, d))
range_rises r a (suc n) =
    AllPairs-cons (λ c d. Before (r, c) (r, d)) a (range_with_len (a + 1) n)
    (all_by (λ d. Before (r, a) (r, d)) (range_with_len (a + 1) n) (λ y c. let h = from_range (a + 1) n y c in same_row r a y (omega (arith, h.0))))
    (range_rises r (a + 1) n)

row_rises : (i : Inside) (r : ℕ) → AllPairs Before (set_in_row i r)
row_rises i r =
    pairs_map Before (λ (c : ℕ). (r, c)) (filter (is_set i r) (range_with_len 0 i.columns))
    (AllPairs-filter (λ c d. Before (r, c) (r, d)) (is_set i r) (range_with_len 0 i.columns) (range_rises r 0 i.columns))

of_row : (i : Inside) (r : ℕ) (p : ℕ × ℕ) → Contains (set_in_row i r) p → r ≡ p.0
of_row i r p c =
    let (column, is, e) = from_map (λ (d : ℕ). (r, d)) (filter (is_set i r) (range_with_len 0 i.columns)) p c in
    ap (λ (q : ℕ × ℕ). q.0) e

rows_rise : (i : Inside) (n a : ℕ) → AllPairs Before (flat_map (set_in_row i) (range_with_len a n))
rows_rise i zero a = no_pairs Before
rows_rise i (suc n) a =
    pairs_append Before (set_in_row i a) (flat_map (set_in_row i) (range_with_len (a + 1) n)) (row_rises i a) (rows_rise i n (a + 1))
    (λ p q c d.
    let (row, is, in_row) = from_flat_map (set_in_row i) (range_with_len (a + 1) n) q d in
    let h = from_range (a + 1) n row is in
    earlier_row p q (omega (arith, of_row i a p c, of_row i row q in_row, h.0)))

pub bits_in_order : (i : Inside) → AreInOrder (bits_of i)
bits_in_order i = record {
  rise = rows_rise i i.rows 0;
  within = λ r c s. let h = from_bits i r c s in (h.0, h.1);
}
