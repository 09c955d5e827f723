-- The loops that make what is counted before any item is taken.
use Rattle.std.proofs.Common.{◌≡◌, ℕ, ◌+◌, ◌<◌, ◌≤◌, List, [], ◌∷◌, length, slice_get, slice_index, get_or, set, Some}
use Rattle.std.proofs.Common.{true, false, ◌==◌, ◌&&◌, ◌||◌, ◌≢◌, ◌⊎◌, eqb, nat_lt, sym, ap, ap₂, ◌∙◌, subst, arith, eq-eqb, inl, inr, add-zero, add-one, add_comm, length-set}
use Rattle.std.proofs.lemmas.List.{get_or-set_same, get_or-set_other}
use Rattle.std.proofs.lemmas.Option.{slice_get-get_or}
use Rattle.std.proofs.lemmas.List.Sorted.{sum_by_pushed}
use Rattle.std.specs.List.Sorted.{IsPermutation}
use Rattle.std.proofs.Math.Bool.{and-true, and-false}
use Rattle.std.proofs.lemmas.Grind.{get_or_default_zero}
use Rattle.std.proofs.lemmas.Bool.Decides.{eqb_tells}
use Rattle.std.specs.BinaryHeap.{IsHeap}
use Rattle.std.specs.Ordering.{nat_cmp}
use Rattle.std.specs.declared.cmp.Reverse.{Reverse}
use Rattle.least_order.specs.declared.edge.Edge.{Edge}
use Rattle.least_order.specs.Taking.{bit, how_many, last, is_unmet, occurs, IsAt, AreCounts}
use Rattle.least_order.proofs.Counting.{how_many_le, how_many-next}

-- so many edges are linked
pub record IsLinked (edges : List Edge) (count number : ℕ) (lasts earlier : List ℕ) : Type 0 where
  pub items : length lasts ≡ count
  pub each : length earlier ≡ number
  pub lasts_are : (x : ℕ) → x < count → slice_index lasts x ≡ last edges x number
  pub earlier_are : (k : ℕ) (edge : Edge) → k < number → slice_get edges k ≡ Some edge →
      slice_index earlier k ≡ last edges edge.before k

-- so many edges are counted
pub record IsCounted (edges : List Edge) (count number : ℕ) (counts : List ℕ) : Type 0 where
  pub items : length counts ≡ count
  pub counts_are : (y : ℕ) → y < count → slice_index counts y ≡ how_many edges (is_unmet [] y) number

-- so many items are looked at
pub record IsHeaped (counts : List ℕ) (number : ℕ) (ready : List (Reverse ℕ)) : Type 0 where
  pub ready_are : (y : ℕ) → occurs y ready ≡ bit (nat_lt y number && (slice_index counts y == 0))
  pub ordered : IsHeap (λ (a b : Reverse ℕ). nat_cmp b.0 a.0) ready

pub count_low : (edges : List Edge) (count number : ℕ) (counts : List ℕ) (y v : ℕ) → IsCounted edges count number counts →
    y < count → v ≡ get_or counts y v → v ≤ number
count_low edges count number counts y v s within value =
    let is : v ≡ slice_index counts y = value ∙ get_or_default_zero counts y v (let l = s.items in omega (arith, within, l)) in
    let same = s.counts_are y within in
    let low = how_many_le edges (is_unmet [] y) number in omega (arith, is, same, low)

pub counted_more : (edges : List Edge) (count number : ℕ) (counts : List ℕ) (d : Edge) (v : ℕ) →
    IsCounted edges count number counts → number < length edges → (get_or edges number d).after < count →
    v ≡ get_or counts (get_or edges number d).after v →
    IsCounted edges count (number + 1) (set counts (get_or edges number d).after (v + 1))
counted_more edges count number counts d v s low within value = record {
  items = length-set _ _ _ ∙ s.items;
  counts_are = λ y w. by y w (eqb_tells (get_or edges number d).after y);
}
  where
    is : v ≡ slice_index counts (get_or edges number d).after
    is = value ∙ get_or_default_zero counts _ v (let l = s.items in omega (arith, within, l))

    step : (y : ℕ) → how_many edges (is_unmet [] y) (number + 1)
        ≡ how_many edges (is_unmet [] y) number + bit ((get_or edges number d).after == y)
    step y =
        ap (how_many edges (is_unmet [] y)) (add-one number)
        ∙ how_many-next edges (is_unmet [] y) number (get_or edges number d) (slice_get-get_or edges number d low)
        ∙ ap (λ b. how_many edges (is_unmet [] y) number + bit b) (and-true ((get_or edges number d).after == y))

    by : (y : ℕ) → y < count → ((eqb (get_or edges number d).after y ≡ true) × ((get_or edges number d).after ≡ y))
        ⊎ ((eqb (get_or edges number d).after y ≡ false) × ((get_or edges number d).after ≢ y)) →
        slice_index (set counts (get_or edges number d).after (v + 1)) y ≡ how_many edges (is_unmet [] y) (number + 1)
    by y w (inl p) =
        ap (slice_index (set counts (get_or edges number d).after (v + 1))) (sym p.1)
        ∙ get_or-set_same counts (get_or edges number d).after (v + 1) 0 (let l = s.items in omega (arith, within, l))
        ∙ ap (λ n. n + 1) (is ∙ s.counts_are (get_or edges number d).after within ∙ ap (λ z. how_many edges (is_unmet [] z) number) p.1)
        ∙ sym (step y ∙ ap (λ b. how_many edges (is_unmet [] y) number + bit b) p.0)
    by y w (inr p) =
        get_or-set_other counts (get_or edges number d).after y (v + 1) 0 (λ e. p.1 (sym e))
        ∙ s.counts_are y w
        ∙ sym (step y ∙ ap (λ b. how_many edges (is_unmet [] y) number + bit b) p.0 ∙ add-zero _)

lower_next : (y number : ℕ) → nat_lt y (number + 1) ≡ (nat_lt y number || (number == y))
lower_next y number = grind arith

pub heaped_more : (counts : List ℕ) (number : ℕ) (ready new : List (Reverse ℕ)) → IsHeaped counts number ready →
    get_or counts number 0 ≡ 0 → ((y : ℕ) → occurs y new ≡ occurs y ready + bit (number == y)) →
    IsHeap (λ (a b : Reverse ℕ). nat_cmp b.0 a.0) new → IsHeaped counts (number + 1) new
heaped_more counts number ready new s none put heaped = record {
  ready_are = λ y. put y ∙ ap (λ n. n + bit (number == y)) (s.ready_are y) ∙ by y (eqb_tells number y);
  ordered = heaped;
}
  where
    by : (y : ℕ) → ((eqb number y ≡ true) × (number ≡ y)) ⊎ ((eqb number y ≡ false) × (number ≢ y)) →
        bit (nat_lt y number && (slice_index counts y == 0)) + bit (number == y)
        ≡ bit (nat_lt y (number + 1) && (slice_index counts y == 0))
    by y (inl p) =
        let e = p.1 in
        let now : nat_lt y (number + 1) ≡ true = grind (arith, e) in
        let past : nat_lt y number ≡ false = grind (arith, e) in
        let zero_here : (slice_index counts y == 0) ≡ true = eq-eqb _ _ (ap (slice_index counts) (sym e) ∙ none) in
        ap₂ (λ b c. bit (b && (slice_index counts y == 0)) + bit c) past p.0 ∙ sym (ap₂ (λ b c. bit (b && c)) now zero_here)
    by y (inr p) =
        let e = p.1 in
        let same : nat_lt y (number + 1) ≡ nat_lt y number = grind (arith, e) in
        ap (λ c. bit (nat_lt y number && (slice_index counts y == 0)) + bit c) p.0 ∙ add-zero _
        ∙ sym (ap (λ b. bit (b && (slice_index counts y == 0))) same)

pub heaped_past : (counts : List ℕ) (number : ℕ) (ready : List (Reverse ℕ)) → IsHeaped counts number ready →
    slice_index counts number ≢ 0 → IsHeaped counts (number + 1) ready
heaped_past counts number ready s some = record {
  ready_are = λ y. s.ready_are y ∙ by y (eqb_tells number y);
  ordered = s.ordered;
}
  where
    by : (y : ℕ) → ((eqb number y ≡ true) × (number ≡ y)) ⊎ ((eqb number y ≡ false) × (number ≢ y)) →
        bit (nat_lt y number && (slice_index counts y == 0)) ≡ bit (nat_lt y (number + 1) && (slice_index counts y == 0))
    by y (inl p) =
        let e = p.1 in
        let past : nat_lt y number ≡ false = grind (arith, e) in
        let here : (slice_index counts y == 0) ≡ false =
        subst (λ z. (slice_index counts z == 0) ≡ false) e (let f = some in grind (arith, f)) in
        ap (λ b. bit (b && (slice_index counts y == 0))) past ∙ sym (ap (λ b. bit (nat_lt y (number + 1) && b)) here ∙ ap bit (and-false _))
    by y (inr p) =
        let e = p.1 in
        let same : nat_lt y (number + 1) ≡ nat_lt y number = grind (arith, e) in
        sym (ap (λ b. bit (b && (slice_index counts y == 0))) same)

-- a push into the heap
pub pushed : (x : ℕ) (ready new : List (Reverse ℕ)) → IsPermutation (record { 0 = x } ∷ ready) new → (y : ℕ) →
    occurs y new ≡ occurs y ready + bit (x == y)
pushed x ready new p y =
    sum_by_pushed (λ (r : Reverse ℕ). bit (r.0 == y)) (record { 0 = x }) ready new p ∙ add_comm (bit (x == y)) (occurs y ready)

pub begun : (edges : List Edge) (count number : ℕ) (counts : List ℕ) (ready : List (Reverse ℕ)) → number ≡ count →
    AreCounts edges count counts → IsHeaped counts number ready → IsAt edges count 0 0 [] counts ready
begun edges count number counts ready all a s = record {
  items = a.items;
  counts_are = λ y w. a.counts_are y w ∙ sym (add-zero _);
  met = λ y m. absurd cc;
  ready_are = λ y. s.ready_are y ∙ ap (λ n. bit (nat_lt y n && (slice_index counts y == 0))) all;
  ordered = s.ordered;
}
