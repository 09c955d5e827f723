-- Each item that is taken, and all of them at the end.
use Rattle.std.proofs.Common.{◌≡◌, ℕ, zero, suc, ◌+◌, ◌<◌, ◌≤◌, List, ◌∷◌, ◌++◌, [], length, slice_get, slice_index, Option, Some, None}
use Rattle.std.proofs.Common.{Bool, true, false, ◌==◌, ◌&&◌, ◌≢◌, ◌⊎◌, eqb, nat_lt, refl, sym, ap, ap₂, ◌∙◌, arith, eq-eqb, eqb-true, add-zero, zero-add, cond, not, inl, inr, if◌then◌else◌}
use Rattle.std.proofs.Math.Bool.{and-true, and-false}
use Rattle.std.proofs.lemmas.Bool.{or_cases}
use Rattle.std.proofs.lemmas.Bool.Decides.{eqb_tells}
use Rattle.std.proofs.lemmas.List.Sorted.{sum_by_popped}
use Rattle.std.proofs.lemmas.List.Sums.{sum_by-cons}
use Rattle.std.specs.Option.{option_map_or}
use Rattle.std.specs.List.Sorted.{IsPermutation}
use Rattle.std.specs.BinaryHeap.{IsHeap, IsUpperBound}
use Rattle.std.specs.Ordering.{nat_cmp, is_lt}
use Rattle.std.specs.declared.cmp.Ordering.TheVariants.{Less, Equal, Greater}
use Rattle.std.specs.declared.cmp.Reverse.{Reverse}
use Rattle.least_order.specs.declared.edge.Edge.{Edge}
use Rattle.least_order.specs.Least.{taken, least_order}
use Rattle.least_order.specs.Taking.{bit, is_in, how_many, last, is_unmet, is_link, occurs, is_ready, IsAt}
use Rattle.least_order.proofs.Counting.{bit_le, taken_one, others_stay, is_in-last}
use Rattle.least_order.proofs.Steps.{IsReady, ready_in, moved_on}

split_bit : (out : List ℕ) (x y : ℕ) → is_in out x ≡ false → (o : Option Edge) →
    bit (option_map_or (is_unmet out y) o false)
    ≡ bit (option_map_or (is_unmet (out ++ x ∷ []) y) o false) + bit (option_map_or (is_link x y) o false)
split_bit out x y none None = omega arith
split_bit out x y none (Some edge) = by (eqb_tells x edge.before)
  where
    by : ((eqb x edge.before ≡ true) × (x ≡ edge.before)) ⊎ ((eqb x edge.before ≡ false) × (x ≢ edge.before)) →
        bit (is_unmet out y edge) ≡ bit (is_unmet (out ++ x ∷ []) y edge) + bit (is_link x y edge)
    by (inl p) =
        let e = p.1 in
        let was : is_in out edge.before ≡ false = ap (is_in out) (sym e) ∙ none in
        let now : is_in (out ++ x ∷ []) edge.before ≡ true = ap (is_in (out ++ x ∷ [])) (sym e) ∙ taken_one out x in
        let link : (edge.before == x) ≡ true = eq-eqb _ _ (sym e) in
        ap (λ b. bit ((edge.after == y) && not b)) was ∙ ap bit (and-true _)
        ∙ sym (ap₂ (λ b c. bit ((edge.after == y) && not b) + bit (c && (edge.after == y))) now link
        ∙ ap (λ b. bit b + bit (edge.after == y)) (and-false _) ∙ zero-add _)
    by (inr p) =
        let e = p.1 in
        let same = others_stay out x edge.before e in
        let link : (edge.before == x) ≡ false = grind (arith, e) in
        sym (ap₂ (λ b c. bit ((edge.after == y) && not b) + bit (c && (edge.after == y))) same link ∙ add-zero _)

-- the edges that lead to y from items left are those that do when x is taken too, and those from x
split_count : (edges : List Edge) (out : List ℕ) (x y : ℕ) → is_in out x ≡ false → (k : ℕ) →
    how_many edges (is_unmet out y) k ≡ how_many edges (is_unmet (out ++ x ∷ []) y) k + how_many edges (is_link x y) k
split_count edges out x y none zero = omega arith
split_count edges out x y none (suc k) =
    let before = split_count edges out x y none k in
    let now = split_bit out x y none (slice_get edges k) in
    omega (arith, before, now)

-- x is taken, and all edges from it are counted still
pub took : (edges : List Edge) (count : ℕ) (out counts : List ℕ) (ready heap : List (Reverse ℕ)) (x : ℕ) →
    IsAt edges count 0 0 out counts ready → IsReady count out counts x →
    ((y : ℕ) → occurs y heap + bit (x == y) ≡ occurs y ready) → IsHeap (λ (a b : Reverse ℕ). nat_cmp b.0 a.0) heap →
    IsAt edges count x (last edges x (length edges)) (out ++ x ∷ []) counts heap
took edges count out counts ready heap x s r gone heaped = moved_on edges count x (length edges) (out ++ x ∷ []) counts heap (record {
  items = s.items;
  counts_are = λ y w. s.counts_are y w ∙ add-zero _ ∙ split_count edges out x y r.left (length edges);
  met = met_now;
  ready_are = λ y. ready_now y (eqb_tells x y);
  ordered = heaped;
})
  where
    met_now : (y : ℕ) → is_in (out ++ x ∷ []) y ≡ true → slice_index counts y ≡ 0
    met_now y m = by (or_cases (is_in out y) (x == y) (sym (is_in-last out x y) ∙ m))
      where
        by : (is_in out y ≡ true) ⊎ ((x == y) ≡ true) → slice_index counts y ≡ 0
        by (inl e) = s.met y e
        by (inr e) = ap (slice_index counts) (sym (eqb-true x y e)) ∙ r.none

    ready_now : (y : ℕ) → ((eqb x y ≡ true) × (x ≡ y)) ⊎ ((eqb x y ≡ false) × (x ≢ y)) →
        occurs y heap ≡ bit (is_ready count (out ++ x ∷ []) counts y)
    ready_now y (inl p) =
        let all = gone y in
        let one : bit (x == y) ≡ 1 = ap bit p.0 in
        let before = s.ready_are y in
        let few = bit_le (is_ready count out counts y) in
        let none : occurs y heap ≡ 0 = omega (arith, all, one, before, few) in
        let now : is_in (out ++ x ∷ []) y ≡ true = ap (is_in (out ++ x ∷ [])) (sym p.1) ∙ taken_one out x in
        none ∙ sym (ap (λ b. bit (nat_lt y count && (not b && (slice_index counts y == 0)))) now ∙ ap bit (and-false _))
    ready_now y (inr p) =
        sym (add-zero _) ∙ ap (λ b. occurs y heap + bit b) (sym p.0) ∙ gone y ∙ s.ready_are y
        ∙ ap (λ b. bit (nat_lt y count && (not b && (slice_index counts y == 0)))) (sym (others_stay out x y p.1))

-- the heap gave its least item
pub popped : (x : Reverse ℕ) (ready heap : List (Reverse ℕ)) → IsPermutation ready (x ∷ heap) → (y : ℕ) →
    occurs y heap + bit (x.0 == y) ≡ occurs y ready
popped x ready heap p y = sum_by_popped (λ (r : Reverse ℕ). bit (r.0 == y)) x ready heap p

-- it is ready
pub given_ready : (edges : List Edge) (count : ℕ) (out counts : List ℕ) (x : Reverse ℕ) (ready heap : List (Reverse ℕ)) →
    IsAt edges count 0 0 out counts ready → IsPermutation ready (x ∷ heap) → IsReady count out counts x.0
given_ready edges count out counts x ready heap s p =
    let here = popped x ready heap p x.0 in
    let one : bit (x.0 == x.0) ≡ 1 = ap bit (eq-eqb x.0 x.0 refl) in
    ready_in edges count 0 0 out counts ready s x.0 (omega (arith, here, one))

not_less : (a b : ℕ) → is_lt (nat_cmp a b) ≡ false → b ≤ a
not_less a b h = by (nat_lt a b) refl h
  where
    by : (c : Bool) → nat_lt a b ≡ c → is_lt (cond c Less (cond (a == b) Equal Greater)) ≡ false → b ≤ a
    by true e g = absurd cc
    by false e g = grind (arith, e)

-- a lesser item is not in the heap
pub least_given : (x : Reverse ℕ) (ready : List (Reverse ℕ)) → IsUpperBound (λ (a b : Reverse ℕ). nat_cmp b.0 a.0) x ready →
    (y : ℕ) → y < x.0 → occurs y ready ≡ 0
least_given x [] h y l = refl
least_given x (r ∷ ready) h y l =
    let further = least_given x ready h.1 y l in
    let above = not_less r.0 x.0 h.0 in
    let other : bit (r.0 == y) ≡ 0 = ap bit (let no : (r.0 == y) ≡ false = grind (arith, above, l) in no) in
    sum_by-cons (λ (q : Reverse ℕ). bit (q.0 == y)) r ready ∙ ap₂ (λ a b. a + b) other further

-- as many as there are items were taken, or fewer
pub all_taken : (edges : List Edge) (count : ℕ) (out : List ℕ) → taken edges count ≡ out → length out ≡ count →
    least_order edges count ≡ Some out
all_taken edges count out is all =
    ap (λ xs. if length xs == count then Some xs else None) is ∙ ap (λ b. if b then Some out else None) (eq-eqb _ _ all)

pub not_all_taken : (edges : List Edge) (count : ℕ) (out : List ℕ) → taken edges count ≡ out → length out ≢ count →
    least_order edges count ≡ None
not_all_taken edges count out is few =
    let no : (length out == count) ≡ false = grind (arith, few) in
    ap (λ xs. if length xs == count then Some xs else None) is ∙ ap (λ b. if b then Some out else None) no

-- an empty heap has no item
pub none_in : (ready : List (Reverse ℕ)) → length ready ≡ 0 → (y : ℕ) → occurs y ready ≡ 0
none_in [] h y = refl
none_in (x ∷ xs) h y = absurd (omega (arith, h))
