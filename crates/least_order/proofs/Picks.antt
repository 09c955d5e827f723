-- Taking the least item that is free, seen in the list of those left.
use Rattle.std.proofs.Common.{◌≡◌, ℕ, zero, suc, ◌+◌, ◌<◌, ◌≤◌, List, [], ◌∷◌, ◌++◌, length, slice_get, slice_index, Option, Some, None}
use Rattle.std.proofs.Common.{Bool, true, false, cond, not, ◌==◌, ◌≢◌, ◌⊎◌, eqb, refl, sym, ap, ap₂, ◌∙◌, subst, arith, eq-eqb, eqb-true, inl, inr, append_assoc, add-zero, All}
use Rattle.std.proofs.lemmas.List.{append-nil}
use Rattle.std.proofs.lemmas.Bool.{and_parts, and_from, not-true, not_from_false, both_ways, false_from_ne_true}
use Rattle.std.proofs.lemmas.Bool.Decides.{eqb_tells}
use Rattle.std.proofs.lemmas.Option.{slice_get_within, get_or_from_slice_get}
use Rattle.std.specs.Option.{option_map_or}
use Rattle.std.specs.List.{range_with_len}
use Rattle.std.specs.declared.cmp.Reverse.{Reverse}
use Rattle.effect_order.specs.Greedy.{behind, then_rest, pick_by, grow}
use Rattle.effect_order.specs.Lists.{In, is_held}
use Rattle.effect_order.proofs.Members.{held_by, held_from}
use Rattle.least_order.specs.declared.edge.Edge.{Edge}
use Rattle.least_order.specs.Least.{IsWithin, leads, is_free, taken}
use Rattle.least_order.specs.Taking.{is_in, at_edge, how_many, is_unmet, occurs, IsAt}
use Rattle.least_order.proofs.Counting.{at-some, none_counted, some_counted, leads_by, leads_where, taken_one, others_stay, kept_one}
use Rattle.least_order.proofs.Steps.{IsReady, ready_from, none_ready}

-- so many items from this one on, but for those taken
abbrev pub left_from : (out : List ℕ) (low n : ℕ) → List ℕ
left_from out low zero = []
left_from out low (suc n) = cond (is_in out low) (left_from out (low + 1) n) (low ∷ left_from out (low + 1) n)

pub all_left : (low n : ℕ) → left_from [] low n ≡ range_with_len low n
all_left low zero = refl
all_left low (suc n) = ap (λ xs. low ∷ xs) (all_left (low + 1) n)

left_same : (out more : List ℕ) (low n : ℕ) → ((y : ℕ) → low ≤ y → is_in more y ≡ is_in out y) →
    left_from more low n ≡ left_from out low n
left_same out more low zero h = refl
left_same out more low (suc n) h =
    ap₂ (λ b xs. cond b xs (low ∷ xs)) (h low (omega arith)) (left_same out more (low + 1) n (λ y l. h y (omega (arith, l))))

-- a member of those left
pub left_is : (out : List ℕ) (low n a : ℕ) → In a (left_from out low n) → (is_in out a ≡ false) × (a < low + n)
left_is out low zero a i = absurd i
left_is out low (suc n) a i = by (is_in out low) refl (λ j. left_is out (low + 1) n a j) i
  where
    by : (b : Bool) → is_in out low ≡ b → (In a (left_from out (low + 1) n) → (is_in out a ≡ false) × (a < low + 1 + n)) →
        In a (cond b (left_from out (low + 1) n) (low ∷ left_from out (low + 1) n)) → (is_in out a ≡ false) × (a < low + suc n)
    by true e further j = let p = further j in let w = p.1 in (p.0, omega (arith, w))
    by false e further (inl q) = (ap (is_in out) q ∙ e, omega (arith, q))
    by false e further (inr j) = let p = further j in let w = p.1 in (p.0, omega (arith, w))

pub left_has : (out : List ℕ) (low n a : ℕ) → low ≤ a → a < low + n → is_in out a ≡ false → In a (left_from out low n)
left_has out low zero a l w e = absurd (omega (arith, l, w))
left_has out low (suc n) a l w e =
    by (is_in out low) refl (eqb_tells a low) (λ m. left_has out (low + 1) n a m (omega (arith, w)) e)
  where
    by : (b : Bool) → is_in out low ≡ b → ((eqb a low ≡ true) × (a ≡ low)) ⊎ ((eqb a low ≡ false) × (a ≢ low)) →
        (low + 1 ≤ a → In a (left_from out (low + 1) n)) →
        In a (cond b (left_from out (low + 1) n) (low ∷ left_from out (low + 1) n))
    by true q (inl p) further = absurd (both_ways (is_in out a) e (ap (is_in out) p.1 ∙ q))
    by true q (inr p) further = further (let ne = p.1 in omega (arith, l, ne))
    by false q (inl p) further = inl p.1
    by false q (inr p) further = inr (further (let ne = p.1 in omega (arith, l, ne)))

module _ (test : ℕ → Bool) (out : List ℕ) (x : ℕ) (left : is_in out x ≡ false) (passes : test x ≡ true)
    (least : (y : ℕ) → y < x → is_in out y ≡ false → test y ≡ false) where
  -- the least one that passes is picked
  pub least_picked : (low n : ℕ) → low ≤ x → x < low + n →
      pick_by test (left_from out low n) ≡ Some (x, left_from (out ++ x ∷ []) low n)
  least_picked low zero l w = absurd (omega (arith, l, w))
  least_picked low (suc n) l w =
      by (is_in out low) refl (eqb_tells x low) (λ m. least_picked (low + 1) n m (omega (arith, w)))
    where
      same_above : left_from (out ++ x ∷ []) (x + 1) n ≡ left_from out (x + 1) n
      same_above = left_same out (out ++ x ∷ []) (x + 1) n (λ y m. others_stay out x y (λ e. absurd (omega (arith, m, e))))

      now : pick_by test (x ∷ left_from out (x + 1) n) ≡ Some (x, left_from (out ++ x ∷ []) x (suc n))
      now =
          ap (λ b. cond b (Some (x, left_from out (x + 1) n)) (behind x (pick_by test (left_from out (x + 1) n)))) passes
          ∙ ap (λ xs. Some (x, xs))
          (sym (ap (λ b. cond b (left_from (out ++ x ∷ []) (x + 1) n) (x ∷ left_from (out ++ x ∷ []) (x + 1) n)) (taken_one out x)
          ∙ same_above))

      by : (b : Bool) → is_in out low ≡ b → ((eqb x low ≡ true) × (x ≡ low)) ⊎ ((eqb x low ≡ false) × (x ≢ low)) →
          (low + 1 ≤ x → pick_by test (left_from out (low + 1) n) ≡ Some (x, left_from (out ++ x ∷ []) (low + 1) n)) →
          pick_by test (cond b (left_from out (low + 1) n) (low ∷ left_from out (low + 1) n))
          ≡ Some (x, left_from (out ++ x ∷ []) low (suc n))
      by true q (inl p) further = absurd (both_ways (is_in out x) left (ap (is_in out) p.1 ∙ q))
      by false q (inl p) further =
          subst (λ z. pick_by test (z ∷ left_from out (z + 1) n) ≡ Some (x, left_from (out ++ x ∷ []) z (suc n))) p.1 now
      by true q (inr p) further =
          further (let ne = p.1 in omega (arith, l, ne))
          ∙ ap (λ xs. Some (x, xs))
          (sym (ap (λ b. cond b (left_from (out ++ x ∷ []) (low + 1) n) (low ∷ left_from (out ++ x ∷ []) (low + 1) n)) (kept_one out x low q)))
      by false q (inr p) further =
          let ne = p.1 in
          let fails = least low (omega (arith, l, ne)) q in
          ap (λ b. cond b (Some (low, left_from out (low + 1) n)) (behind low (pick_by test (left_from out (low + 1) n)))) fails
          ∙ ap (behind low) (further (omega (arith, l, ne)))
          ∙ ap (λ xs. Some (x, xs))
          (sym (ap (λ b. cond b (left_from (out ++ x ∷ []) (low + 1) n) (low ∷ left_from (out ++ x ∷ []) (low + 1) n))
          (others_stay out x low ne ∙ q)))

pub picked_length : (test : ℕ → Bool) (xs : List ℕ) (x : ℕ) (rest : List ℕ) → pick_by test xs ≡ Some (x, rest) →
    length xs ≡ suc (length rest)
picked_length test [] x rest e = absurd cc
picked_length test (y ∷ ys) x rest e = by (test y) (pick_by test ys) refl (λ z others. picked_length test ys z others) e
  where
    by : (b : Bool) (o : Option (ℕ × List ℕ)) → pick_by test ys ≡ o →
        ((z : ℕ) (others : List ℕ) → pick_by test ys ≡ Some (z, others) → length ys ≡ suc (length others)) →
        cond b (Some (y, ys)) (behind y o) ≡ Some (x, rest) → suc (length ys) ≡ suc (length rest)
    by true o q further h =
        let same : (y, ys) ≡ (x, rest) = cc in ap (λ (r : ℕ × List ℕ). suc (length r.1)) same
    by false None q further h = absurd cc
    by false (Some p) q further h =
        let same : (p.0, y ∷ p.1) ≡ (x, rest) = cc in
        ap suc (further p.0 p.1 q ∙ ap (λ (r : ℕ × List ℕ). length r.1) same)

-- one more is taken, so fewer are left
pub left_fewer : (out : List ℕ) (x low n : ℕ) → is_in out x ≡ false → low ≤ x → x < low + n →
    length (left_from out low n) ≡ suc (length (left_from (out ++ x ∷ []) low n))
left_fewer out x low n left l w =
    picked_length _ _ x _ (least_picked (λ y. eqb y x) out x left (eq-eqb x x refl) (λ y m e. by y m (eqb_tells y x)) low n l w)
  where
    by : (y : ℕ) → y < x → ((eqb y x ≡ true) × (y ≡ x)) ⊎ ((eqb y x ≡ false) × (y ≢ x)) → eqb y x ≡ false
    by y m (inl p) = let e = p.1 in absurd (omega (arith, m, e))
    by y m (inr p) = p.0

pub none_picked : (test : ℕ → Bool) (xs : List ℕ) → ((y : ℕ) → In y xs → test y ≡ false) → pick_by test xs ≡ None
none_picked test [] h = refl
none_picked test (x ∷ xs) h =
    ap (λ b. cond b (Some (x, xs)) (behind x (pick_by test xs))) (h x (inl refl))
    ∙ ap (behind x) (none_picked test xs (λ y i. h y (inr i)))

at-none : (edges : List Edge) (test : Edge → Bool) (k : ℕ) → slice_get edges k ≡ None → at_edge edges test k ≡ false
at-none edges test k e = ap (λ o. option_map_or test o false) e

range_length : (low n : ℕ) → length (range_with_len low n) ≡ n
range_length low zero = refl
range_length low (suc n) = ap suc (range_length (low + 1) n)

-- these items are taken first, in this order, and then those that follow when the others are left
abbrev pub IsSoFar : List Edge → (count : ℕ) → List ℕ → Type 0
IsSoFar edges count out =
    (past : List ℕ) × (taken edges count
    ≡ out ++ grow (is_free edges) (length (left_from out 0 count)) past (left_from out 0 count))

module _ (edges : List Edge) (count : ℕ) (within : All (IsWithin count) edges) where
  inside : (k : ℕ) (edge : Edge) → slice_get edges k ≡ Some edge → IsWithin count edge
  inside k edge e =
      subst (IsWithin count) (get_or_from_slice_get edges k edge edge e) (within k edge (slice_get_within edges k edge e))

  -- the item is held by none of those left exactly where no edge leads to it from one of them
  pub free_where : (out : List ℕ) (y : ℕ) → how_many edges (is_unmet out y) (length edges) ≡ 0 →
      is_held (leads edges) y (left_from out 0 count) ≡ false
  free_where out y none = false_from_ne_true _ (λ h. held (held_by (leads edges) y (left_from out 0 count) h))
    where
      held : (a : ℕ) × In a (left_from out 0 count) × (leads edges a y ≡ true) → ⊥
      held p =
          let l = leads_by edges p.0 y p.2 in
          let j = and_parts _ _ l.3 in
          let unmet : is_unmet out y l.1 ≡ true =
          and_from _ _ j.1 (not_from_false _ (ap (is_in out) (eqb-true _ _ j.0) ∙ (left_is out 0 count p.0 p.1).0)) in
          let met = some_counted edges (is_unmet out y) (length edges) l.0 none (slice_get_within edges l.0 l.1 l.2) in
          both_ways _ (sym (at-some edges (is_unmet out y) l.0 l.1 l.2) ∙ met) unmet

  pub none_where : (out : List ℕ) (y : ℕ) → is_held (leads edges) y (left_from out 0 count) ≡ false →
      how_many edges (is_unmet out y) (length edges) ≡ 0
  none_where out y free = none_counted edges (is_unmet out y) (length edges) (λ k l. by k (slice_get edges k) refl)
    where
      met : (k : ℕ) (edge : Edge) → slice_get edges k ≡ Some edge → is_unmet out y edge ≡ true → ⊥
      met k edge e u =
          let p = and_parts (edge.after == y) (not (is_in out edge.before)) u in
          let w = (inside k edge e).before_within in
          let low : 0 ≤ edge.before = omega arith in
          let high : edge.before < 0 + count = omega (arith, w) in
          let here : In edge.before (left_from out 0 count) = left_has out 0 count edge.before low high (not-true _ p.1) in
          both_ways _ free
          (held_from (leads edges) y (left_from out 0 count) edge.before here
          (leads_where edges edge.before y k edge e (and_from _ _ (eq-eqb edge.before edge.before refl) p.0)))

      by : (k : ℕ) (o : Option Edge) → slice_get edges k ≡ o → at_edge edges (is_unmet out y) k ≡ false
      by k None e = at-none edges (is_unmet out y) k e
      by k (Some edge) e = at-some edges (is_unmet out y) k edge e ∙ false_from_ne_true _ (met k edge e)

  pub at_first : IsSoFar edges count []
  at_first = ([], begin)
    where
      begin : taken edges count ≡ grow (is_free edges) (length (left_from [] 0 count)) [] (left_from [] 0 count)
      begin =
          ap (λ n. grow (is_free edges) n [] (range_with_len 0 count)) (sym (range_length 0 count))
          ∙ ap (λ xs. grow (is_free edges) (length xs) [] xs) (sym (all_left 0 count))

  module _ (out counts : List ℕ) (ready : List (Reverse ℕ)) (s : IsAt edges count 0 0 out counts ready) where
    count_is : (y : ℕ) → y < count → slice_index counts y ≡ how_many edges (is_unmet out y) (length edges)
    count_is y w = s.counts_are y w ∙ add-zero _

    -- an item left is free exactly where it is ready
    free_ready : (y : ℕ) → IsReady count out counts y → (not (is_held (leads edges) y (left_from out 0 count))) ≡ true
    free_ready y r = not_from_false _ (free_where out y (sym (count_is y r.within) ∙ r.none))

    not_free : (y : ℕ) → y < count → is_in out y ≡ false → occurs y ready ≡ 0 →
        not (is_held (leads edges) y (left_from out 0 count)) ≡ false
    not_free y w l o = false_from_ne_true _ (λ h.
        both_ways _ (none_ready edges count 0 0 out counts ready s y o)
        (ready_from count out counts y
        (record { within = w; left = l; none = count_is y w ∙ none_where out y (not-true _ h) })))

    -- where the heap is empty all is taken that is ever taken
    pub at_last : IsSoFar edges count out → ((y : ℕ) → occurs y ready ≡ 0) → taken edges count ≡ out
    at_last so none =
        so.1 ∙ ap (λ xs. out ++ xs) (stops (length (left_from out 0 count)) so.0) ∙ append-nil out
      where
        test : ℕ → Bool
        test = is_free edges so.0 (left_from out 0 count)

        nothing : pick_by (is_free edges so.0 (left_from out 0 count)) (left_from out 0 count) ≡ None
        nothing = none_picked (is_free edges so.0 (left_from out 0 count)) (left_from out 0 count) (λ y i.
            let p = left_is out 0 count y i in let w = p.1 in not_free y (omega (arith, w)) p.0 (none y))

        stops : (n : ℕ) (past : List ℕ) → grow (is_free edges) n past (left_from out 0 count) ≡ []
        stops zero past = refl
        stops (suc n) past = ap (then_rest (λ x rest. grow (is_free edges) n (x ∷ past) rest)) nothing

    -- the least one that is ready is taken next
    pub one_more : (x : ℕ) → IsReady count out counts x → ((y : ℕ) → y < x → occurs y ready ≡ 0) → IsSoFar edges count out →
        IsSoFar edges count (out ++ x ∷ [])
    one_more x r least so = (x ∷ so.0, so.1 ∙ ap (λ xs. out ++ xs) grown ∙ sym (append_assoc out (x ∷ []) _))
      where
        picked : pick_by (is_free edges so.0 (left_from out 0 count)) (left_from out 0 count)
            ≡ Some (x, left_from (out ++ x ∷ []) 0 count)
        picked = least_picked (is_free edges so.0 (left_from out 0 count)) out x r.left (free_ready x r)
            (λ y l e. let w = r.within in not_free y (omega (arith, l, w)) e (least y l)) 0 count (omega arith) (let w = r.within in omega (arith, w))

        grown : grow (is_free edges) (length (left_from out 0 count)) so.0 (left_from out 0 count)
            ≡ x ∷ grow (is_free edges) (length (left_from (out ++ x ∷ []) 0 count)) (x ∷ so.0) (left_from (out ++ x ∷ []) 0 count)
        grown =
            ap (λ n. grow (is_free edges) n so.0 (left_from out 0 count)) (picked_length _ (left_from out 0 count) x _ picked)
            ∙ ap (then_rest (λ y rest. grow (is_free edges) (length (left_from (out ++ x ∷ []) 0 count)) (y ∷ so.0) rest)) picked
