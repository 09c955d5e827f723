-- Lanes of a list, lists that begin others, and lists of lanes.
use Rattle.std.proofs.Common.{◌≡◌, ◌≢◌, ℕ, zero, suc, ◌+◌, ◌<◌, ◌≤◌, Bool, true, false, cond, min, ◌==◌, List, [], ◌∷◌, ◌++◌, length, All, sym, refl, true≢false, ap, ◌∙◌, subst, arith, append-nil, append_assoc, length-append, eq-eqb, ne_eqb}
use mathlib.Core.Logic.{dite}
use mathlib.Core.List.{IsPrefix}
use native.Mathlib.Decide.{ℕ_discrete, dec_le}
use Rattle.std.specs.List.{range_with_len}
use Rattle.std.proofs.lemmas.List.Elements.{filter-append}
use Rattle.turn_lock.specs.Words.{of_lane, IsOpen, ClosesLast, mark, times, least_of, least, without}
use Rattle.turn_lock.proofs.Totals.{this_one, not_this}

module _ {E : Type 0} where
  -- a list begins itself
  pub whole : (xs ys : List E) → xs ≡ ys → IsPrefix xs ys
  whole xs ys e = ([], append-nil xs ∙ e)

  -- what begins a list begins a longer one
  pub prefix_more : (xs ys zs : List E) → IsPrefix xs ys → IsPrefix xs (ys ++ zs)
  prefix_more xs ys zs p = (p.0 ++ zs, sym (append_assoc xs p.0 zs) ∙ ap (λ l. l ++ zs) p.1)

  -- of two beginnings of one list, the shorter begins the longer
  pub of_two : (xs ys zs : List E) → IsPrefix xs zs → IsPrefix ys zs → length xs ≤ length ys → IsPrefix xs ys
  of_two [] ys zs p q h = (ys, refl)
  of_two (x ∷ xs) [] zs p q h = absurd (omega arith)
  of_two (x ∷ xs) (y ∷ ys) [] p q h = absurd (let e : length (x ∷ xs ++ p.0) ≡ length {A = E} [] = ap length p.1 in omega arith)
  of_two (x ∷ xs) (y ∷ ys) (z ∷ zs) p q h =
      let r = of_two xs ys zs (p.0, ap tail p.1) (q.0, ap tail q.1) (omega arith) in
      let same : x ≡ y = ap (head_or x) p.1 ∙ sym (ap (head_or x) q.1) in (r.0, λ i. same i ∷ r.1 i) where
        tail : List E → List E
        tail [] = []
        tail (a ∷ rest) = rest

        head_or : E → List E → E
        head_or d [] = d
        head_or d (a ∷ rest) = a

  module _ (lane : E → ℕ) where
    -- the lane of two lists one after the other
    pub of_lane-append : (k : ℕ) (xs ys : List E) → of_lane lane k (xs ++ ys) ≡ of_lane lane k xs ++ of_lane lane k ys
    of_lane-append k xs ys = filter-append (λ e. lane e == k) xs ys

    -- an entry alone, in another lane
    pub of_lane-else : (k : ℕ) (e : E) → lane e ≢ k → of_lane lane k (e ∷ []) ≡ []
    of_lane-else k e ne = ap (λ b. cond b (e ∷ []) []) (ne_eqb (lane e) k ne)

    -- an entry of another lane changes nothing
    pub other_lane : (k : ℕ) (es : List E) (e : E) → lane e ≢ k → of_lane lane k (es ++ e ∷ []) ≡ of_lane lane k es
    other_lane k es e ne = of_lane-append k es (e ∷ []) ∙ (ap (λ l. of_lane lane k es ++ l) (of_lane-else k e ne) ∙ append-nil (of_lane lane k es))

    -- of nothing the front is nothing
    empty_front : (xs ys : List E) → length (xs ++ ys) ≡ 0 → xs ≡ []
    empty_front [] ys e = refl
    empty_front (x ∷ xs) ys e = absurd (omega arith)

    -- between two lists with the same lane, that lane is the same too
    pub between : (k : ℕ) (xs ys zs : List E) → IsPrefix xs ys → IsPrefix ys zs → of_lane lane k xs ≡ of_lane lane k zs → of_lane lane k ys ≡ of_lane lane k zs
    between k xs ys zs p q e =
        let a : of_lane lane k ys ≡ of_lane lane k xs ++ of_lane lane k p.0 = ap (of_lane lane k) (sym p.1) ∙ of_lane-append k xs p.0 in
        let b : of_lane lane k zs ≡ of_lane lane k ys ++ of_lane lane k q.0 = ap (of_lane lane k) (sym q.1) ∙ of_lane-append k ys q.0 in
        let la : length (of_lane lane k ys) ≡ length (of_lane lane k xs) + length (of_lane lane k p.0) = ap length a ∙ length-append (of_lane lane k xs) (of_lane lane k p.0) in
        let lb : length (of_lane lane k zs) ≡ length (of_lane lane k ys) + length (of_lane lane k q.0) = ap length b ∙ length-append (of_lane lane k ys) (of_lane lane k q.0) in
        let le : length (of_lane lane k xs) ≡ length (of_lane lane k zs) = ap length e in
        let none_more : of_lane lane k q.0 ≡ [] = empty_front (of_lane lane k q.0) [] (ap length (append-nil (of_lane lane k q.0)) ∙ omega arith) in
        sym (b ∙ (ap (λ l. of_lane lane k ys ++ l) none_more ∙ append-nil (of_lane lane k ys)))

    module _ (closes : E → Bool) where
      -- an entry and its rest close nothing, where b says whether the entry is of the lane k
      abbrev Opens : ℕ → E → List E → Bool → Type 0
      Opens k x xs b = All (λ e. closes e ≡ false) (cond b (x ∷ of_lane lane k xs) (of_lane lane k xs))

      -- a lane that is open in a list is open in its rest
      open_rest : (k : ℕ) (x : E) (xs : List E) (b : Bool) → Opens k x xs b → IsOpen lane closes k xs
      open_rest k x xs true h = λ j d lt. h (suc j) d (omega arith)
      open_rest k x xs false h = h

      -- an entry of an open lane does not close it
      open_first : (k : ℕ) (x : E) (xs : List E) → lane x ≡ k → IsOpen lane closes k (x ∷ xs) → closes x ≡ false
      open_first k x xs is h = let o : Opens k x xs true = subst (Opens k x xs) (eq-eqb (lane x) k is) h in o 0 x (omega arith)

      -- no test is both
      true_or_false : (b : Bool) → b ≡ true → b ≡ false → ⊥
      true_or_false true t f = true≢false f
      true_or_false false t f = true≢false (sym t)

      -- an entry may be added in a lane that is open
      pub closes_last : (es : List E) (e : E) → ClosesLast lane closes es → IsOpen lane closes (lane e) es → ClosesLast lane closes (es ++ e ∷ [])
      closes_last [] e c o = ((λ _. refl), tt)
      closes_last (x ∷ xs) e c o = (
        (λ t. other_lane (lane x) xs e (λ same. true_or_false (closes x) t (open_first (lane e) x xs (sym same) o)) ∙ c.0 t),
        closes_last xs e c.1 (open_rest (lane e) x xs (lane x == lane e) o),
      )

-- how often a lane stands in two lists one after the other
pub times-append : (k : ℕ) (xs ys : List ℕ) → times k (xs ++ ys) ≡ times k xs + times k ys
times-append k [] ys = omega arith
times-append k (x ∷ xs) ys = let r = times-append k xs ys in omega arith

-- the lane a is taken out of a list that has it
pub times-without : (a k : ℕ) (xs : List ℕ) → 0 < times a xs → times k (without a xs) + mark (a == k) ≡ times k xs
times-without a k [] h = absurd (omega arith)
times-without a k (x ∷ xs) h = dite (ℕ_discrete x a)
    (λ is. let P : Bool → Type 0 = λ b. times k (cond b xs (x ∷ without a xs)) + mark (a == k) ≡ mark (x == k) + times k xs in
    subst P (sym (eq-eqb x a is)) (let e : mark (a == k) ≡ mark (x == k) = ap (λ n. mark (n == k)) (sym is) in omega arith))
    (λ ne. let P : Bool → Type 0 = λ b. times k (cond b xs (x ∷ without a xs)) + mark (a == k) ≡ mark (x == k) + times k xs in
    subst P (sym (ne_eqb x a ne)) (let z = not_this x a ne in let r = times-without a k xs (omega arith) in omega arith))

-- one lane less
pub length-without : (a : ℕ) (xs : List ℕ) → 0 < times a xs → length (without a xs) + 1 ≡ length xs
length-without a [] h = absurd (omega arith)
length-without a (x ∷ xs) h = let P : Bool → Type 0 = λ b. length (cond b xs (x ∷ without a xs)) + 1 ≡ suc (length xs) in dite (ℕ_discrete x a)
    (λ is. subst P (sym (eq-eqb x a is)) (omega arith))
    (λ ne. subst P (sym (ne_eqb x a ne)) (let z = not_this x a ne in let r = length-without a xs (omega arith) in omega arith))

-- a list that has no lane is empty
pub no_lane : (xs : List ℕ) → ((k : ℕ) → times k xs ≡ 0) → length xs ≡ 0
no_lane [] h = refl
no_lane (x ∷ xs) h = absurd (let a = h x in let o = this_one x in omega arith)

-- the least of some lanes is one of them
least_of_there : (x : ℕ) (xs : List ℕ) → 0 < times (least_of x xs) (x ∷ xs)
least_of_there x [] = let o = this_one x in omega arith
least_of_there x (y ∷ ys) = let m : ℕ = least_of (min x y) ys in let r : 0 < times m (min x y ∷ ys) = least_of_there (min x y) ys in dite (dec_le x y)
    (λ le. let e : mark (min x y == m) ≡ mark (x == m) = ap (λ n. mark (n == m)) (omega arith) in omega arith)
    (λ gt. let e : mark (min x y == m) ≡ mark (y == m) = ap (λ n. mark (n == m)) (omega arith) in omega arith)

-- the least lane of a list is in it
pub least_there : (xs : List ℕ) → 0 < length xs → 0 < times (least xs) xs
least_there [] h = absurd (omega arith)
least_there (x ∷ xs) h = least_of_there x xs

-- a lane before a row is not in it
pub times-range-below : (k a n : ℕ) → k < a → times k (range_with_len a n) ≡ 0
times-range-below k a zero h = refl
times-range-below k a (suc n) h = let z = not_this a k (λ e. omega arith) in let r = times-range-below k (a + 1) n (omega arith) in omega arith

-- a lane of a row is in it once
pub times-range-in : (k a n : ℕ) → a ≤ k → k < a + n → times k (range_with_len a n) ≡ 1
times-range-in k a zero g h = absurd (omega arith)
times-range-in k a (suc n) g h = dite (ℕ_discrete a k)
    (λ is. let o : mark (a == k) ≡ 1 = subst (λ j. mark (a == j) ≡ 1) is (this_one a) in let r = times-range-below k (a + 1) n (omega arith) in omega arith)
    (λ ne. let z = not_this a k ne in let r = times-range-in k (a + 1) n (omega arith) (omega arith) in omega arith)

-- a lane behind a row is not in it
pub times-range-past : (k a n : ℕ) → a + n ≤ k → times k (range_with_len a n) ≡ 0
times-range-past k a zero h = refl
times-range-past k a (suc n) h = let z = not_this a k (λ e. omega arith) in let r = times-range-past k (a + 1) n (omega arith) in omega arith

-- of lanes in a row, the first is the least, and the others are left without it
least_of-range : (x b n : ℕ) → x ≤ b → least_of x (range_with_len b n) ≡ x
least_of-range x b zero h = refl
least_of-range x b (suc n) h = let e : min x b ≡ x = omega arith in ap (λ y. least_of y (range_with_len (b + 1) n)) e ∙ least_of-range x (b + 1) n (omega arith)

-- the least of a row is its first
pub least-range : (a n : ℕ) → least (range_with_len a (suc n)) ≡ a
least-range a n = least_of-range a (a + 1) n (omega arith)

-- a row without its first
pub without-range : (a n : ℕ) → without a (range_with_len a (suc n)) ≡ range_with_len (a + 1) n
without-range a n = ap (λ b. cond b (range_with_len (a + 1) n) (a ∷ without a (range_with_len (a + 1) n))) (eq-eqb a a refl)
