-- A list that is sorted and rid of repeats is the rising list of the members.
use Rattle.std.proofs.Common.{◌≡◌, ◌⊎◌, inl, inr, ⊎_elim, ℕ, zero, suc, ◌+◌, ◌<◌, ◌≤◌, List, [], ◌∷◌, ◌++◌, length, get_or, Bool, true, false, cond, ◌&&◌, ◌||◌, ◌==◌, refl, sym, ap, ◌∙◌, subst, arith}
use Rattle.std.specs.Prelude.{ltb, Contains}
use Rattle.std.specs.List.{dedup}
use Rattle.std.specs.List.Sorted.{IsSortedBy, IsPermutation}
use Rattle.std.specs.Ordering.{nat_cmp, is_lt, ordering_then}
use Rattle.std.specs.Cmp.{IsStrictWeakOrder}
use Rattle.std.proofs.lemmas.Bool.Decides.{nat_tests}
use Rattle.std.proofs.lemmas.List.Sorted.{Contains-permutation, IsPermutation-sym, sorted_far}
use Rattle.std.proofs.lemmas.List.Elements.{recursion_from_All}
use Rattle.site_graph.specs.declared.flow.Edge.{Edge}
use Rattle.site_graph.specs.Rising.{rising, edge_before}
use Rattle.flow_form.proofs.Rises.{Each, each_weaker, each_of, each_at, In, contains_of, Rises, rises_rising, in_rising, each_rising, numbers_follow, numbers_same, edges_follow, edges_same}

pub in_of : {A : Type 0} (x : A) (xs : List A) → Contains xs x → In x xs
in_of x [] c = let l = c.1 in absurd (omega arith)
in_of x (y ∷ ys) (zero, l, e) = inl e
in_of x (y ∷ ys) (suc k, l, e) = inr (in_of x ys (k, omega arith, e))

by_cond : {X : Type 0} (P : List X → Type 0) (b : Bool) (xs ys : List X) → (b ≡ true → P xs) → (b ≡ false → P ys) → P (cond b xs ys)
by_cond P true xs ys f g = f refl
by_cond P false xs ys f g = g refl

by_bool : (A : Type 0) (b : Bool) → (b ≡ true → A) → (b ≡ false → A) → A
by_bool A true f g = f refl
by_bool A false f g = g refl

module _ {X : Type 0} (before : X → X → Bool)
    (follows : (x y z : X) → before x y ≡ true → before y z ≡ true → before x z ≡ true)
    (same : (x y : X) → before x y ≡ false → before y x ≡ false → x ≡ y)
    (none : (x : X) → before x x ≡ false) where
  -- two rising lists of the same members are equal
  rises_same : (xs ys : List X) → Rises before xs → Rises before ys → ((z : X) → In z xs → In z ys) → ((z : X) → In z ys → In z xs)
      → xs ≡ ys
  rises_same [] [] h k f g = refl
  rises_same [] (y ∷ ys) h k f g = absurd (g y (inl refl))
  rises_same (x ∷ xs) [] h k f g = absurd (f x (inl refl))
  rises_same (x ∷ xs) (y ∷ ys) h k f g =
      let heads : y ≡ x = first (f x (inl refl)) (g y (inl refl)) in
      ap (λ z. z ∷ xs) (sym heads) ∙ ap (λ zs. y ∷ zs) (rises_same xs ys h.1 k.1 (tail heads) (tail_back heads))
    where
      first : In x (y ∷ ys) → In y (x ∷ xs) → y ≡ x
      first i j =
          ⊎_elim (λ e. e)
          (λ later. ⊎_elim (λ e. sym e)
          (λ later'. let a = each_at (λ z. before y z ≡ true) ys x k.0 later in
          let b = each_at (λ z. before x z ≡ true) xs y h.0 later' in
          let c = follows x y x b a in
          let d = none x in absurd cc) j) i

      tail : y ≡ x → (z : X) → In z xs → In z ys
      tail e z i =
          ⊎_elim (λ is. let a = each_at (λ v. before x v ≡ true) xs z h.0 i in
          let b : before x x ≡ true = subst (λ v. before x v ≡ true) (sym is ∙ e) a in
          let d = none x in absurd cc) (λ j. j) (f z (inr i))

      tail_back : y ≡ x → (z : X) → In z ys → In z xs
      tail_back e z i =
          ⊎_elim (λ is. let a = each_at (λ v. before y v ≡ true) ys z k.0 i in
          let b : before y y ≡ true = subst (λ v. before y v ≡ true) (sym is ∙ sym e) a in
          let d = none y in absurd cc) (λ j. j) (g z (inr i))

  from_rising : (z : X) (xs : List X) → In z (rising before xs) → In z xs
  from_rising z xs i =
      each_at (λ v. In v xs) (rising before xs) z (each_rising before (λ v. In v xs) xs (each_of (λ v. In v xs) xs (λ v j. j))) i

  pub rising_is : (xs zs : List X) → Rises before zs → ((z : X) → In z zs → In z xs) → ((z : X) → In z xs → In z zs)
      → zs ≡ rising before xs
  rising_is xs zs h f g =
      rises_same zs (rising before xs) h (rises_rising before follows xs) (λ z i. in_rising before same z xs (f z i))
      (λ z i. g z (from_rising z xs i))

  -- ---- without repeats

  module _ (E : X → X → Bool) (ties : (x y : X) → E x y ≡ true → x ≡ y) (itself : (x : X) → E x x ≡ true) where
    abbrev Far : List X → Type 0
    Far [] = Unit {0}
    Far (x ∷ xs) = Each (λ y. before y x ≡ false) xs × Far xs

    ahead : (k x : X) → E x k ≡ false → before x k ≡ false → before k x ≡ true
    ahead k x differ not = by_bool (before k x ≡ true) (before k x) (λ e. e)
        (λ e. let is : x ≡ k = same x k not e in
        let t : E x k ≡ true = subst (λ v. E x v ≡ true) is (itself x) in absurd cc)

    later : (k x y : X) → before k x ≡ true → before y x ≡ false → before k y ≡ true
    later k x y h not = by_bool (before k y ≡ true) (before x y) (λ e. follows k x y h e)
        (λ e. subst (λ v. before k v ≡ true) (same x y e not) h)

    rises_from : (k : X) (xs : List X) → Far (k ∷ xs)
        → Rises before (dedup E (k ∷ xs)) × Each (λ y. before y k ≡ false) (dedup E (k ∷ xs))
    rises_from k [] h = ((tt, tt), (none k, tt))
    rises_from k (x ∷ xs) h =
        by_cond (λ zs. Rises before zs × Each (λ y. before y k ≡ false) zs) (E x k) (dedup E (k ∷ xs)) (k ∷ dedup E (x ∷ xs))
        (λ e. rises_from k xs (h.0.1, h.1.1))
        (λ e. let r = rises_from x xs h.1 in
        let up = ahead k x e h.0.0 in (
          (each_weaker (λ y. before y x ≡ false) (λ y. before k y ≡ true) (dedup E (x ∷ xs)) (λ y not. later k x y up not) r.1, r.0),
          (none k, each_weaker (λ y. before y x ≡ false) (λ y. before y k ≡ false) (dedup E (x ∷ xs)) (λ y not. not_back k x y up not) r.1),
        ))
      where
        not_back : (k x y : X) → before k x ≡ true → before y x ≡ false → before y k ≡ false
        not_back k x y up not = by_bool (before y k ≡ false) (before y k) (λ e. let t = follows y k x e up in absurd cc) (λ e. e)

    rises_dedup : (xs : List X) → Far xs → Rises before (dedup E xs)
    rises_dedup [] h = tt
    rises_dedup (x ∷ xs) h = (rises_from x xs h).0

    kept_from : (z k : X) (xs : List X) → In z (k ∷ xs) → In z (dedup E (k ∷ xs))
    kept_from z k [] i = i
    kept_from z k (x ∷ xs) i =
        by_cond (In z) (E x k) (dedup E (k ∷ xs)) (k ∷ dedup E (x ∷ xs))
        (λ e. kept_from z k xs (⊎_elim (λ is. inl is)
        (λ j. ⊎_elim (λ is. inl (sym (ties x k e) ∙ is)) (λ l. inr l) j) i))
        (λ e. ⊎_elim (λ is. inl is) (λ j. inr (kept_from z x xs j)) i)

    kept : (z : X) (xs : List X) → In z xs → In z (dedup E xs)
    kept z [] i = i
    kept z (x ∷ xs) i = kept_from z x xs i

    only_from : (z k : X) (xs : List X) → In z (dedup E (k ∷ xs)) → In z (k ∷ xs)
    only_from z k [] i = i
    only_from z k (x ∷ xs) i =
        by_cond (λ zs. In z zs → In z (k ∷ x ∷ xs)) (E x k) (dedup E (k ∷ xs)) (k ∷ dedup E (x ∷ xs))
        (λ e i. ⊎_elim (λ is. inl is) (λ l. inr (inr l)) (only_from z k xs i))
        (λ e i. ⊎_elim (λ is. inl is) (λ l. inr (only_from z x xs l)) i) i

    only : (z : X) (xs : List X) → In z (dedup E xs) → In z xs
    only z [] i = i
    only z (x ∷ xs) i = only_from z x xs i

    order : IsStrictWeakOrder before
    order = record {
      one_way = λ x y h. by_bool (before y x ≡ false) (before y x) (λ e. let t = follows x y x h e in let n = none x in absurd cc) (λ e. e);
      chain = λ x y z h k. by_bool (before x z ≡ false) (before x z)
          (λ e. by_bool (before x z ≡ false) (before y x)
          (λ up. let t = follows y x z up e in absurd cc)
          (λ not. let is : x ≡ y = same x y h not in
          let t : before y z ≡ true = subst (λ v. before v z ≡ true) is e in absurd cc)) (λ e. e);
    }

    far_of : (xs : List X) → IsSortedBy before xs → Far xs
    far_of xs sorted = by_all xs (λ i j d le lt. sorted_far before order xs sorted i j d le lt)
      where
        by_all : (xs : List X) → ((i j : ℕ) (d : X) → i ≤ j → j < length xs → before (get_or xs j d) (get_or xs i d) ≡ false) → Far xs
        by_all [] h = tt
        by_all (x ∷ xs) h = (
          recursion_from_All (λ y. before y x ≡ false) xs (λ k d lt. h 0 (suc k) d (omega arith) (omega arith)),
          by_all xs (λ i j d le lt. h (suc i) (suc j) d (omega arith) (omega arith)),
        )

    pub deduped : (xs ys : List X) → IsPermutation xs ys → IsSortedBy before ys → dedup E ys ≡ rising before xs
    deduped xs ys moved sorted =
        rising_is xs (dedup E ys) (rises_dedup ys (far_of ys sorted))
        (λ z i. in_of z xs (Contains-permutation ys xs z (IsPermutation-sym xs ys moved) (contains_of z ys (only z ys i))))
        (λ z i. kept z ys (in_of z ys (Contains-permutation xs ys z moved (contains_of z xs i))))

-- ---- numbers, and edges

pub number_none : (x : ℕ) → ltb x x ≡ false
number_none x = grind (arith, nat_tests)

pub number_ties : (x y : ℕ) → (x == y) ≡ true → x ≡ y
number_ties x y h = grind (arith, nat_tests)

pub number_itself : (x : ℕ) → (x == x) ≡ true
number_itself x = grind (arith, nat_tests)

pub edge_none : (x : Edge) → edge_before x x ≡ false
edge_none x = pair_none x.from x.to
  where
    pair_none : (a b : ℕ) → (ltb a a || ((a == a) && ltb b b)) ≡ false
    pair_none a b = grind (arith, nat_tests)

-- a sort's test, in another form
pub sorted_as : {X : Type 0} (lt before : X → X → Bool) → ((x y : X) → lt x y ≡ before x y) → (xs : List X) → IsSortedBy lt xs
    → IsSortedBy before xs
sorted_as lt before e xs h = λ k d low within. sym (e _ _) ∙ h k d low within

pub number_test : (x y : ℕ) → is_lt (nat_cmp x y) ≡ ltb x y
number_test x y = grind (arith, nat_tests)

pair_test : (a b c d : ℕ) → is_lt (ordering_then (nat_cmp a c) (nat_cmp b d)) ≡ (ltb a c || ((a == c) && ltb b d))
pair_test a b c d = grind (arith, nat_tests)

pub edge_test : (x y : Edge) → is_lt (ordering_then (nat_cmp x.from y.from) (nat_cmp x.to y.to)) ≡ edge_before x y
edge_test x y = pair_test x.from x.to y.from y.to

pair_ties : (a b c d : ℕ) → ((a == c) && (b == d)) ≡ true → (a ≡ c) × (b ≡ d)
pair_ties a b c d h = (grind (arith, nat_tests), grind (arith, nat_tests))

pub edge_ties : (x y : Edge) → ((x.from == y.from) && (x.to == y.to)) ≡ true → x ≡ y
edge_ties x y h = let e = pair_ties x.from x.to y.from y.to h in
    ap (λ n. record { from = n; to = x.to }) e.0 ∙ ap (λ n. record { from = y.from; to = n }) e.1

pair_itself : (a b : ℕ) → ((a == a) && (b == b)) ≡ true
pair_itself a b = grind (arith, nat_tests)

pub edge_itself : (x : Edge) → ((x.from == x.from) && (x.to == x.to)) ≡ true
edge_itself x = pair_itself x.from x.to
