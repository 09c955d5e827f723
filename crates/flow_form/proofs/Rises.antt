-- Lists that rise, by recursion, and what stands in the rising list of given members.
use Rattle.std.proofs.Common.{◌≡◌, ◌⊎◌, inl, inr, ⊎_elim, ℕ, zero, suc, ◌<◌, List, [], ◌∷◌, ◌++◌, length, Bool, true, false, ◌&&◌, ◌||◌, ◌==◌, refl, sym, ap, ◌∙◌, subst, arith}
use Rattle.std.specs.Prelude.{if◌then◌else◌, ltb, Contains, map, flat_map}
use Rattle.std.specs.List.{AllByRecursion}
use Rattle.std.proofs.lemmas.Bool.{ltb-true, lt-ltb}
use Rattle.std.proofs.lemmas.Bool.Decides.{nat_tests}
use Rattle.std.proofs.lemmas.List.Elements.{All-from_recursion}
use Rattle.site_graph.specs.declared.flow.Edge.{Edge}
use Rattle.site_graph.specs.Rising.{IsRising, inserted, rising, edge_before}

-- ---- each member, and being a member

abbrev pub Each : {A : Type 0} → (A → Type 0) → List A → Type 0
Each P xs = AllByRecursion P xs

abbrev pub In : {A : Type 0} → A → List A → Type 0
In x [] = ⊥
In x (y ∷ ys) = (y ≡ x) ⊎ In x ys

module _ {A : Type 0} where
  pub each_append : (P : A → Type 0) (xs ys : List A) → Each P xs → Each P ys → Each P (xs ++ ys)
  each_append P [] ys h k = k
  each_append P (x ∷ xs) ys h k = (h.0, each_append P xs ys h.1 k)

  pub each_weaker : (P Q : A → Type 0) (xs : List A) → ((x : A) → P x → Q x) → Each P xs → Each Q xs
  each_weaker P Q [] f h = tt
  each_weaker P Q (x ∷ xs) f h = (f x h.0, each_weaker P Q xs f h.1)

  pub each_of : (P : A → Type 0) (xs : List A) → ((x : A) → In x xs → P x) → Each P xs
  each_of P [] f = tt
  each_of P (x ∷ xs) f = (f x (inl refl), each_of P xs (λ y i. f y (inr i)))

  pub each_at : (P : A → Type 0) (xs : List A) (x : A) → Each P xs → In x xs → P x
  each_at P [] x h i = absurd i
  each_at P (y ∷ ys) x h i = ⊎_elim (λ e. subst P e h.0) (λ j. each_at P ys x h.1 j) i

  pub in_left : (x : A) (xs ys : List A) → In x xs → In x (xs ++ ys)
  in_left x [] ys i = absurd i
  in_left x (y ∷ xs) ys i = ⊎_elim (λ e. inl e) (λ j. inr (in_left x xs ys j)) i

  pub in_right : (x : A) (xs ys : List A) → In x ys → In x (xs ++ ys)
  in_right x [] ys i = i
  in_right x (y ∷ xs) ys i = inr (in_right x xs ys i)

  pub contains_of : (x : A) (xs : List A) → In x xs → Contains xs x
  contains_of x [] i = absurd i
  contains_of x (y ∷ ys) i =
      ⊎_elim (λ e. (0, omega arith, e))
      (λ j. let c = contains_of x ys j in let l = c.1 in (suc c.0, omega arith, c.2)) i

pub each_map : {A B : Type 0} (P : B → Type 0) (f : A → B) (xs : List A) → Each (λ x. P (f x)) xs → Each P (map f xs)
each_map P f [] h = tt
each_map P f (x ∷ xs) h = (h.0, each_map P f xs h.1)

pub each_flat : {A B : Type 0} (P : B → Type 0) (f : A → List B) (xs : List A) → Each (λ x. Each P (f x)) xs → Each P (flat_map f xs)
each_flat P f [] h = tt
each_flat P f (x ∷ xs) h = each_append P (f x) (flat_map f xs) h.0 (each_flat P f xs h.1)

pub in_map : {A B : Type 0} (f : A → B) (x : A) (xs : List A) → In x xs → In (f x) (map f xs)
in_map f x [] i = absurd i
in_map f x (y ∷ ys) i = ⊎_elim (λ e. inl (ap f e)) (λ j. inr (in_map f x ys j)) i

pub in_flat : {A B : Type 0} (f : A → List B) (x : A) (y : B) (xs : List A) → In x xs → In y (f x) → In y (flat_map f xs)
in_flat f x y [] i j = absurd i
in_flat f x y (z ∷ zs) i j =
    ⊎_elim (λ e. in_left y (f z) (flat_map f zs) (subst (λ a. In y (f a)) (sym e) j))
    (λ k. in_right y (f z) (flat_map f zs) (in_flat f x y zs k j)) i

-- ---- rising

by_if : {X : Type 0} (P : List X → Type 0) (b : Bool) (xs ys : List X) → (b ≡ true → P xs) → (b ≡ false → P ys)
    → P (if b then xs else ys)
by_if P true xs ys f g = f refl
by_if P false xs ys f g = g refl

module _ {X : Type 0} (before : X → X → Bool) where
  abbrev pub Rises : List X → Type 0
  Rises [] = Unit {0}
  Rises (x ∷ xs) = Each (λ y. before x y ≡ true) xs × Rises xs

  pub is_rising : (xs : List X) → Rises xs → IsRising before xs
  is_rising [] h i j d lt within = absurd (omega arith)
  is_rising (x ∷ xs) h i zero d lt within = absurd (omega arith)
  is_rising (x ∷ xs) h zero (suc j) d lt within =
      let less : j < length xs = omega arith in All-from_recursion (λ y. before x y ≡ true) xs h.0 j d less
  is_rising (x ∷ xs) h (suc i) (suc j) d lt within = is_rising xs h.1 i j d (omega arith) (omega arith)

  pub each_inserted : (P : X → Type 0) (x : X) (ys : List X) → P x → Each P ys → Each P (inserted before x ys)
  each_inserted P x [] p h = (p, tt)
  each_inserted P x (y ∷ ys) p h =
      by_if (Each P) (before x y) (x ∷ y ∷ ys) _ (λ e. (p, h))
      (λ e. by_if (Each P) (before y x) (y ∷ inserted before x ys) (y ∷ ys)
      (λ e. (h.0, each_inserted P x ys p h.1)) (λ e. h))

  pub each_rising : (P : X → Type 0) (xs : List X) → Each P xs → Each P (rising before xs)
  each_rising P [] h = tt
  each_rising P (x ∷ xs) h = each_inserted P x (rising before xs) h.0 (each_rising P xs h.1)

  module _ (follows : (x y z : X) → before x y ≡ true → before y z ≡ true → before x z ≡ true) where
    rises_inserted : (x : X) (ys : List X) → Rises ys → Rises (inserted before x ys)
    rises_inserted x [] h = (tt, tt)
    rises_inserted x (y ∷ ys) h =
        by_if Rises (before x y) (x ∷ y ∷ ys) _
        (λ e. ((e, each_weaker (λ z. before y z ≡ true) (λ z. before x z ≡ true) ys (λ z l. follows x y z e l) h.0), h))
        (λ n. by_if Rises (before y x) (y ∷ inserted before x ys) (y ∷ ys)
        (λ e. (each_inserted (λ z. before y z ≡ true) x ys e h.0, rises_inserted x ys h.1)) (λ e. h))

    pub rises_rising : (xs : List X) → Rises (rising before xs)
    rises_rising [] = tt
    rises_rising (x ∷ xs) = rises_inserted x (rising before xs) (rises_rising xs)

  module _ (same : (x y : X) → before x y ≡ false → before y x ≡ false → x ≡ y) where
    own_inserted : (x : X) (ys : List X) → In x (inserted before x ys)
    own_inserted x [] = inl refl
    own_inserted x (y ∷ ys) =
        by_if (In x) (before x y) (x ∷ y ∷ ys) _ (λ e. inl refl)
        (λ n. by_if (In x) (before y x) (y ∷ inserted before x ys) (y ∷ ys)
        (λ e. inr (own_inserted x ys)) (λ m. inl (sym (same x y n m))))

    other_inserted : (x z : X) (ys : List X) → In z ys → In z (inserted before x ys)
    other_inserted x z [] i = absurd i
    other_inserted x z (y ∷ ys) i =
        by_if (In z) (before x y) (x ∷ y ∷ ys) _ (λ e. inr i)
        (λ n. by_if (In z) (before y x) (y ∷ inserted before x ys) (y ∷ ys)
        (λ e. ⊎_elim (λ s. inl s) (λ j. inr (other_inserted x z ys j)) i) (λ m. i))

    pub in_rising : (z : X) (xs : List X) → In z xs → In z (rising before xs)
    in_rising z [] i = absurd i
    in_rising z (x ∷ xs) i =
        ⊎_elim (λ e. subst (λ y. In y (inserted before x (rising before xs))) e (own_inserted x (rising before xs)))
        (λ j. other_inserted x z (rising before xs) (in_rising z xs j)) i

-- ---- numbers, and edges

pub numbers_follow : (x y z : ℕ) → ltb x y ≡ true → ltb y z ≡ true → ltb x z ≡ true
numbers_follow x y z h k =
    let a = ltb-true x y h in
    let b = ltb-true y z k in
    let c : x < z = omega arith in lt-ltb x z c

pub numbers_same : (x y : ℕ) → ltb x y ≡ false → ltb y x ≡ false → x ≡ y
numbers_same x y h k = grind (arith, nat_tests)

pair_follows : (a b c d e f : ℕ) → (ltb a c || ((a == c) && ltb b d)) ≡ true → (ltb c e || ((c == e) && ltb d f)) ≡ true
    → (ltb a e || ((a == e) && ltb b f)) ≡ true
pair_follows a b c d e f h k = grind (arith, nat_tests)

pair_same : (a b c d : ℕ) → (ltb a c || ((a == c) && ltb b d)) ≡ false → (ltb c a || ((c == a) && ltb d b)) ≡ false
    → (a ≡ c) × (b ≡ d)
pair_same a b c d h k = (grind (arith, nat_tests), grind (arith, nat_tests))

pub edges_follow : (x y z : Edge) → edge_before x y ≡ true → edge_before y z ≡ true → edge_before x z ≡ true
edges_follow x y z h k = pair_follows x.from x.to y.from y.to z.from z.to h k

pub edges_same : (x y : Edge) → edge_before x y ≡ false → edge_before y x ≡ false → x ≡ y
edges_same x y h k = let e = pair_same x.from x.to y.from y.to h k in
    ap (λ n. record { from = n; to = x.to }) e.0 ∙ ap (λ n. record { from = y.from; to = n }) e.1
