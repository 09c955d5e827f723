-- Elements of lists that grow or change in one place, and what is counted of them.
use Rattle.std.proofs.Common.{◌≡◌, ◌⊎◌, inl, inr, ⊎_elim, ℕ, zero, suc, ◌+◌, ◌<◌, ◌≤◌, List, [], ◌∷◌, ◌++◌, length, Option, Some, None, Bool, true, false, refl, ap, ◌∙◌, arith, slice_get, slice_set, is_none, replicate}
use Rattle.std.specs.Option.{option_and_then}
use Rattle.replay_books.specs.Counts.{one_if, how_many, AllBelow}

pub get_same : {A : Type 0} (xs : List A) (i : ℕ) (v : A) → i < length xs → slice_get (slice_set xs i v) i ≡ Some v
get_same [] i v h = absurd (omega arith)
get_same (x ∷ xs) zero v h = refl
get_same (x ∷ xs) (suc i) v h = get_same xs i v (omega arith)

pub get_other : {A : Type 0} (xs : List A) (i j : ℕ) (v : A) → (i ≡ j → ⊥) → slice_get (slice_set xs i v) j ≡ slice_get xs j
get_other [] i j v ne = refl
get_other (x ∷ xs) zero zero v ne = absurd (ne refl)
get_other (x ∷ xs) zero (suc j) v ne = refl
get_other (x ∷ xs) (suc i) zero v ne = refl
get_other (x ∷ xs) (suc i) (suc j) v ne = get_other xs i j v (λ e. ne (ap suc e))

pub get_front : {A : Type 0} (xs ys : List A) (k : ℕ) → k < length xs → slice_get (xs ++ ys) k ≡ slice_get xs k
get_front [] ys k h = absurd (omega arith)
get_front (x ∷ xs) ys zero h = refl
get_front (x ∷ xs) ys (suc k) h = get_front xs ys k (omega arith)

pub get_end : {A : Type 0} (xs : List A) (y : A) → slice_get (xs ++ y ∷ []) (length xs) ≡ Some y
get_end [] y = refl
get_end (x ∷ xs) y = get_end xs y

-- an element of the longer list is one of the list, or the last
pub of_longer : {A : Type 0} (xs : List A) (y : A) (k : ℕ) (x : A) → slice_get (xs ++ y ∷ []) k ≡ Some x
    → ((k < length xs) × (slice_get xs k ≡ Some x)) ⊎ ((k ≡ length xs) × (y ≡ x))
of_longer [] y zero x e = inr (refl, cc)
of_longer [] y (suc k) x e = absurd cc
of_longer (a ∷ xs) y zero x e = inl (omega arith, e)
of_longer (a ∷ xs) y (suc k) x e =
    ⊎_elim (λ p. inl ((let lt = p.0 in omega arith), p.1)) (λ p. inr ((let g = p.0 in ap suc g), p.1)) (of_longer xs y k x e)

-- an element of the changed list is the new one, or one of the list
pub of_changed : {A : Type 0} (xs : List A) (i : ℕ) (v : A) (k : ℕ) (x : A) → slice_get (slice_set xs i v) k ≡ Some x
    → ((k ≡ i) × (v ≡ x)) ⊎ ((k ≡ i → ⊥) × (slice_get xs k ≡ Some x))
of_changed [] i v k x e = absurd cc
of_changed (a ∷ xs) zero v zero x e = inl (refl, cc)
of_changed (a ∷ xs) zero v (suc k) x e = inr ((λ f. omega arith), e)
of_changed (a ∷ xs) (suc i) v zero x e = inr ((λ f. omega arith), e)
of_changed (a ∷ xs) (suc i) v (suc k) x e =
    ⊎_elim (λ p. inl (ap suc p.0, p.1)) (λ p. inr ((λ f. p.0 (let g : suc k ≡ suc i = f in omega arith)), p.1)) (of_changed xs i v k x e)

pub below_more : (n x : ℕ) (xs : List ℕ) → AllBelow n xs → x ≡ n → AllBelow (n + 1) (xs ++ x ∷ [])
below_more n x [] h e = (omega arith, tt)
below_more n x (y ∷ xs) h e = (let lt = h.0 in omega arith, below_more n x xs h.1 e)

pub below_wider : (n m : ℕ) (xs : List ℕ) → n ≤ m → AllBelow n xs → AllBelow m xs
below_wider n m [] le h = tt
below_wider n m (y ∷ xs) le h = (let lt = h.0 in omega arith, below_wider n m xs le h.1)

-- ---- counts

pub count_more : {A : Type 0} (p : A → Bool) (xs : List A) (y : A) → how_many p (xs ++ y ∷ []) ≡ how_many p xs + one_if (p y)
count_more p [] y = alone (one_if (p y))
  where
    alone : (n : ℕ) → n + 0 ≡ 0 + n
    alone n = omega arith
count_more p (x ∷ xs) y = ap (λ n. one_if (p x) + n) (count_more p xs y) ∙ joined (one_if (p x)) (how_many p xs) (one_if (p y))
  where
    joined : (a b c : ℕ) → a + (b + c) ≡ a + b + c
    joined a b c = omega arith

pub count_set : {A : Type 0} (p : A → Bool) (xs : List A) (i : ℕ) (x y : A) → slice_get xs i ≡ Some x
    → how_many p (slice_set xs i y) + one_if (p x) ≡ how_many p xs + one_if (p y)
count_set p [] i x y e = absurd cc
count_set p (a ∷ xs) zero x y e =
    let g : one_if (p a) ≡ one_if (p x) = ap (λ z. one_if (p z)) (let h : a ≡ x = cc in h) in
    swap (one_if (p y)) (one_if (p a)) (one_if (p x)) (how_many p xs) g
  where
    swap : (m n l k : ℕ) → n ≡ l → m + k + l ≡ n + k + m
    swap m n l k e = omega arith
count_set p (a ∷ xs) (suc i) x y e =
    under (one_if (p a)) (how_many p (slice_set xs i y)) (one_if (p x)) (how_many p xs) (one_if (p y)) (count_set p xs i x y e)
  where
    under : (a s x c y : ℕ) → s + x ≡ c + y → a + s + x ≡ a + c + y
    under a s x c y h = omega arith

pub count_some : {A : Type 0} (p : A → Bool) (xs : List A) (i : ℕ) (x : A) → slice_get xs i ≡ Some x → p x ≡ true
    → 0 < how_many p xs
count_some p [] i x e h = absurd cc
count_some p (a ∷ xs) zero x e h = by (p a) (how_many p xs) (ap p (let g : a ≡ x = cc in g) ∙ h)
  where
    by : (b : Bool) (n : ℕ) → b ≡ true → 0 < one_if b + n
    by true n k = omega arith
    by false n k = absurd cc
count_some p (a ∷ xs) (suc i) x e h = more (one_if (p a)) (how_many p xs) (count_some p xs i x e h)
  where
    more : (m n : ℕ) → 0 < n → 0 < m + n
    more m n h = omega arith

pub count_none : {A : Type 0} (p : A → Bool) (xs : List A) → ((i : ℕ) (x : A) → slice_get xs i ≡ Some x → p x ≡ false)
    → how_many p xs ≡ 0
count_none p [] h = refl
count_none p (a ∷ xs) h = by (p a) (how_many p xs) (h zero a refl) (count_none p xs (λ i x e. h (suc i) x e))
  where
    by : (b : Bool) (n : ℕ) → b ≡ false → n ≡ 0 → one_if b + n ≡ 0
    by true n k e = absurd cc
    by false n k e = omega arith

-- ---- parts that have not occurred

abbrev pub blanks : {A : Type 0} → ℕ → List (Option A)
blanks n = replicate n None

pub count_blank : (A : Type 0) (n : ℕ) → how_many is_none (blanks {A = A} n) ≡ n
count_blank A zero = refl
count_blank A (suc n) = step (how_many is_none (blanks {A = A} n)) n (count_blank A n)
  where
    step : (c n : ℕ) → c ≡ n → 1 + c ≡ suc n
    step c n e = omega arith

pub get_blank : (A : Type 0) (n k : ℕ) → option_and_then (λ (o : Option A). o) (slice_get (blanks {A = A} n) k) ≡ None
get_blank A zero k = refl
get_blank A (suc n) zero = refl
get_blank A (suc n) (suc k) = get_blank A n k
