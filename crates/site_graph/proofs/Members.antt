-- The members of lists: of one with another in front, of a range, a filter, a map, and of lists put together.
use Rattle.std.proofs.Common.{◌≡◌, ◌⊎◌, ℕ, zero, suc, ◌+◌, ◌<◌, ◌≤◌, List, [], ◌∷◌, ◌++◌, add-one, Bool, true, false, cond, map, length, get_or, refl, sym, ap, ◌∙◌, subst, inl, inr, ⊎_elim, arith}
use Rattle.std.proofs.lemmas.List.Elements.{Contains-append_left, Contains-append_right, Contains-append_cases}
use Rattle.std.specs.List.{Contains, filter, flat_map, range_with_len}

pub in_nil : {X : Type 0} (x : X) → Contains [] x → ⊥
in_nil x c = omega (arith, c.1)

pub in_first : {X : Type 0} (x : X) (xs : List X) → Contains (x ∷ xs) x
in_first x xs = (0, omega arith, refl)

pub in_later : {X : Type 0} (x y : X) (xs : List X) → Contains xs y → Contains (x ∷ xs) y
in_later x y xs c = (suc c.0, omega (arith, c.1), c.2)

at_cons : {X : Type 0} (x z : X) (xs : List X) (k : ℕ) → k < length (x ∷ xs) → get_or (x ∷ xs) k z ≡ z → (x ≡ z) ⊎ Contains xs z
at_cons x z xs zero l e = inl e
at_cons x z xs (suc k) l e = inr (k, omega arith, e)

pub in_cons : {X : Type 0} (x z : X) (xs : List X) → Contains (x ∷ xs) z → (x ≡ z) ⊎ Contains xs z
in_cons x z xs c = at_cons x z xs c.0 c.1 c.2

-- ---- a range

pub from_range : (a n x : ℕ) → Contains (range_with_len a n) x → (a ≤ x) × (x < a + n)
from_range a zero x c = absurd (in_nil x c)
from_range a (suc n) x c =
    ⊎_elim (λ e. (omega arith, omega arith))
    (λ d. let h = from_range (a + 1) n x d in (omega (arith, h.0), omega (arith, h.1)))
    (in_cons a x (range_with_len (a + 1) n) c)

pub to_range : (a n x : ℕ) → a ≤ x → x < a + n → Contains (range_with_len a n) x
to_range a zero x l h = absurd (omega arith)
to_range a (suc n) x l h =
    ⊎_elim (λ e. subst (Contains (a ∷ range_with_len (a + 1) n)) e (in_first a (range_with_len (a + 1) n)))
    (λ d. in_later a x (range_with_len (a + 1) n) (to_range (a + 1) n x (omega arith) (omega arith)))
    (first_or_later a x l)
  where
    first_or_later : (a x : ℕ) → a ≤ x → (a ≡ x) ⊎ (a + 1 ≤ x)
    first_or_later a x l = grind arith

-- ---- a filter

pub from_filter : {X : Type 0} (p : X → Bool) (xs : List X) (z : X) → Contains (filter p xs) z → Contains xs z × (p z ≡ true)
from_filter p [] z c = absurd (in_nil z c)
from_filter p (x ∷ xs) z c = by_test (from_filter p xs z) (p x) refl c
  where
    by_test : (Contains (filter p xs) z → Contains xs z × (p z ≡ true)) → (b : Bool) → p x ≡ b → Contains (cond b (x ∷ filter p xs) (filter p xs)) z → Contains (x ∷ xs) z × (p z ≡ true)
    by_test rest true e c =
        ⊎_elim (λ q. (subst (Contains (x ∷ xs)) q (in_first x xs), ap p (sym q) ∙ e))
        (λ d. let h = rest d in (in_later x z xs h.0, h.1))
        (in_cons x z (filter p xs) c)
    by_test rest false e c = let h = rest c in (in_later x z xs h.0, h.1)

pub to_filter : {X : Type 0} (p : X → Bool) (xs : List X) (z : X) → Contains xs z → p z ≡ true → Contains (filter p xs) z
to_filter p [] z c h = absurd (in_nil z c)
to_filter p (x ∷ xs) z c h = by_test (λ d. to_filter p xs z d h) (p x) refl (in_cons x z xs c)
  where
    by_test : (Contains xs z → Contains (filter p xs) z) → (b : Bool) → p x ≡ b → (x ≡ z) ⊎ Contains xs z → Contains (cond b (x ∷ filter p xs) (filter p xs)) z
    by_test rest true e (inl q) = subst (Contains (x ∷ filter p xs)) q (in_first x (filter p xs))
    by_test rest true e (inr d) = in_later x z (filter p xs) (rest d)
    by_test rest false e (inl q) = let same : p x ≡ p z = ap p q in cc
    by_test rest false e (inr d) = rest d

-- ---- a map

pub from_map : {X Y : Type 0} (f : X → Y) (xs : List X) (y : Y) → Contains (map f xs) y → (x : X) × Contains xs x × (f x ≡ y)
from_map f [] y c = absurd (in_nil y c)
from_map f (x ∷ xs) y c =
    ⊎_elim (λ e. (x, in_first x xs, e))
    (λ d. let h = from_map f xs y d in (h.0, in_later x h.0 xs h.1, h.2))
    (in_cons (f x) y (map f xs) c)

pub to_map : {X Y : Type 0} (f : X → Y) (xs : List X) (x : X) → Contains xs x → Contains (map f xs) (f x)
to_map f [] z c = absurd (in_nil z c)
to_map f (x ∷ xs) z c =
    ⊎_elim (λ e. subst (λ w. Contains (f x ∷ map f xs) (f w)) e (in_first (f x) (map f xs)))
    (λ d. in_later (f x) (f z) (map f xs) (to_map f xs z d))
    (in_cons x z xs c)

-- ---- lists put together

pub from_flat_map : {X Y : Type 0} (f : X → List Y) (xs : List X) (y : Y) → Contains (flat_map f xs) y → (x : X) × Contains xs x × Contains (f x) y
from_flat_map f [] y c = absurd (in_nil y c)
from_flat_map f (x ∷ xs) y c =
    ⊎_elim (λ d. (x, in_first x xs, d))
    (λ d. let h = from_flat_map f xs y d in (h.0, in_later x h.0 xs h.1, h.2))
    (Contains-append_cases (f x) (flat_map f xs) y c)

pub to_flat_map : {X Y : Type 0} (f : X → List Y) (xs : List X) (x : X) (y : Y) → Contains xs x → Contains (f x) y → Contains (flat_map f xs) y
to_flat_map f [] z y c d = absurd (in_nil z c)
to_flat_map f (x ∷ xs) z y c d =
    ⊎_elim (λ e. Contains-append_left (f x) (flat_map f xs) y (subst (λ w. Contains (f w) y) (sym e) d))
    (λ i. Contains-append_right (f x) (flat_map f xs) y (to_flat_map f xs z y i d))
    (in_cons x z xs c)

range_more : (a n b : ℕ) → b ≡ a + n → range_with_len a n ++ b ∷ [] ≡ range_with_len a (suc n)
range_more a zero b e = let h : b ≡ a = omega arith in ap (λ x. x ∷ []) h
range_more a (suc n) b e = ap (λ xs. a ∷ xs) (range_more (a + 1) n b (omega arith))

pub range_push : (n : ℕ) (xs ys : List ℕ) → xs ≡ range_with_len 0 n → ys ≡ xs ++ n ∷ [] → ys ≡ range_with_len 0 (n + 1)
range_push n xs ys e f = f ∙ (ap (λ (u : List ℕ). u ++ n ∷ []) e ∙ rw add-one (range_more 0 n n (omega arith)))
