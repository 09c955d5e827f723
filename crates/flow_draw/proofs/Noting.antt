-- Numbers that are put among others: neither their order counts nor how often they come.
use Rattle.std.proofs.Common.{◌≡◌, ◌⊎◌, inl, inr, ⊎_elim, ℕ, zero, suc, ◌<◌, ◌≤◌, List, [], ◌∷◌, ◌++◌, refl, sym, ap, ◌∙◌, subst, arith}
use Rattle.std.specs.Prelude.{ltb, slice_get, insert, Some}
use Rattle.std.specs.List.{prefix_len}
use Rattle.std.proofs.lemmas.List.Sums.{prefix_len-le-length}
use Rattle.std.proofs.lemmas.Bool.{lt-ltb, le-ltb}
use Rattle.site_graph.specs.declared.point.TheConstants.{NODE_MARK}
use Rattle.site_graph.specs.Rising.{inserted, rising}
use Rattle.flow_form.specs.Occurring.{mark, local}
use Rattle.flow_draw.specs.Noted.{noted}

abbrev put : ℕ → List ℕ → List ℕ
put n xs = inserted ltb n xs

-- ---- one number

put-first : (n y : ℕ) (ys : List ℕ) → n < y → put n (y ∷ ys) ≡ n ∷ y ∷ ys
put-first n y ys h = rw (lt-ltb n y h) refl

put-behind : (n y : ℕ) (ys : List ℕ) → y < n → put n (y ∷ ys) ≡ y ∷ put n ys
put-behind n y ys h = rw (le-ltb n y (omega arith), lt-ltb y n h) refl

put-there : (n y : ℕ) (ys : List ℕ) → n ≡ y → put n (y ∷ ys) ≡ y ∷ ys
put-there n y ys h = rw (le-ltb n y (omega arith), le-ltb y n (omega arith)) refl

three_ways : (m n : ℕ) → (m < n) ⊎ ((m ≡ n) ⊎ (n < m))
three_ways zero zero = inr (inl refl)
three_ways zero (suc n) = inl (omega arith)
three_ways (suc m) zero = inr (inr (omega arith))
three_ways (suc m) (suc n) =
    ⊎_elim (λ l. inl (omega arith)) (λ r. ⊎_elim (λ e. inr (inl (ap suc e))) (λ g. inr (inr (omega arith))) r) (three_ways m n)

by_order : {A : Type 0} (m n : ℕ) → (m < n → A) → (m ≡ n → A) → (n < m → A) → A
by_order m n less same more = ⊎_elim less (λ r. ⊎_elim same more r) (three_ways m n)

put-again : (n : ℕ) (xs : List ℕ) → put n (put n xs) ≡ put n xs
put-again n [] = put-there n n [] refl
put-again n (y ∷ ys) =
    by_order n y
    (λ l. ap (put n) (put-first n y ys l) ∙ put-there n n (y ∷ ys) refl ∙ sym (put-first n y ys l))
    (λ e. ap (put n) (put-there n y ys e))
    (λ g. ap (put n) (put-behind n y ys g) ∙ put-behind n y (put n ys) g ∙ ap (λ zs. y ∷ zs) (put-again n ys)
    ∙ sym (put-behind n y ys g))

-- where y stands before n, and the two may be swapped behind it
swap-behind : (m n y : ℕ) (ys : List ℕ) → m < n → y < n → put m (put n ys) ≡ put n (put m ys)
    → put m (y ∷ put n ys) ≡ put n (put m (y ∷ ys))
swap-behind m n y ys lt g same =
    by_order m y
    (λ l. put-first m y (put n ys) l ∙ sym (ap (λ zs. m ∷ zs) (put-behind n y ys g))
    ∙ sym (put-behind n m (y ∷ ys) lt) ∙ sym (ap (put n) (put-first m y ys l)))
    (λ e. put-there m y (put n ys) e ∙ sym (put-behind n y ys g) ∙ sym (ap (put n) (put-there m y ys e)))
    (λ h. put-behind m y (put n ys) h ∙ ap (λ zs. y ∷ zs) same
    ∙ sym (put-behind n y (put m ys) g) ∙ sym (ap (put n) (put-behind m y ys h)))

-- where m is first, and n may be put behind the first of the list
swap-first : (m n y : ℕ) (ys rest : List ℕ) → m < n → m < y → put n (y ∷ ys) ≡ rest → put m rest ≡ m ∷ rest
    → put m (put n (y ∷ ys)) ≡ put n (put m (y ∷ ys))
swap-first m n y ys rest lt k e f =
    ap (put m) e ∙ f ∙ sym (ap (λ zs. m ∷ zs) e) ∙ sym (put-behind n m (y ∷ ys) lt) ∙ sym (ap (put n) (put-first m y ys k))

less-swap : (m n : ℕ) (xs : List ℕ) → m < n → put m (put n xs) ≡ put n (put m xs)
less-swap m n [] lt = put-first m n [] lt ∙ sym (put-behind n m [] lt)
less-swap m n (y ∷ ys) lt =
    let same = less-swap m n ys lt in
    by_order n y
    (λ l. swap-first m n y ys (n ∷ y ∷ ys) lt (omega arith) (put-first n y ys l) (put-first m n (y ∷ ys) lt))
    (λ e. let k : m < y = omega arith in swap-first m n y ys (y ∷ ys) lt k (put-there n y ys e) (put-first m y ys k))
    (λ g. ap (put m) (put-behind n y ys g) ∙ swap-behind m n y ys lt g same)

pub put-swap : (m n : ℕ) (xs : List ℕ) → put m (put n xs) ≡ put n (put m xs)
put-swap m n xs =
    by_order m n (λ l. less-swap m n xs l) (λ e. ap (λ i. put i (put n xs)) e ∙ ap (λ i. put n (put i xs)) (sym e))
    (λ g. sym (less-swap n m xs g))

-- ---- many

pub noted-none : (xs : List ℕ) → noted [] xs ≡ xs
unfolding noted
noted-none xs = refl

pub noted-on : (n : ℕ) (more xs : List ℕ) → noted (n ∷ more) xs ≡ noted more (inserted ltb n xs)
unfolding noted
noted-on n more xs = refl

pub noted-append : (a b xs : List ℕ) → noted (a ++ b) xs ≡ noted b (noted a xs)
unfolding noted
noted-append [] b xs = refl
noted-append (n ∷ a) b xs = noted-append a b (put n xs)

pub noted-put : (a : List ℕ) (n : ℕ) (xs : List ℕ) → noted a (put n xs) ≡ put n (noted a xs)
unfolding noted
noted-put [] n xs = refl
noted-put (m ∷ a) n xs = ap (noted a) (put-swap m n xs) ∙ noted-put a n (put m xs)

pub noted-swap : (a b xs : List ℕ) → noted a (noted b xs) ≡ noted b (noted a xs)
unfolding noted
noted-swap [] b xs = refl
noted-swap (m ∷ a) b xs = ap (noted a) (sym (noted-put b m xs)) ∙ noted-swap a b (put m xs)

pub noted-again : (a xs : List ℕ) → noted a (noted a xs) ≡ noted a xs
unfolding noted
noted-again [] xs = refl
noted-again (m ∷ a) xs =
    ap (noted a) (sym (noted-put a m (put m xs))) ∙ noted-again a (put m (put m xs)) ∙ ap (noted a) (put-again m xs)

-- behind no other number they are the rising list
pub noted-rising : (xs : List ℕ) → noted xs [] ≡ rising ltb xs
unfolding noted
noted-rising [] = refl
noted-rising (x ∷ xs) = noted-put xs x [] ∙ ap (put x) (noted-rising xs)

-- a list that was made so is put among others
put-noted : (n : ℕ) (zs xs : List ℕ) → noted (put n zs) xs ≡ noted zs (put n xs)
unfolding noted
put-noted n [] xs = refl
put-noted n (z ∷ zs) xs =
    by_order n z
    (λ l. ap (λ ys. noted ys xs) (put-first n z zs l))
    (λ e. ap (λ ys. noted ys xs) (put-there n z zs e) ∙ ap (noted zs) (sym (put-again z xs) ∙ ap (λ i. put z (put i xs)) (sym e)))
    (λ g. ap (λ ys. noted ys xs) (put-behind n z zs g) ∙ put-noted n zs (put z xs) ∙ ap (noted zs) (put-swap n z xs))

pub noted-noted : (a b xs : List ℕ) → noted (noted a b) xs ≡ noted a (noted b xs)
unfolding noted
noted-noted [] b xs = refl
noted-noted (m ∷ a) b xs = noted-noted a (put m b) xs ∙ ap (noted a) (put-noted m b xs ∙ noted-put b m xs)

pub noted-anew : (a xs : List ℕ) → noted (noted a []) xs ≡ noted a xs
unfolding noted
noted-anew a xs = noted-noted a [] xs

-- ---- in the code

pub noted-mark : (xs : List ℕ) → noted mark xs ≡ inserted ltb NODE_MARK xs
unfolding noted
noted-mark xs = refl

pub noted-param : (params x : ℕ) (xs : List ℕ) → x < params → noted (local params x) xs ≡ inserted ltb NODE_MARK (inserted ltb x xs)
unfolding noted
noted-param params x xs h = rw (lt-ltb x params h) refl

pub noted-other : (params x : ℕ) (xs : List ℕ) → params ≤ x → noted (local params x) xs ≡ inserted ltb x xs
unfolding noted
noted-other params x xs h = rw (le-ltb x params h) refl

pub ruleset notes = (noted-none, noted-on, noted-mark, noted-param, noted-other)

-- ---- at which place

-- those that stand before n
abbrev pub before : (n : ℕ) → List ℕ → ℕ
before n xs = prefix_len (λ m. ltb m n) xs

before-on : (n y : ℕ) (ys : List ℕ) → y < n → before n (y ∷ ys) ≡ suc (before n ys)
before-on n y ys h = rw (lt-ltb y n h) (omega arith)

put-found : (n : ℕ) (xs : List ℕ) → slice_get xs (before n xs) ≡ Some n → inserted ltb n xs ≡ xs
put-found n [] h = absurd cc
put-found n (y ∷ ys) h =
    by_order n y
    (λ l. let e = le-ltb y n (omega arith) in let s : y ≡ n = cc in absurd (omega arith))
    (λ e. put-there n y ys e)
    (λ g. put-behind n y ys g
    ∙ ap (λ zs. y ∷ zs) (put-found n ys (subst (λ i. slice_get (y ∷ ys) i ≡ Some n) (before-on n y ys g) h)))

put-new : (n : ℕ) (xs : List ℕ) → (slice_get xs (before n xs) ≡ Some n → ⊥) → inserted ltb n xs ≡ insert xs (before n xs) n
put-new n [] h = refl
put-new n (y ∷ ys) h =
    by_order n y
    (λ l. put-first n y ys l ∙ (rw (le-ltb y n (omega arith)) refl))
    (λ e. absurd (h (rw (le-ltb y n (omega arith)) (ap Some (sym e)))))
    (λ g. put-behind n y ys g
    ∙ ap (λ zs. y ∷ zs) (put-new n ys (λ k. h (subst (λ i. slice_get (y ∷ ys) i ≡ Some n) (sym (before-on n y ys g)) k)))
    ∙ ap (λ i. insert (y ∷ ys) i n) (sym (before-on n y ys g)))

pub found-at : (n at : ℕ) (xs : List ℕ) → at ≡ before n xs → slice_get xs at ≡ Some n → xs ≡ inserted ltb n xs
found-at n at xs e h = sym (put-found n xs (subst (λ i. slice_get xs i ≡ Some n) e h))

pub new-at : (n at : ℕ) (xs : List ℕ) → at ≡ before n xs → (slice_get xs at ≡ Some n → ⊥) → insert xs at n ≡ inserted ltb n xs
new-at n at xs e h =
    ap (λ i. insert xs i n) e ∙ sym (put-new n xs (λ k. h (subst (λ i. slice_get xs i ≡ Some n) (sym e) k)))

pub ruleset places = (prefix_len-le-length)
