-- Totals over the views, marks, and counts modulo 2^64.
use Rattle.std.proofs.Common.{◌≡◌, ◌≢◌, ℕ, zero, suc, ◌+◌, ◌%◌, ◌/◌, ◌*◌, ◌^◌, ◌≤◌, ◌==◌, List, [], ◌∷◌, ◌++◌, set, sym, refl, ap, ◌∙◌, arith, eq-eqb, ne_eqb}
use mathlib.Core.Option.{some, some-injective, some-ne-none}
use lib.ListN.{get_elem?}
use Rattle.std.proofs.Math.Nat.{add-mul-mod_self_right, mod-add-div'}
use Rattle.turn_lock.specs.Words.{mark, total}

module _ {V : Type 0} (f : V → ℕ) where
  -- one view is replaced
  pub total_set : (vs : List V) (i : ℕ) (v w : V) → get_elem? vs i ≡ some v → total f (set vs i w) + f v ≡ total f vs + f w
  total_set [] i v w e = absurd (some-ne-none v (sym e))
  total_set (x ∷ xs) zero v w e = let s : f x ≡ f v = ap f (some-injective x v e) in omega arith
  total_set (x ∷ xs) (suc i) v w e = let r = total_set xs i v w e in omega arith

  -- one view is replaced by one that counts as much
  pub total_same : (vs : List V) (i : ℕ) (v w : V) → get_elem? vs i ≡ some v → f w ≡ f v → total f (set vs i w) ≡ total f vs
  total_same vs i v w e s = let r = total_set vs i v w e in omega arith

  -- one view more
  pub total_snoc : (vs : List V) (w : V) → total f (vs ++ w ∷ []) ≡ total f vs + f w
  total_snoc [] w = omega arith
  total_snoc (x ∷ xs) w = let r = total_snoc xs w in omega arith

  -- no view counts more than all
  pub total_has : (vs : List V) (i : ℕ) (v : V) → get_elem? vs i ≡ some v → f v ≤ total f vs
  total_has [] i v e = absurd (some-ne-none v (sym e))
  total_has (x ∷ xs) zero v e = let s : f x ≡ f v = ap f (some-injective x v e) in omega arith
  total_has (x ∷ xs) (suc i) v e = let r = total_has xs i v e in omega arith

  -- no two views count more than all
  pub total_two : (vs : List V) (i j : ℕ) (v u : V) → j ≢ i → get_elem? vs i ≡ some v → get_elem? vs j ≡ some u → f v + f u ≤ total f vs
  total_two [] i j v u ne e d = absurd (some-ne-none v (sym e))
  total_two (x ∷ xs) zero zero v u ne e d = absurd (ne refl)
  total_two (x ∷ xs) zero (suc j) v u ne e d = let s : f x ≡ f v = ap f (some-injective x v e) in let r = total_has xs j u d in omega arith
  total_two (x ∷ xs) (suc i) zero v u ne e d = let s : f x ≡ f u = ap f (some-injective x u d) in let r = total_has xs i v e in omega arith
  total_two (x ∷ xs) (suc i) (suc j) v u ne e d = let r = total_two xs i j v u (λ s. ne (ap suc s)) e d in omega arith

  -- nothing adds up to nothing
  pub total_zero : (vs : List V) → ((j : ℕ) (u : V) → get_elem? vs j ≡ some u → f u ≡ 0) → total f vs ≡ 0
  total_zero [] h = refl
  total_zero (x ∷ xs) h = let a = h 0 x refl in let r = total_zero xs (λ j. h (suc j)) in omega arith

module _ {V : Type 0} (f g : V → ℕ) where
  -- where each counts no more, all count no more
  pub total_le : (vs : List V) → ((j : ℕ) (u : V) → get_elem? vs j ≡ some u → f u ≤ g u) → total f vs ≤ total g vs
  total_le [] h = omega arith
  total_le (x ∷ xs) h = let a = h 0 x refl in let r = total_le xs (λ j. h (suc j)) in omega arith

  -- where g of one is greater by d, so is the total
  pub total_gap : (d : ℕ) (vs : List V) (i : ℕ) (v : V) → ((j : ℕ) (u : V) → get_elem? vs j ≡ some u → f u ≤ g u) → get_elem? vs i ≡ some v → f v + d ≤ g v → total f vs + d ≤ total g vs
  total_gap d [] i v h e more = absurd (some-ne-none v (sym e))
  total_gap d (x ∷ xs) zero v h e more = let s : f x ≡ f v = ap f (some-injective x v e) in let t : g x ≡ g v = ap g (some-injective x v e) in let r = total_le xs (λ j. h (suc j)) in omega arith
  total_gap d (x ∷ xs) (suc i) v h e more = let a = h 0 x refl in let r = total_gap d xs i v (λ j. h (suc j)) e more in omega arith

-- the mark of a number against itself
pub this_one : (t : ℕ) → mark (t == t) ≡ 1
this_one t = ap mark (eq-eqb t t refl)

-- the mark of a number against another
pub not_this : (a t : ℕ) → a ≢ t → mark (a == t) ≡ 0
not_this a t ne = ap mark (ne_eqb a t ne)

-- a count modulo 2^64, one later
pub one_later : (n : ℕ) → (n % 2 ^ 64 + 1) % 2 ^ 64 ≡ (n + 1) % 2 ^ 64
one_later n = let m : ℕ = 2 ^ 64 in let d = mod-add-div' n m in
    let e : (n % m + 1) + (n / m) * m ≡ n + 1 = omega arith in sym (add-mul-mod_self_right (n % m + 1) (n / m) m) ∙ ap (λ k. k % m) e
