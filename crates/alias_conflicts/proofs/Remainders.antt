-- Remainders of whole numbers, and which numbers leave the same.
use Rattle.std.proofs.Common.{◌≡◌, ◌↔◌, ℕ, suc, ◌+◌, ◌-◌, ◌*◌, ◌/◌, ◌%◌, ◌<◌, ◌≤◌, ℤ, pos, negsuc, ◌+ℤ◌, ◌*ℤ◌, inl, inr, refl, sym, ap, ◌∙◌, arith}
use Rattle.std.specs.Int.{int_rem_euclid}
use Rattle.std.specs.Prelude.{neg_ℤ}
use Rattle.std.proofs.Math.Nat.{add-mul-mod_self_left, div-add-mod, mul_comm, mod-eq_of_lt}
use Rattle.std.proofs.lemmas.Bool.{cases_lt}
use Rattle.std.proofs.lemmas.Int.{ints, int_rem_euclid_is}
use Rattle.std.proofs.lemmas.Nat.{mod_below}
use Rattle.alias_conflicts.specs.May.{SameRemainder, linear}

above : (z : ℤ) (i m : ℕ) → pos i ≡ z +ℤ neg_ℤ (pos m) → z ≡ pos (i + m)
above z i m e = omega (arith, ints)

-- a number that differs by a multiple leaves the remainder
remainder_from : (z q : ℤ) (n i : ℕ) → 0 < n → pos i ≡ z +ℤ (pos n *ℤ q) → int_rem_euclid z (pos n) ≡ pos (i % n)
remainder_from z (pos k) n i some e =
    int_rem_euclid_is z (pos n) n k i some refl (ap (λ m. z +ℤ pos m) (mul_comm k n) ∙ sym e)
remainder_from z (negsuc k) n i some e =
    ap (λ z. int_rem_euclid z (pos n)) (above z i (n * suc k) e) ∙ ap pos (add-mul-mod_self_left i n (suc k))

up_by : (a n i r : ℕ) → a % n ≡ r → i % n ≡ r → a / n ≤ i / n → i ≡ a + n * (i / n - a / n)
up_by a n i r e f le =
    let d : ℕ = i / n - a / n in
    let same : n * (i / n) ≡ n * (a / n) + n * d = by_sum (a / n) d (i / n) (omega arith) in
    omega (arith, div-add-mod a n, div-add-mod i n)
  where
    by_sum : (x d y : ℕ) → y ≡ x + d → n * y ≡ n * x + n * d
    by_sum x d y e = rw e (omega arith)

down_by : (i m a : ℕ) → a ≡ i + m → pos i ≡ pos a +ℤ neg_ℤ (pos m)
down_by i m a e = omega (arith, ints)

turn : (i a m : ℕ) → i + suc a ≡ m → pos i ≡ negsuc a +ℤ pos m
turn i a m e = omega (arith, ints)

around : (a n i r : ℕ) → 0 < n → n - 1 - a % n ≡ r → i % n ≡ r → i + suc a ≡ n * (i / n + a / n + 1)
around a n i r some e f =
    let low : a % n < n = mod_below a n some in
    let parts : n * (i / n + a / n + 1) ≡ n * (i / n) + n * (a / n) + n = spread (i / n) (a / n) in
    omega (arith, div-add-mod a n, div-add-mod i n)
  where
    spread : (x y : ℕ) → n * (x + y + 1) ≡ n * x + n * y + n
    spread x y = omega arith

differs : (z : ℤ) (n i r : ℕ) → 0 < n → int_rem_euclid z (pos n) ≡ pos r → i % n ≡ r → SameRemainder n (pos i) z
differs (pos a) n i r some e f =
    let g : a % n ≡ r = cc in
    elim (cases_lt (i / n) (a / n)) [
      | inl h ↦
          (let d : ℕ = a / n - i / n - 1 in
          let m : suc d ≡ a / n - i / n = omega arith in
          (negsuc d, rw m (down_by i (n * (a / n - i / n)) a (up_by i n a r f g (omega arith)))))
      | inr h ↦ (pos (i / n - a / n), ap pos (up_by a n i r g f h))
    ]
differs (negsuc a) n i r some e f =
    let g : n - 1 - a % n ≡ r = cc in
    (pos (i / n + a / n + 1), turn i a (n * (i / n + a / n + 1)) (around a n i r some g f))

-- the numbers that leave the same remainder as the value
pub same_remainder : (z : ℤ) (n i r : ℕ) → 0 < n → pos r ≡ int_rem_euclid z (pos n) → SameRemainder n (pos i) z ↔ (i % n ≡ r)
same_remainder z n i r some e =
    (λ s. (let f : int_rem_euclid z (pos n) ≡ pos (i % n) = remainder_from z s.0 n i some s.1 in cc), λ f. differs z n i r some (sym e) f)

pub remainder_low : (z : ℤ) (n r : ℕ) → 0 < n → pos r ≡ int_rem_euclid z (pos n) → r < n
remainder_low (pos a) n r some e = let f : r ≡ a % n = cc in let low = mod_below a n some in omega arith
remainder_low (negsuc a) n r some e = let f : r ≡ n - 1 - a % n = cc in omega arith

-- the one such number that is below the divisor
pub wrapped : (z : ℤ) (n r : ℕ) → 0 < n → pos r ≡ int_rem_euclid z (pos n) → (i : ℕ) → ((i < n) × SameRemainder n (pos i) z) ↔ (i ≡ r)
wrapped z n r some e i = (
  λ s. sym (mod-eq_of_lt s.0) ∙ (same_remainder z n i r some e).0 s.1,
  λ s. (let low : r < n = remainder_low z n r some e in let low_i : i < n = omega arith in (low_i, (same_remainder z n i r some e).1 (mod-eq_of_lt low_i ∙ s))),
)

once : (c : ℤ) (node : ℕ) → linear (pos 1) c node ≡ pos node +ℤ c
once c node = ap (λ n. pos n +ℤ c) (one node)
  where
    one : (n : ℕ) → 1 * n ≡ n
    one n = omega arith

pub mine : (c : ℤ) (n node r : ℕ) → 0 < n → pos r ≡ int_rem_euclid (linear (pos 1) c node) (pos n) → (i : ℕ) → SameRemainder n (pos i) (pos node +ℤ c) ↔ (i % n ≡ r)
mine c n node r some e i = same_remainder (pos node +ℤ c) n i r some (e ∙ ap (λ z. int_rem_euclid z (pos n)) (once c node))
