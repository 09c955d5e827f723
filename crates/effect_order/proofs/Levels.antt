-- Levels by counting grow, and rise at each release.
use Rattle.std.proofs.Common.{◌≡◌, ℕ, zero, suc, ◌+◌, ◌-◌, ◌<◌, ◌≤◌, sym, ap, subst, ⊎_elim, arith, le_refl, Bool, true, cond}
use Rattle.std.proofs.lemmas.Bool.{cases_Bool, cases_lt, cond-true, cond-false}
use Rattle.effect_order.specs.Levels.{count, level_at}

grow_by : (q : ℕ → Bool) (a n : ℕ) → count q a ≤ count q (n + a)
grow_by q a zero = let e : a ≡ zero + a = omega arith in subst (λ u. count q a ≤ count q u) e (le_refl _)
grow_by q a (suc n) =
    let e : suc (n + a) ≡ suc n + a = omega arith in
    subst (λ u. count q a ≤ count q u) e (omega (arith, grow_by q a n))

pub count_grows : (q : ℕ → Bool) (a b : ℕ) → a ≤ b → count q a ≤ count q b
count_grows q a b t =
    let e : (b - a) + a ≡ b = omega arith in
    subst (λ u. count q a ≤ count q u) e (grow_by q a (b - a))

pub level_grows : (q : ℕ → Bool) (a b : ℕ) → a ≤ b → level_at q a ≤ level_at q b
level_grows q a b t = omega (arith, count_grows q a b t, count_grows q (suc a) (suc b) (omega arith))

at_one : (q : ℕ → Bool) (t : ℕ) → q t ≡ true → count q (suc t) ≡ suc (count q t)
at_one q t h = let e : cond {A = ℕ} (q t) 1 0 ≡ 1 = cond-true (q t) 1 0 h in omega arith

pub to_release : (q : ℕ → Bool) (a b : ℕ) → q b ≡ true → a < b → level_at q a < level_at q b
to_release q a b h t = omega (arith, at_one q b h, count_grows q a b (omega arith), count_grows q (suc a) b t)

pub from_release : (q : ℕ → Bool) (a b : ℕ) → q a ≡ true → a < b → level_at q a < level_at q b
from_release q a b h t = omega (arith, at_one q a h, count_grows q (suc a) b t, count_grows q (suc a) (suc b) (omega arith))

pub level_over : (q : ℕ → Bool) (a m b : ℕ) → q m ≡ true → a < m → m < b → level_at q a < level_at q b
level_over q a m b h s t = omega (arith, to_release q a m h s, from_release q m b h t)

-- where the count rises, it happens in between
pub found : (q : ℕ → Bool) (a n : ℕ) → count q a < count q (n + a) → (m : ℕ) × (q m ≡ true) × (a ≤ m) × (m < n + a)
found q a zero t = let z : zero + a ≡ a = omega arith in let e : count q (zero + a) ≡ count q a = ap (count q) z in absurd (omega arith)
found q a (suc n) t =
    let s : suc n + a ≡ suc (n + a) = omega arith in
    let e : count q (suc n + a) ≡ cond {A = ℕ} (q (n + a)) 1 0 + count q (n + a) = ap (count q) s in
    ⊎_elim
    (λ h. (n + a, h, omega arith, omega arith))
    (λ h.
    let z : cond {A = ℕ} (q (n + a)) 1 0 ≡ 0 = cond-false (q (n + a)) 1 0 h in
    let p = found q a n (omega arith) in
    (p.0, p.1, p.2, omega (arith, p.3)))
    (cases_Bool (q (n + a)))

pub level_by : (q : ℕ → Bool) (a b : ℕ) → level_at q a < level_at q b → (m : ℕ) × (q m ≡ true) × (a ≤ m) × (m ≤ b)
level_by q a b t =
    let order : a ≤ b = ⊎_elim (λ (x : b < a). absurd (omega (arith, level_grows q b a (omega arith)))) (λ x. x) (cases_lt b a) in
    let e : (suc b - a) + a ≡ suc b = omega arith in
    let p = found q a (suc b - a) (subst (λ u. count q a < count q u) (sym e) (omega (arith, count_grows q a b order, count_grows q (suc a) (suc b) (omega arith), count_grows q a (suc a) (omega arith), count_grows q b (suc b) (omega arith)))) in
    (p.0, p.1, p.2, omega (arith, p.3))
