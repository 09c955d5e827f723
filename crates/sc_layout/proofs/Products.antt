-- Products and sums along a list.
use Rattle.std.proofs.Common.{◌≡◌, ℕ, ◌+◌, ◌*◌, ◌<◌, min, List, [], ◌∷◌, ◌++◌, length, take, drop, get_or, sym, ◌∙◌, ap, arith}
use Rattle.std.proofs.lemmas.List.{take_more, take-append-drop}
use Rattle.std.proofs.lemmas.List.Sums.{sum_by_push}
use Rattle.std.specs.List.{sum_by}
use Rattle.sc_layout.specs.Layout.{product}
use Rattle.sc_layout.proofs.Numbers.{capped-product}

pub product-append : (xs ys : List ℕ) → product (xs ++ ys) ≡ product xs * product ys
product-append [] ys = omega arith
product-append (x ∷ xs) ys = let e : product (xs ++ ys) ≡ product xs * product ys = product-append xs ys in rw e (omega arith)

pub product-parts : (k : ℕ) (xs : List ℕ) → product xs ≡ product (take k xs) * product (drop k xs)
product-parts k xs = ap product (sym (take-append-drop k xs)) ∙ product-append (take k xs) (drop k xs)

pub product-push : (xs : List ℕ) (x : ℕ) → product (xs ++ x ∷ []) ≡ product xs * x
product-push xs x = let e : product (xs ++ x ∷ []) ≡ product xs * product (x ∷ []) = product-append xs (x ∷ []) in omega arith

-- one more factor, under a cap
pub product_step : (m : ℕ) (xs : List ℕ) (i now : ℕ) → i < length xs → now ≡ min (product (take i xs)) m → min (now * get_or xs i 0) m ≡ min (product (take (i + 1) xs)) m
product_step m xs i now h e =
    rw (e, take_more xs i 0 h, product-push (take i xs) (get_or xs i 0)) (capped-product m (product (take i xs)) (get_or xs i 0))

-- one more term, under a cap
pub sum_step : {A : Type 0} (f : A → ℕ) (m : ℕ) (xs : List A) (i : ℕ) (x : A) (now : ℕ) → i < length xs → x ≡ get_or xs i x → now ≡ min (sum_by f (take i xs)) m → min (now + min (f x) m) m ≡ min (sum_by f (take (i + 1) xs)) m
sum_step f m xs i x now h is e =
    let push : sum_by f (take i xs ++ x ∷ []) ≡ sum_by f (take i xs) + f x = sum_by_push f (take i xs) x in
    rw (e, take_more xs i x h, ← is, push) (omega arith)
