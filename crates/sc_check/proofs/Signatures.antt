-- Lists of types are the same where they are as long, and so is each pair.
use Rattle.std.proofs.Common.{◌≡◌, Bool, true, false, ◌&&◌, List, [], ◌∷◌, length, nat_eq, refl}
use Prim.Native.Nat.compare
use Rattle.std.specs.List.{list_all, zip}
use Rattle.std.specs.Cmp.Lexicographic.{pointwise}

-- a test before two others
swapped : (first long rest more : Bool) → more ≡ (long && rest) → (first && more) ≡ (long && (first && rest))
swapped true long rest more e = e
swapped false true rest more e = refl
swapped false false rest more e = refl

pub pointwise_is_zip : {A : Type 0} (same : A → A → Bool) (xs ys : List A) →
    pointwise same xs ys ≡
    (nat_eq (length xs) (length ys) && list_all (λ pair. same pair.0 pair.1) (zip xs ys))
pointwise_is_zip same [] [] = refl
pointwise_is_zip same [] (y ∷ ys) = rw compare.zero-suc
pointwise_is_zip same (x ∷ xs) [] = rw compare.suc-zero
pointwise_is_zip same (x ∷ xs) (y ∷ ys) = rw compare.suc-suc
    (swapped (same x y) (nat_eq (length xs) (length ys)) (list_all (λ pair. same pair.0 pair.1) (zip xs ys))
    (pointwise same xs ys) (pointwise_is_zip same xs ys))
