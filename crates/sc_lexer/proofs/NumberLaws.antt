-- Laws of numbers.
use Rattle.std.proofs.Common.{◌≡◌, ℕ, ◌+◌, ◌*◌, ◌<◌, ◌≤◌, List, [], ◌∷◌, arith, length, drop, get_or, ◌^◌, false, le-ltb}
use Rattle.std.specs.Prelude.{fold, nat_lt}
use Rattle.std.specs.Char.{digit_value}
use Rattle.std.proofs.lemmas.List.{at_drop_more, at_drop_all}
use Rattle.std.proofs.lemmas.List.Sums.{prefix_len-le-length}
use Rattle.std.proofs.Math.Nat.{mul-le-mul_left}

pub ruleset sizes = (prefix_len-le-length)

-- more digits make no number less
pub fold-grows : (radix : ℕ) → 0 < radix → (value : ℕ) (digits : List ℕ) → value ≤ fold (λ value digit. value * radix + digit_value digit) value digits
fold-grows radix h value [] = omega arith
fold-grows radix h value (d ∷ ds) =
    let more = fold-grows radix h (value * radix + digit_value d) ds in
    let wider : value * 1 ≤ value * radix = mul-le-mul_left value (omega arith) in
    omega arith

-- one digit more
pub fold-drop : (radix value : ℕ) (digits : List ℕ) (i d : ℕ) → i < length digits → fold (λ value digit. value * radix + digit_value digit) value (drop i digits) ≡ fold (λ value digit. value * radix + digit_value digit) (value * radix + digit_value (get_or digits i d)) (drop (i + 1) digits)
fold-drop radix value digits i d h = at_drop_more (fold (λ value digit. value * radix + digit_value digit) value) digits i d h

pub fold-all : (radix value : ℕ) (digits : List ℕ) (i : ℕ) → length digits ≤ i → fold (λ value digit. value * radix + digit_value digit) value (drop i digits) ≡ value
fold-all radix value digits i h = at_drop_all (fold (λ value digit. value * radix + digit_value digit) value) digits i h

-- what is too wide stays so
pub fold-wide : (radix value : ℕ) (digits : List ℕ) (i d total : ℕ) → 0 < radix → i < length digits → fold (λ value digit. value * radix + digit_value digit) value (drop i digits) ≡ total → 2 ^ 63 ≤ value * radix + digit_value (get_or digits i d) → nat_lt total (2 ^ 63) ≡ false
fold-wide radix value digits i d total positive within is wide =
    let grown = fold-grows radix positive (value * radix + digit_value (get_or digits i d)) (drop (i + 1) digits) in
    let step = fold-drop radix value digits i d within in
    let above : 2 ^ 63 ≤ total = omega arith in
    le-ltb _ _ above

pub ruleset values = (fold-drop, fold-all)
