-- The value of digits, one digit at a time.
use Rattle.std.specs.declared.alloc.AllocError.{AllocError}
use Rattle.std.proofs.Common.{subst, Result, IfOk, ◌≡◌, ℕ, zero, suc, ◌+◌, Bool, true, false, List, [], ◌∷◌, ◌++◌, drop, ℤ, pos, negsuc, ◌+ℤ◌, ◌*ℤ◌, refl, sym, ap, ◌∙◌, arith, add-one, length, ◌≤◌, ◌-ℤ◌, drop_of_length-le}
use Rattle.std.proofs.Math.IntN.{zero-*ℤ, suc_ℤ-*ℤ, pred_ℤ-*ℤ}
use Rattle.std.proofs.lemmas.Int.{ints}
use Rattle.wide_integer.specs.Value.{value_over, sign, filling, digit_at}

-- one more digit
pub pushed : (digits : List ℕ) (d : ℕ) (rest : ℤ) → value_over (digits ++ d ∷ []) rest ≡ value_over digits (pos d +ℤ pos 4294967296 *ℤ rest)
pushed [] d rest = refl
pushed (x ∷ digits) d rest = ap (λ n. pos x +ℤ pos 4294967296 *ℤ n) (pushed digits d rest)

-- past the digits all are alike
filled : (negative : Bool) → sign negative ≡ pos (filling negative) +ℤ pos 4294967296 *ℤ sign negative
filled true = refl
filled false = refl

-- a digit with what stands above it
pub from : (digits : List ℕ) (negative : Bool) (i : ℕ) →
    value_over (drop i digits) (sign negative)
    ≡ pos (digit_at digits negative i) +ℤ pos 4294967296 *ℤ value_over (drop (suc i) digits) (sign negative)
from [] negative zero = filled negative
from [] negative (suc i) = filled negative
from (x ∷ digits) negative zero = refl
from (x ∷ digits) negative (suc i) = from digits negative i

-- ---- sums, digit by digit

times_digit_by : (k l d rest : ℤ) → ((x : ℤ) → l *ℤ x ≡ k *ℤ x +ℤ x) →
    k *ℤ (d +ℤ pos 4294967296 *ℤ rest) ≡ k *ℤ d +ℤ pos 4294967296 *ℤ (k *ℤ rest) →
    l *ℤ (d +ℤ pos 4294967296 *ℤ rest) ≡ l *ℤ d +ℤ pos 4294967296 *ℤ (l *ℤ rest)
times_digit_by k l d rest more h =
    let whole = more (d +ℤ pos 4294967296 *ℤ rest) in
    let one = more d in
    let other = more rest in
    omega (arith, ints)

times_digit_down : (k l d rest : ℤ) → ((x : ℤ) → l *ℤ x ≡ k *ℤ x -ℤ x) →
    k *ℤ (d +ℤ pos 4294967296 *ℤ rest) ≡ k *ℤ d +ℤ pos 4294967296 *ℤ (k *ℤ rest) →
    l *ℤ (d +ℤ pos 4294967296 *ℤ rest) ≡ l *ℤ d +ℤ pos 4294967296 *ℤ (l *ℤ rest)
times_digit_down k l d rest less h =
    let whole = less (d +ℤ pos 4294967296 *ℤ rest) in
    let one = less d in
    let other = less rest in
    omega (arith, ints)

times_nothing : (k d rest : ℤ) → ((x : ℤ) → k *ℤ x ≡ pos 0) →
    k *ℤ (d +ℤ pos 4294967296 *ℤ rest) ≡ k *ℤ d +ℤ pos 4294967296 *ℤ (k *ℤ rest)
times_nothing k d rest none =
    let whole = none (d +ℤ pos 4294967296 *ℤ rest) in
    let one = none d in
    let other = none rest in
    omega (arith, ints)

pub times_digit : (factor d rest : ℤ) →
    factor *ℤ (d +ℤ pos 4294967296 *ℤ rest) ≡ factor *ℤ d +ℤ pos 4294967296 *ℤ (factor *ℤ rest)
times_digit (pos zero) d rest = times_nothing (pos zero) d rest zero-*ℤ
times_digit (pos (suc n)) d rest = times_digit_by (pos n) (pos (suc n)) d rest (suc_ℤ-*ℤ (pos n)) (times_digit (pos n) d rest)
times_digit (negsuc zero) d rest = times_digit_down (pos zero) (negsuc zero) d rest (pred_ℤ-*ℤ (pos zero)) (times_nothing (pos zero) d rest zero-*ℤ)
times_digit (negsuc (suc n)) d rest = times_digit_down (negsuc n) (negsuc (suc n)) d rest (pred_ℤ-*ℤ (negsuc n)) (times_digit (negsuc n) d rest)

sum_digit : (carry one product low high above above_product : ℤ) →
    low +ℤ pos 4294967296 *ℤ high ≡ carry +ℤ one +ℤ product →
    low +ℤ pos 4294967296 *ℤ (high +ℤ above +ℤ above_product)
    ≡ carry +ℤ (one +ℤ pos 4294967296 *ℤ above) +ℤ (product +ℤ pos 4294967296 *ℤ above_product)
sum_digit carry one product low high above above_product h = omega (arith, ints)

-- what is out so far and what is left are the whole, behind one more digit too
pub goes_on : (factor carry high passed whole : ℤ) (ones others out more : List ℕ) (a b : Bool) (i low one other : ℕ) →
    value_over out (carry +ℤ value_over (drop i ones) (sign a) +ℤ factor *ℤ value_over (drop i others) (sign b)) ≡ whole →
    pos low +ℤ pos 4294967296 *ℤ high ≡ carry +ℤ pos one +ℤ factor *ℤ pos other →
    one ≡ digit_at ones a i → other ≡ digit_at others b i → more ≡ out ++ low ∷ [] → passed ≡ high →
    value_over more
    (passed +ℤ value_over (drop (i + 1) ones) (sign a) +ℤ factor *ℤ value_over (drop (i + 1) others) (sign b))
    ≡ whole
goes_on factor carry high passed whole ones others out more a b i low one other h e is_one is_other is_more is_high =
    rw (is_more, is_high, add-one i)
    (pushed out low _
    ∙ ap (value_over out)
    (sum_digit carry (pos one) (factor *ℤ pos other) (pos low) high
    (value_over (drop (suc i) ones) (sign a)) (factor *ℤ value_over (drop (suc i) others) (sign b)) e
    ∙ ap (λ n. carry +ℤ n +ℤ (factor *ℤ pos other +ℤ pos 4294967296 *ℤ (factor *ℤ value_over (drop (suc i) others) (sign b))))
    (ap (λ d. pos d +ℤ pos 4294967296 *ℤ value_over (drop (suc i) ones) (sign a)) is_one ∙ sym (from ones a i))
    ∙ ap (λ n. carry +ℤ value_over (drop i ones) (sign a) +ℤ n)
    (sym (times_digit factor (pos other) (value_over (drop (suc i) others) (sign b)))
    ∙ ap (λ n. factor *ℤ n)
    (ap (λ d. pos d +ℤ pos 4294967296 *ℤ value_over (drop (suc i) others) (sign b)) is_other ∙ sym (from others b i))))
    ∙ h)

-- where neither number has a digit left
pub ends : (factor carry top passed own one_number other_number : ℤ) (ones others out : List ℕ) (a b : Bool) (i : ℕ) →
    length ones ≤ i → length others ≤ i →
    value_over out (carry +ℤ value_over (drop i ones) (sign a) +ℤ factor *ℤ value_over (drop i others) (sign b))
    ≡ value_over ones (sign a) +ℤ factor *ℤ value_over others (sign b) →
    top ≡ carry +ℤ sign a +ℤ factor *ℤ sign b → passed ≡ top → own ≡ factor →
    value_over ones (sign a) ≡ one_number → value_over others (sign b) ≡ other_number →
    value_over out passed ≡ one_number +ℤ own *ℤ other_number
ends factor carry top passed own one_number other_number ones others out a b i p q h is_top is_passed is_own is_one is_other =
    ap (value_over out) (is_passed ∙ is_top)
    ∙ rw (drop_of_length-le ones p, drop_of_length-le others q) at h
    ∙ rw (is_own, is_one, is_other) refl

pub made : (r : Result ℤ AllocError) (n m : ℤ) → IfOk r (λ x. x ≡ n) → n ≡ m → IfOk r (λ x. x ≡ m)
made r n m h e = subst (λ k. IfOk r (λ x. x ≡ k)) e h
