-- Numbers read digit by digit.
use Rattle.std.proofs.Common.{◌≡◌, ℕ, ◌+◌, ◌-◌, ◌*◌, ◌<◌, ◌≤◌, List, [], ◌∷◌, length, drop, get_or, Some, None, true, false, ◌&&◌, nat_le, nat_lt, if◌then◌else◌, refl, ap, ◌∙◌, arith, add-one, drop-cons}
use Rattle.splitc_top.specs.Words.{number_after, within, number_word}

-- one digit more
pub number_after-drop : (n : ℕ) (xs : List ℕ) (i : ℕ) → i < length xs → number_after n (drop i xs) ≡ (if nat_le 48 (get_or xs i 0) && nat_lt (get_or xs i 0) 58 then number_after (10 * n + (get_or xs i 0 - 48)) (drop (i + 1) xs) else None)
number_after-drop n xs i h = rw (add-one, drop-cons xs i 0) refl

pub within-above : (low high n : ℕ) → high < n → within low high (Some n) ≡ None
within-above low high n h = grind arith

-- A number that is too great stays so.
pub within-number_after : (low high n : ℕ) (xs : List ℕ) → high < n → within low high (number_after n xs) ≡ None
within-number_after low high n [] h = within-above low high n h
within-number_after low high n (x ∷ xs) h =
    elim (nat_le 48 x && nat_lt x 58) as (λ b. within low high (if b then number_after (10 * n + (x - 48)) xs else None) ≡ None) [
      | true ↦ within-number_after low high (10 * n + (x - 48)) xs (omega arith)
      | false ↦ refl
    ]

-- One more digit takes the number past the range.
pub number_word-above : (low high n : ℕ) (word : List ℕ) (i : ℕ) → 1 ≤ length word → length word ≤ 20 → i < length word → 48 ≤ get_or word i 0 → get_or word i 0 ≤ 57 → high < 10 * n + (get_or word i 0 - 48) → number_after 0 word ≡ number_after n (drop i word) → number_word low high word ≡ None
number_word-above low high n word i some few inside above below past same =
    let digit : (nat_le 48 (get_or word i 0) && nat_lt (get_or word i 0) 58) ≡ true = grind arith in
    let fits : (nat_le 1 (length word) && nat_le (length word) 20) ≡ true = grind arith in
    let next : number_after 0 word ≡ number_after (10 * n + (get_or word i 0 - 48)) (drop (i + 1) word) = same ∙ number_after-drop n word i inside ∙ ap (λ b. if b then number_after (10 * n + (get_or word i 0 - 48)) (drop (i + 1) word) else None) digit in
    ap (λ b. if b then within low high (number_after 0 word) else None) fits ∙ ap (within low high) next ∙ within-number_after low high _ (drop (i + 1) word) past
