-- Texts made one part after another.
use Rattle.std.proofs.Common.{◌≡◌, ◌≢◌, ℕ, zero, suc, ◌+◌, ◌-◌, List, [], ◌∷◌, ◌++◌, length, slice_get, Option, Some}
use Rattle.std.proofs.Common.{None, true, false, ◌==◌, if◌then◌else◌, refl, sym, ap, ◌∙◌, arith, add-zero, add-one}
use Rattle.std.proofs.Common.{zero-add, append_assoc}
use Rattle.std.proofs.lemmas.List.{append-nil}
use Rattle.run_report.specs.Report.{each_from, whole_lines}

-- one part more at the end
each_from-last : (first count : ℕ) (text : ℕ → List ℕ) →
    each_from first (suc count) text ≡ each_from first count text ++ text (first + count)
each_from-last first zero text = append-nil (text first) ∙ ap text (sym (add-zero first))
each_from-last first (suc count) text =
    let index : first + 1 + count ≡ first + suc count = omega arith in
    ap (λ r. text first ++ r) (each_from-last (first + 1) count text)
    ∙ sym (append_assoc (text first) (each_from (first + 1) count text) (text (first + 1 + count)))
    ∙ ap (λ i. (text first ++ each_from (first + 1) count text) ++ text i) index

pub each_added : (new old begun : List ℕ) (count : ℕ) (text : ℕ → List ℕ) → new ≡ old ++ text count →
    old ≡ begun ++ each_from 0 count text → new ≡ begun ++ each_from 0 (count + 1) text
each_added new old begun count text added so_far =
    added ∙ ap (λ r. r ++ text count) so_far ∙ append_assoc begun (each_from 0 count text) (text count)
    ∙ ap (λ r. begun ++ r)
    (sym (each_from-last 0 count text ∙ ap (λ n. each_from 0 count text ++ text n) (zero-add count)))
    ∙ ap (λ n. begun ++ each_from 0 n text) (sym (add-one count))

-- a newline where this is the last byte
abbrev pub newline_after : Option ℕ → List ℕ
newline_after None = []
newline_after (Some x) = if x == 10 then [] else 10 ∷ []

whole_lines-cons : (x : ℕ) (xs : List ℕ) →
    whole_lines (x ∷ xs) ≡ (x ∷ xs) ++ newline_after (slice_get (x ∷ xs) (length xs))
whole_lines-cons x [] = elim (x == 10) as
    (λ b. (if b then x ∷ [] else x ∷ 10 ∷ []) ≡ x ∷ (if b then [] else 10 ∷ [])) [ true ↦ refl | false ↦ refl ]
whole_lines-cons x (y ∷ rest) = ap (λ r. x ∷ r) (whole_lines-cons y rest)

whole_lines-last : (text : List ℕ) (last : Option ℕ) → last ≡ slice_get text (length text - 1) →
    whole_lines text ≡ text ++ newline_after last
whole_lines-last [] last h = rw h refl
whole_lines-last (x ∷ xs) last h =
    let at : length xs ≡ length (x ∷ xs) - 1 = omega arith in
    whole_lines-cons x xs ∙ ap (λ n. (x ∷ xs) ++ newline_after (slice_get (x ∷ xs) n)) at
    ∙ ap (λ l. (x ∷ xs) ++ newline_after l) (sym h)

pub whole_lines-open : (new old before text : List ℕ) (x : ℕ) → Some x ≡ slice_get text (length text - 1) → x ≢ 10 →
    old ≡ before ++ text → new ≡ old ++ 10 ∷ [] → new ≡ before ++ whole_lines text
whole_lines-open new old before text x here other copied pushed =
    let no : (x == 10) ≡ false = grind arith in
    let line : newline_after (Some x) ≡ 10 ∷ [] = ap (λ b. if b then [] else 10 ∷ []) no in
    pushed ∙ ap (λ r. r ++ 10 ∷ []) copied ∙ append_assoc before text (10 ∷ [])
    ∙ ap (λ r. before ++ (text ++ r)) (sym line)
    ∙ ap (λ r. before ++ r) (sym (whole_lines-last text (Some x) here))

pub whole_lines-closed : (old before text : List ℕ) (last : Option ℕ) → last ≡ slice_get text (length text - 1) →
    newline_after last ≡ [] → old ≡ before ++ text → old ≡ before ++ whole_lines text
whole_lines-closed old before text last here none copied =
    copied ∙ ap (λ r. before ++ r) (sym (whole_lines-last text last here ∙ ap (λ r. text ++ r) none ∙ append-nil text))
