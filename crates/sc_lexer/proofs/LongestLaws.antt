-- What an element says of the bytes at its place: no longer mark fits, a comment goes to the first end, and a name
-- goes as far as bytes of a name do.
use Rattle.std.proofs.Common.{◌≡◌, ℕ, zero, suc, ◌+◌, ◌<◌, ◌≤◌, refl, ap, subst, arith, Bool, true, false, cond, List, [], ◌∷◌, length, drop, Option, Some, None, ⊎_elim}
use Rattle.std.specs.Prelude.{◌&&◌, nat_eq, nat_le, find, codes, slice_get}
use Rattle.std.specs.List.{starts_with}
use Rattle.std.proofs.lemmas.Bool.{and_parts, leb-true, cases_Bool}
use Rattle.sc_tree.specs.declared.token.Mark.{Mark}
use Rattle.sc_tree.specs.declared.token.Mark.TheVariants as mark
use Rattle.sc_lexer.specs.Spelling.{mark_text, marks, mark_of}
use Rattle.sc_lexer.specs.Gap.{comment_end, IsFirstEnd, EndsAt, HasNoEnd}

-- ---- marks

-- the longer ones come first
falls_below : ℕ → List Mark → Bool
falls_below k [] = true
falls_below k (m ∷ ms) = nat_le (length (mark_text m)) k && falls_below (length (mark_text m)) ms

no_mark : (n : Mark) → ◌≡◌ {A = Option Mark} None (Some n) → ⊥
no_mark n e = cc

fits_not : (a b : Bool) → a ≡ false → b ≡ true → a ≡ b → ⊥
fits_not a b e f same = cc

same_mark : (m n : Mark) → Some m ≡ Some n → m ≡ n
same_mark m n e = cc

below-all : (k : ℕ) (ms : List Mark) (i : ℕ) (n : Mark) → falls_below k ms ≡ true → slice_get ms i ≡ Some n → length (mark_text n) ≤ k
unfolding falls_below
below-all k [] i n e at = absurd (no_mark n at)
below-all k (m ∷ ms) zero n e at = let P : Mark → Type 0 = λ x. length (mark_text x) ≤ k in subst P (same_mark m n at) (leb-true _ _ (and_parts _ _ e).0)
below-all k (m ∷ ms) (suc i) n e at =
    let parts = and_parts (nat_le (length (mark_text m)) k) _ e in
    let first : length (mark_text m) ≤ k = leb-true _ _ parts.0 in
    let later : length (mark_text n) ≤ length (mark_text m) = below-all (length (mark_text m)) ms i n parts.1 at in
    omega arith

found-here : (x m : Mark) (o : Option Mark) (b : Bool) → b ≡ true → cond b (Some x) o ≡ Some m → x ≡ m
found-here x m o true e f = cc
found-here x m o false e f = cc

found-later : (x m : Mark) (o : Option Mark) (b : Bool) → b ≡ false → cond b (Some x) o ≡ Some m → o ≡ Some m
found-later x m o true e f = cc
found-later x m o false e f = f

-- of the marks that fit, the first of the list is the longest
first-longest : (p : Mark → Bool) (k : ℕ) (ms : List Mark) (i : ℕ) (m n : Mark) → falls_below k ms ≡ true → find p ms ≡ Some m → slice_get ms i ≡ Some n → p n ≡ true → length (mark_text n) ≤ length (mark_text m)
unfolding falls_below
first-longest p k [] i m n e f at fits = absurd (no_mark n at)
first-longest p k (x ∷ xs) i m n e f at fits = ⊎_elim
    (λ here.
    let same = found-here x m (find p xs) (p x) here f in
    let whole = and_parts (nat_le (length (mark_text x)) k) _ e in
    let P : Mark → Type 0 = λ y. length (mark_text n) ≤ length (mark_text y) in
    subst P same (at-most x xs i n whole.1 at))
    (λ later. rest-longest p x xs i m n (and_parts (nat_le (length (mark_text x)) k) _ e).1 (found-later x m (find p xs) (p x) later f) at fits later (λ j at'. first-longest p (length (mark_text x)) xs j m n (and_parts (nat_le (length (mark_text x)) k) _ e).1 (found-later x m (find p xs) (p x) later f) at' fits))
    (cases_Bool (p x))
  where
    at-most : (x : Mark) (xs : List Mark) (i : ℕ) (n : Mark) → falls_below (length (mark_text x)) xs ≡ true → slice_get (x ∷ xs) i ≡ Some n → length (mark_text n) ≤ length (mark_text x)
    at-most x xs zero n e at = let P : Mark → Type 0 = λ y. length (mark_text y) ≤ length (mark_text x) in subst P (same_mark x n at) (omega arith)
    at-most x xs (suc i) n e at = below-all (length (mark_text x)) xs i n e at

    rest-longest : (p : Mark → Bool) (x : Mark) (xs : List Mark) (i : ℕ) (m n : Mark) → falls_below (length (mark_text x)) xs ≡ true → find p xs ≡ Some m → slice_get (x ∷ xs) i ≡ Some n → p n ≡ true → p x ≡ false → ((j : ℕ) → slice_get xs j ≡ Some n → length (mark_text n) ≤ length (mark_text m)) → length (mark_text n) ≤ length (mark_text m)
    rest-longest p x xs zero m n e f at fits fails go = let same : p x ≡ p n = ap p (same_mark x n at) in absurd (fits_not (p x) (p n) fails fits same)
    rest-longest p x xs (suc j) m n e f at fits fails go = go j at

pub place-of : Mark → ℕ
place-of mark.ShiftLeftEqual = 0
place-of mark.ShiftRightEqual = 1
place-of mark.ColonColon = 2
place-of mark.ColonEqual = 3
place-of mark.ColonMinus = 4
place-of mark.EqualEqual = 5
place-of mark.NotEqual = 6
place-of mark.LessEqual = 7
place-of mark.GreaterEqual = 8
place-of mark.ShiftLeft = 9
place-of mark.ShiftRight = 10
place-of mark.AndAnd = 11
place-of mark.OrOr = 12
place-of mark.PlusPlus = 13
place-of mark.MinusMinus = 14
place-of mark.PlusEqual = 15
place-of mark.MinusEqual = 16
place-of mark.StarEqual = 17
place-of mark.SlashEqual = 18
place-of mark.PercentEqual = 19
place-of mark.AndEqual = 20
place-of mark.OrEqual = 21
place-of mark.CaretEqual = 22
place-of mark.OpenRound = 23
place-of mark.CloseRound = 24
place-of mark.OpenSquare = 25
place-of mark.CloseSquare = 26
place-of mark.OpenCurly = 27
place-of mark.CloseCurly = 28
place-of mark.Semicolon = 29
place-of mark.Comma = 30
place-of mark.Question = 31
place-of mark.Colon = 32
place-of mark.Equal = 33
place-of mark.Plus = 34
place-of mark.Minus = 35
place-of mark.Star = 36
place-of mark.Slash = 37
place-of mark.Percent = 38
place-of mark.And = 39
place-of mark.Or = 40
place-of mark.Caret = 41
place-of mark.Tilde = 42
place-of mark.Not = 43
place-of mark.Less = 44
place-of mark.Greater = 45

pub is-placed : (m : Mark) → slice_get marks (place-of m) ≡ Some m
unfolding place-of
is-placed mark.ShiftLeftEqual = refl
is-placed mark.ShiftRightEqual = refl
is-placed mark.ColonColon = refl
is-placed mark.ColonEqual = refl
is-placed mark.ColonMinus = refl
is-placed mark.EqualEqual = refl
is-placed mark.NotEqual = refl
is-placed mark.LessEqual = refl
is-placed mark.GreaterEqual = refl
is-placed mark.ShiftLeft = refl
is-placed mark.ShiftRight = refl
is-placed mark.AndAnd = refl
is-placed mark.OrOr = refl
is-placed mark.PlusPlus = refl
is-placed mark.MinusMinus = refl
is-placed mark.PlusEqual = refl
is-placed mark.MinusEqual = refl
is-placed mark.StarEqual = refl
is-placed mark.SlashEqual = refl
is-placed mark.PercentEqual = refl
is-placed mark.AndEqual = refl
is-placed mark.OrEqual = refl
is-placed mark.CaretEqual = refl
is-placed mark.OpenRound = refl
is-placed mark.CloseRound = refl
is-placed mark.OpenSquare = refl
is-placed mark.CloseSquare = refl
is-placed mark.OpenCurly = refl
is-placed mark.CloseCurly = refl
is-placed mark.Semicolon = refl
is-placed mark.Comma = refl
is-placed mark.Question = refl
is-placed mark.Colon = refl
is-placed mark.Equal = refl
is-placed mark.Plus = refl
is-placed mark.Minus = refl
is-placed mark.Star = refl
is-placed mark.Slash = refl
is-placed mark.Percent = refl
is-placed mark.And = refl
is-placed mark.Or = refl
is-placed mark.Caret = refl
is-placed mark.Tilde = refl
is-placed mark.Not = refl
is-placed mark.Less = refl
is-placed mark.Greater = refl

pub longest-mark : (bytes : List ℕ) (m n : Mark) → mark_of bytes ≡ Some m → starts_with nat_eq bytes (mark_text n) ≡ true → length (mark_text n) ≤ length (mark_text m)
unfolding mark_of falls_below
longest-mark bytes m n found fits = first-longest (λ x. starts_with nat_eq bytes (mark_text x)) 3 marks (place-of n) m n refl found (is-placed n) fits

-- ---- comments

some_same : (a b : ℕ) → Some a ≡ Some b → a ≡ b
some_same a b e = cc

end-cases : (s : Bool) (place : ℕ) (b : ℕ) (bs : List ℕ) (o : Option ℕ) (e : ℕ) → starts_with nat_eq (b ∷ bs) (codes "*/") ≡ s → cond s (Some (place + 2)) o ≡ Some e → (o ≡ Some e → EndsAt (place + 1) bs e) → EndsAt place (b ∷ bs) e
end-cases true place b bs o e is found more =
    let same : place + 2 ≡ e = some_same _ _ found in
    (0, omega arith, record { ends = is; first = λ k below. absurd (omega arith) })
end-cases false place b bs o e is found more =
    let rest = more found in
    (suc rest.0, omega (arith, rest.1), record { ends = rest.2.ends; first = λ k below. earlier b bs rest.0 rest.2 is k below })
  where
    earlier : (b : ℕ) (bs : List ℕ) (n : ℕ) → IsFirstEnd bs n → starts_with nat_eq (b ∷ bs) (codes "*/") ≡ false → (k : ℕ) → k < suc n → starts_with nat_eq (drop k (b ∷ bs)) (codes "*/") ≡ false
    earlier b bs n rest is zero below = is
    earlier b bs n rest is (suc k) below = rest.first k (omega arith)

pub comment_end-first : (place : ℕ) (bytes : List ℕ) (e : ℕ) → comment_end place bytes ≡ Some e → EndsAt place bytes e
comment_end-first place [] e found = absurd (none_some e found)
  where
    none_some : (e : ℕ) → ◌≡◌ {A = Option ℕ} None (Some e) → ⊥
    none_some e f = cc
comment_end-first place (b ∷ bs) e found = end-cases (starts_with nat_eq (b ∷ bs) (codes "*/")) place b bs (comment_end (place + 1) bs) e refl found (comment_end-first (place + 1) bs e)

-- where no end is found there is none
no-end-cons : (b : ℕ) (bs : List ℕ) → starts_with nat_eq (b ∷ bs) (codes "*/") ≡ false → HasNoEnd bs → HasNoEnd (b ∷ bs)
no-end-cons b bs is rest zero = is
no-end-cons b bs is rest (suc k) = rest k

no-end-cases : (s : Bool) (place : ℕ) (o : Option ℕ) → cond s (Some place) o ≡ None → (s ≡ false) × (o ≡ None)
no-end-cases true place o e = cc
no-end-cases false place o e = (refl, e)

no-end-nil : (k : ℕ) → starts_with nat_eq (drop k []) (codes "*/") ≡ false
no-end-nil zero = refl
no-end-nil (suc k) = refl

pub comment_end-none : (place : ℕ) (bytes : List ℕ) → comment_end place bytes ≡ None → HasNoEnd bytes
comment_end-none place [] e = no-end-nil
comment_end-none place (b ∷ bs) e =
    let both = no-end-cases (starts_with nat_eq (b ∷ bs) (codes "*/")) (place + 2) (comment_end (place + 1) bs) e in
    no-end-cons b bs both.0 (comment_end-none (place + 1) bs both.1)
