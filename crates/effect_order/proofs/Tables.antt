-- Facts about the rows of the smallest run with a barrier, by computing a test of each row or of each two.
use Rattle.std.proofs.Common.{◌≡◌, ℕ, zero, suc, ◌<◌, List, [], ◌∷◌, length, refl, sym, subst, inl, inr, ⊎_elim, arith, Bool, true, false, not, ◌&&◌, ◌||◌}
use Rattle.std.proofs.lemmas.Bool.{and_parts, or_cases, or_left, or_right, cases_lt}
use Rattle.effect_order.specs.Lists.{In, Each, Pairs}
use Rattle.effect_order.specs.Meeting.{Row, rows, some_row}
use Rattle.effect_order.specs.Needed.{row_at}

abbrev pub every : (Row → Bool) → List Row → Bool
every test [] = true
every test (e ∷ es) = test e && every test es

pub each_of : (test : Row → Bool) (es : List Row) → every test es ≡ true → (e : Row) → In e es → test e ≡ true
each_of test [] h e i = absurd i
each_of test (x ∷ es) h e (inl q) = subst (λ u. test u ≡ true) (sym q) (and_parts (test x) (every test es) h).0
each_of test (x ∷ es) h e (inr i) = each_of test es (and_parts (test x) (every test es) h).1 e i

pub each_row : (test : Row → Bool) → every test rows ≡ true → (e : Row) → In e rows → test e ≡ true
each_row test h e i = each_of test rows h e i

pub each_two : (test : Row → Row → Bool) → every (λ e. every (test e) rows) rows ≡ true → (e f : Row) → In e rows → In f rows → test e f ≡ true
each_two test h e f i j = each_of (test e) rows (each_of (λ e. every (test e) rows) rows h e i) f j

-- of each two, the earlier first
abbrev pub every_pair : (Row → Row → Bool) → List Row → Bool
every_pair test [] = true
every_pair test (e ∷ es) = every (test e) es && every_pair test es

each_list : (test : Row → Bool) (es : List Row) → every test es ≡ true → Each (λ e. test e ≡ true) es
each_list test [] h = tt
each_list test (e ∷ es) h = let p = and_parts (test e) (every test es) h in (p.0, each_list test es p.1)

pub each_pair : (test : Row → Row → Bool) (es : List Row) → every_pair test es ≡ true → Pairs (λ a b. test a b ≡ true) es
each_pair test [] h = tt
each_pair test (e ∷ es) h =
    let p = and_parts (every (test e) es) (every_pair test es) h in
    (each_list (test e) es p.0, each_pair test es p.1)

-- of each number below n
abbrev pub every_below : ℕ → (ℕ → Bool) → Bool
every_below zero test = true
every_below (suc n) test = test n && every_below n test

pub below : (n : ℕ) (test : ℕ → Bool) → every_below n test ≡ true → (i : ℕ) → i < n → test i ≡ true
below zero test h i t = absurd (omega arith)
below (suc n) test h i t =
    let p = and_parts (test n) (every_below n test) h in
    ⊎_elim
    (λ l. below n test p.1 i l)
    (λ l. let e : i ≡ n = omega arith in subst (λ u. test u ≡ true) (sym e) p.0)
    (cases_lt i n)

-- where the first holds, so does the second
abbrev pub implies : Bool → Bool → Bool
implies a b = not a || b

pub holds : (a b : Bool) → implies a b ≡ true → a ≡ true → b ≡ true
holds true b h e = h
holds false b h e = absurd (cc)

pub in_at : (es : List Row) (n : ℕ) → n < length es → In (row_at es n) es
in_at [] n t = absurd (omega arith)
in_at (e ∷ es) zero t = inl refl
in_at (e ∷ es) (suc n) t = inr (in_at es n (omega arith))

pub some_from : (test : Row → Bool) (es : List Row) (e : Row) → In e es → test e ≡ true → some_row test es ≡ true
some_from test [] e i h = absurd i
some_from test (x ∷ es) e (inl q) h = or_left (test x) (some_row test es) (subst (λ u. test u ≡ true) q h)
some_from test (x ∷ es) e (inr i) h = or_right (test x) (some_row test es) (some_from test es e i h)

pub some_of : (test : Row → Bool) (es : List Row) → some_row test es ≡ true → (e : Row) × In e es × (test e ≡ true)
some_of test [] h = absurd (cc)
some_of test (x ∷ es) h =
    ⊎_elim
    (λ t. (x, inl refl, t))
    (λ t. let p = some_of test es t in (p.0, inr p.1, p.2))
    (or_cases (test x) (some_row test es) h)
