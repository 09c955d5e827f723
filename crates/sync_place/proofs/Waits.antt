-- Lists of numbers in rising order, one number after another.
use Rattle.std.proofs.Common.{◌≡◌, ◌↔◌, ℕ, ◌+◌, ◌<◌, ◌≤◌, List, [], ◌∷◌, ◌++◌, Bool, true, false, ltb, Some, length, get_or, refl, sym, ap, ◌∙◌, subst, ⊎_elim, arith}
use Rattle.std.specs.List.{Contains}
use Rattle.std.proofs.lemmas.Bool.{cases_eq, lt-ltb}
use Rattle.std.proofs.lemmas.List.{length_push, get_or_push, get_or_append_left}
use Rattle.std.proofs.lemmas.List.Elements.{Contains-append_left, Contains-push, Contains-push_cases, Contains-get_or}
use Rattle.std.proofs.lemmas.List.Quantifiers.{all_pairs_push}
use Rattle.std.proofs.lemmas.Option.{slice_get_within, slice_get-get_or, get_or_from_slice_get}
use Rattle.site_graph.specs.Bits.{Bits, IsSet}
use Rattle.site_graph.specs.Graph.{Graph, kind_at, is_barrier}
use Rattle.site_graph.specs.Rising.{IsRising}
use Rattle.site_graph.proofs.Members.{in_nil}
use Rattle.sync_place.specs.Waiting.{OnlyBarriers, GoesByFirst, AreMarks, AreMarked, IsWaitRow, AreWaitRows}

-- the numbers below n with P, rising
pub record AreNumbers (P : ℕ → Type 0) (n : ℕ) (row : List ℕ) : Type 0 where
  pub rising : IsRising ltb row
  pub numbers : (s : ℕ) → Contains row s ↔ ((s < n) × P s)

pub no_numbers : (P : ℕ → Type 0) (row : List ℕ) → row ≡ [] → AreNumbers P 0 row
no_numbers P row e = subst (AreNumbers P 0) (sym e) (record {
  rising = λ i j d l h. absurd (omega arith);
  numbers = λ s. (λ i. absurd (in_nil s i), λ q. absurd (omega (arith, q.0)));
})

pub number_in : (P : ℕ → Type 0) (n : ℕ) (row more : List ℕ) → P n → more ≡ row ++ n ∷ [] → AreNumbers P n row → AreNumbers P (n + 1) more
number_in P n row more p e a = subst (AreNumbers P (n + 1)) (sym e) (record {
  rising = all_pairs_push (λ x y. ltb x y ≡ true) row n a.rising (λ k d l. lt-ltb (get_or row k d) n ((a.numbers (get_or row k d)).0 (Contains-get_or row k d l)).0);
  numbers = λ s. (
    (λ i. ⊎_elim (λ j. let q = (a.numbers s).0 j in (omega (arith, q.0), q.1)) (λ q. (omega arith, subst P q p)) (Contains-push_cases row n s i)),
    (λ q. ⊎_elim (λ c. subst (Contains (row ++ n ∷ [])) (sym c) (Contains-push row n))
        (λ c. Contains-append_left row (n ∷ []) s ((a.numbers s).1 (omega (arith, q.0, c), q.1))) (cases_eq s n)),
  );
})

pub number_out : (P : ℕ → Type 0) (n : ℕ) (row : List ℕ) → (P n → ⊥) → AreNumbers P n row → AreNumbers P (n + 1) row
number_out P n row p a = record {
  rising = a.rising;
  numbers = λ s. (
    (λ i. let q = (a.numbers s).0 i in (omega (arith, q.0), q.1)),
    (λ q. ⊎_elim (λ c. absurd (p (subst P c q.1))) (λ c. (a.numbers s).1 (omega (arith, q.0, c), q.1)) (cases_eq s n)),
  );
}

-- ---- the sites that a point waits for

abbrev pub Waited : (first : Bits) (marks : List Bool) (at : ℕ) → ℕ → Type 0
Waited first marks at s = IsSet first s at × (get_or marks s false ≡ false)

pub wait_row : (first : Bits) (marks : List Bool) (at n : ℕ) (row : List ℕ) → first.rows ≤ n → n ≤ first.rows → AreNumbers (Waited first marks at) n row → IsWaitRow first marks at first.rows row
wait_row first marks at n row l h a = record {
  rising = a.rising;
  sites = λ s. (
    (λ i. let q = (a.numbers s).0 i in (omega (arith, q.0), q.1.0, q.1.1)),
    (λ q. (a.numbers s).1 (omega (arith, q.0), (q.1, q.2))),
  );
}

pub marked_row : (marks : List Bool) (n : ℕ) (row : List ℕ) → length marks ≤ n → n ≤ length marks → AreNumbers (λ s. get_or marks s false ≡ true) n row → AreMarked marks (length marks) row
marked_row marks n row l h a = record {
  rising = a.rising;
  sites = λ s. (
    (λ i. let q = (a.numbers s).0 i in (omega (arith, q.0), q.1)),
    (λ q. (a.numbers s).1 (omega (arith, q.0), q.1)),
  );
}

-- ---- rows, and marks, one after another

pub no_rows : (first : Bits) (marks : List Bool) (rows : List (List ℕ)) → rows ≡ [] → AreWaitRows first marks 0 rows
no_rows first marks rows e = subst (AreWaitRows first marks 0) (sym e) (record { count = refl; each = λ t row s. absurd (omega (arith, slice_get_within [] t row s)) })

pub more_rows : (first : Bits) (marks : List Bool) (n : ℕ) (row : List ℕ) (rows more : List (List ℕ)) → IsWaitRow first marks n first.rows row → more ≡ rows ++ row ∷ []
    → AreWaitRows first marks n rows → AreWaitRows first marks (n + 1) more
more_rows first marks n row rows more is e a = subst (AreWaitRows first marks (n + 1)) (sym e) (record {
  count = length_push rows row ∙ ap (λ m. m + 1) a.count;
  each = λ t r s.
      let here = get_or_from_slice_get (rows ++ row ∷ []) t r row s in
      let l = slice_get_within (rows ++ row ∷ []) t r s in
      ⊎_elim
      (λ c. let same : row ≡ r = sym (get_or_push rows row row t (a.count ∙ sym c)) ∙ here in
      subst (λ x. IsWaitRow first marks x first.rows r) (sym c) (subst (IsWaitRow first marks n first.rows) same is))
      (λ c. let low : t < length rows = omega (arith, l, length_push rows row, a.count) in
      a.each t r (slice_get-get_or rows t row low ∙ ap Some (sym (get_or_append_left rows (row ∷ []) row t low) ∙ here)))
      (cases_eq t n);
})

pub no_marks : (graph : Graph) (first : Bits) (marks : List Bool) → marks ≡ [] → AreMarks graph first 0 marks
no_marks graph first marks e = subst (AreMarks graph first 0) (sym e) (record { count = refl; each = λ k l. absurd (omega arith) })

pub more_marks : (graph : Graph) (first : Bits) (n : ℕ) (b : Bool) (marks more : List Bool) → ((b ≡ true) ↔ GoesByFirst graph first n) → more ≡ marks ++ b ∷ []
    → AreMarks graph first n marks → AreMarks graph first (n + 1) more
more_marks graph first n b marks more is e a = subst (AreMarks graph first (n + 1)) (sym e) (record {
  count = length_push marks b ∙ ap (λ m. m + 1) a.count;
  each = λ k l. ⊎_elim
      (λ c. let same = get_or_push marks b false k (a.count ∙ sym c) in
      subst (λ x. (x ≡ true) ↔ GoesByFirst graph first k) (sym same) (subst (λ x. (b ≡ true) ↔ GoesByFirst graph first x) (sym c) is))
      (λ c. let same = get_or_append_left marks (b ∷ []) false k (omega (arith, a.count)) in
      subst (λ x. (x ≡ true) ↔ GoesByFirst graph first k) (sym same) (a.each k (omega arith)))
      (cases_eq k n);
})

-- ---- whether only barriers are set

pub no_barriers : (graph : Graph) (first : Bits) (number : ℕ) → OnlyBarriers graph first number 0
no_barriers graph first number t l s = absurd (omega arith)

pub more_barriers : (graph : Graph) (first : Bits) (number n : ℕ) → (IsSet first number n → is_barrier (kind_at graph n) ≡ true) → OnlyBarriers graph first number n
    → OnlyBarriers graph first number (n + 1)
more_barriers graph first number n h o t l s = ⊎_elim
    (λ c. subst (λ x. is_barrier (kind_at graph x) ≡ true) (sym c) (h (subst (IsSet first number) c s)))
    (λ c. o t (omega arith) s) (cases_eq t n)
