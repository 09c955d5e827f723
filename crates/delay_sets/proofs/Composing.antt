-- One relation after another, row by row, and in a row number by number.
use Rattle.std.proofs.Common.{◌≡◌, ◌⊎◌, ℕ, ◌+◌, ◌<◌, ◌≤◌, sym, ◌∙◌, subst, inl, inr, ⊎_elim, arith}
use Rattle.std.proofs.lemmas.Bool.{cases_eq}
use Rattle.site_graph.specs.Bits.{Bits, IsSet, IsOf, AreInOrder, IsWithCommon}
use Rattle.delay_sets.specs.Relations.{HasPairs, IsUnion, Joins, IsComposed, IsWithRow}

-- ---- a union, row by row

pub united_more : (row : ℕ) (old more now new : Bits) → HasPairs old (λ r c. IsSet old r c ⊎ ((r < row) × IsSet more r c)) now
    → IsWithCommon row more row more row now new → HasPairs old (λ r c. IsSet old r c ⊎ ((r < row + 1) × IsSet more r c)) new
united_more row old more now new (a, b, f) w = (
  w.same_rows ∙ a,
  w.same_columns ∙ b,
  λ r c. (
    (λ s. ⊎_elim (λ o. ⊎_elim inl (λ (l, m). inr (omega (arith, l), m)) ((f r c).0 o))
        (λ (e, m, again). inr (omega (arith, e), subst (λ x. IsSet more x c) (sym e) m)) ((w.pairs r c).0 s)),
    (λ s. ⊎_elim (λ o. (w.pairs r c).1 (inl ((f r c).1 (inl o))))
        (λ (l, m). ⊎_elim (λ e. let at = subst (λ x. IsSet more x c) e m in (w.pairs r c).1 (inr (e, at, at)))
        (λ e. (w.pairs r c).1 (inl ((f r c).1 (inr (omega (arith, l, e), m))))) (cases_eq r row)) s),
  ),
)

pub united_all : (n : ℕ) (old more new : Bits) → AreInOrder more → n ≡ more.rows → HasPairs old (λ r c. IsSet old r c ⊎ ((r < n) × IsSet more r c)) new
    → IsUnion old more new
united_all n old more new o e (a, b, f) = (
  a,
  b,
  λ r c. (
    (λ s. ⊎_elim inl (λ (l, m). inr m) ((f r c).0 s)),
    (λ s. (f r c).1 (⊎_elim inl (λ m. inr (omega (arith, (o.within r c m).0, e), m)) s)),
  ),
)

-- ---- a row, number by number

abbrev JoinsBelow : Bits → Bits → (count : ℕ) → (r c : ℕ) → Type 0
JoinsBelow first second count r c = (inner : ℕ) × (inner < count) × IsSet first r inner × IsSet second inner c

abbrev pub RowBelow : (row : ℕ) → Bits → Bits → (count : ℕ) → Bits → Bits → Type 0
RowBelow row first second count old new = HasPairs old (λ r c. IsSet old r c ⊎ ((r ≡ row) × JoinsBelow first second count r c)) new

pub row_joined : (row inner : ℕ) (first second old now new : Bits) → RowBelow row first second inner old now → IsSet first row inner
    → IsWithCommon row second inner second inner now new → RowBelow row first second (inner + 1) old new
row_joined row inner first second old now new (a, b, f) is w = (
  w.same_rows ∙ a,
  w.same_columns ∙ b,
  λ r c. (
    (λ s. ⊎_elim (λ o. ⊎_elim inl (λ (e, (k, l, x, y)). inr (e, (k, omega (arith, l), x, y))) ((f r c).0 o))
        (λ (e, y, again). inr (e, (inner, omega arith, subst (λ x. IsSet first x inner) (sym e) is, y))) ((w.pairs r c).0 s)),
    (λ s. ⊎_elim (λ o. (w.pairs r c).1 (inl ((f r c).1 (inl o))))
        (λ (e, (k, l, x, y)). ⊎_elim (λ q. let at = subst (λ z. IsSet second z c) q y in (w.pairs r c).1 (inr (e, at, at)))
        (λ q. (w.pairs r c).1 (inl ((f r c).1 (inr (e, (k, omega (arith, l, q), x, y)))))) (cases_eq k inner)) s),
  ),
)

pub row_left : (row inner : ℕ) (first second old now : Bits) → RowBelow row first second inner old now → (IsSet first row inner → ⊥)
    → RowBelow row first second (inner + 1) old now
row_left row inner first second old now (a, b, f) none = (
  a,
  b,
  λ r c. (
    (λ s. ⊎_elim inl (λ (e, (k, l, x, y)). inr (e, (k, omega (arith, l), x, y))) ((f r c).0 s)),
    (λ s. ⊎_elim (λ o. (f r c).1 (inl o))
        (λ (e, (k, l, x, y)). ⊎_elim (λ q. absurd (none (subst (λ z. IsSet first row z) q (subst (λ z. IsSet first z k) e x))))
        (λ q. (f r c).1 (inr (e, (k, omega (arith, l, q), x, y)))) (cases_eq k inner)) s),
  ),
)

pub row_all : (row n : ℕ) (first second old new : Bits) → AreInOrder second → n ≡ second.rows → RowBelow row first second n old new
    → IsWithRow row first second old new
row_all row n first second old new o e (a, b, f) = (
  a,
  b,
  λ r c. (
    (λ s. ⊎_elim inl (λ (q, (k, l, x, y)). inr (q, (k, x, y))) ((f r c).0 s)),
    (λ s. (f r c).1 (⊎_elim inl (λ (q, (k, x, y)). inr (q, (k, omega (arith, (o.within k c y).0, e), x, y))) s)),
  ),
)

-- ---- all rows

abbrev pub ComposedBelow : Bits → Bits → (count : ℕ) → Bits → Type 0
ComposedBelow first second count new = IsOf first.rows second.columns (λ r c. (r < count) × Joins first second r c) new

pub composed_more : (first second now new : Bits) (row : ℕ) → AreInOrder second → row < first.rows → ComposedBelow first second row now
    → IsWithRow row first second now new → ComposedBelow first second (row + 1) new
composed_more first second now new row o l h (a, b, f) = record {
  same_rows = a ∙ h.same_rows;
  same_columns = b ∙ h.same_columns;
  pairs = λ r c. (
    (λ s. ⊎_elim (λ t. let (x, y, (z, j)) = (h.pairs r c).0 t in (x, y, (omega (arith, z), j)))
        (λ (e, (k, x, y)). (omega (arith, e, l), (o.within k c y).1, (omega (arith, e), (k, x, y)))) ((f r c).0 s)),
    (λ (x, y, (z, j)). (f r c).1 (⊎_elim (λ e. inr (e, j)) (λ e. inl ((h.pairs r c).1 (x, y, (omega (arith, z, e), j)))) (cases_eq r row))),
  );
}

pub composed_all : (first second new : Bits) (n : ℕ) → first.rows ≤ n → ComposedBelow first second n new → IsComposed first second new
composed_all first second new n l h = record {
  same_rows = h.same_rows;
  same_columns = h.same_columns;
  pairs = λ r c. (
    (λ s. let (x, y, (z, j)) = (h.pairs r c).0 s in (x, y, j)),
    (λ (x, y, j). (h.pairs r c).1 (x, y, (omega (arith, x, l), j))),
  );
}
