-- Paths by their inner numbers, after Warshall (1962): those below the next number are those below this one, or go to it
-- and from it.
use Rattle.std.proofs.Common.{◌≡◌, ◌⊎◌, ℕ, ◌+◌, ◌<◌, List, [], ◌∷◌, ◌++◌, refl, sym, ◌∙◌, subst, inl, inr, ⊎_elim, arith}
use Rattle.std.proofs.lemmas.Bool.{cases_eq}
use Rattle.effect_order.specs.Flow.{PathBy, LeadsBy}
use Rattle.site_graph.specs.Bits.{Bits, IsSet, AreInOrder, IsJoined}
use Rattle.delay_sets.specs.Relations.{HasPairs, IsClosed, IsStep}

-- ---- paths

module _ (R : ℕ → ℕ → Type 0) where
  -- a path with inner numbers below this one
  abbrev pub Below : (inner : ℕ) → ℕ → ℕ → Type 0
  Below inner a b = LeadsBy R (λ z. z < inner) a b

  joined_paths : (inner : ℕ) (a : ℕ) (xs : List ℕ) (m : ℕ) (ys : List ℕ) (b : ℕ) → m < inner → PathBy R (λ z. z < inner) a xs m
      → PathBy R (λ z. z < inner) m ys b → PathBy R (λ z. z < inner) a (xs ++ m ∷ ys) b
  joined_paths inner a [] m ys b l p q = (p, l, q)
  joined_paths inner a (x ∷ xs) m ys b l (r, k, p) q = (r, k, joined_paths inner x xs m ys b l p q)

  more_inner : (inner : ℕ) (a : ℕ) (xs : List ℕ) (b : ℕ) → PathBy R (λ z. z < inner) a xs b → PathBy R (λ z. z < inner + 1) a xs b
  more_inner inner a [] b p = p
  more_inner inner a (x ∷ xs) b (r, k, p) = (r, omega arith, more_inner inner x xs b p)

  abbrev Stepped : (inner : ℕ) → ℕ → ℕ → Type 0
  Stepped inner a b = Below inner a b ⊎ (Below inner a inner × Below inner inner b)

  split_path : (inner : ℕ) (a : ℕ) (xs : List ℕ) (b : ℕ) → PathBy R (λ z. z < inner + 1) a xs b → Stepped inner a b
  split_path inner a [] b p = inl ([], p)
  split_path inner a (x ∷ xs) b (r, k, p) =
      ⊎_elim
      (λ e. let to : Below inner a inner = ([], subst (R a) e r) in
      ⊎_elim (λ (ys, q). inr (to, subst (λ y. Below inner y b) e (ys, q))) (λ (q, (zs, s)). inr (to, (zs, s))) (split_path inner x xs b p))
      (λ e. let low : x < inner = omega (arith, k, e) in
      ⊎_elim (λ (ys, q). inl (x ∷ ys, (r, low, q))) (λ ((ys, q), s). inr ((x ∷ ys, (r, low, q)), s)) (split_path inner x xs b p))
      (cases_eq x inner)

  step_from : (inner a b : ℕ) → Below (inner + 1) a b → Stepped inner a b
  step_from inner a b (xs, p) = split_path inner a xs b p

  step_to : (inner a b : ℕ) → Stepped inner a b → Below (inner + 1) a b
  step_to inner a b (inl (xs, p)) = (xs, more_inner inner a xs b p)
  step_to inner a b (inr ((xs, p), (ys, q))) =
      (xs ++ inner ∷ ys, joined_paths (inner + 1) a xs inner ys b (omega arith) (more_inner inner a xs inner p) (more_inner inner inner ys b q))

  none_inner : (a b : ℕ) → Below 0 a b → R a b
  none_inner a b ([], p) = p
  none_inner a b (x ∷ xs, (r, k, p)) = absurd (omega (arith, k))

  -- below a number that bounds all members, the inner numbers do not matter
  all_inner : (n : ℕ) → ((a b : ℕ) → R a b → a < n) → (a : ℕ) (xs : List ℕ) (b : ℕ) → PathBy R (λ z. Unit {0}) a xs b → PathBy R (λ z. z < n) a xs b
  all_inner n within a [] b p = p
  all_inner n within a (x ∷ xs) b (r, k, p) = (r, starts_within n within x xs b p, all_inner n within x xs b p)
    where
      starts_within : (n : ℕ) → ((a b : ℕ) → R a b → a < n) → (a : ℕ) (xs : List ℕ) (b : ℕ) → PathBy R (λ z. Unit {0}) a xs b → a < n
      starts_within n within a [] b p = within a b p
      starts_within n within a (x ∷ xs) b (r, k, p) = within a x r

  any_inner : (n : ℕ) (a : ℕ) (xs : List ℕ) (b : ℕ) → PathBy R (λ z. z < n) a xs b → PathBy R (λ z. Unit {0}) a xs b
  any_inner n a [] b p = p
  any_inner n a (x ∷ xs) b (r, k, p) = (r, tt, any_inner n x xs b p)

-- ---- the loop over inner numbers

abbrev pub ClosedBelow : Bits → (inner : ℕ) → Bits → Type 0
ClosedBelow old inner new = HasPairs old (Below (IsSet old) inner) new

pub closed_none : (old : Bits) → ClosedBelow old 0 old
closed_none old = (refl, refl, λ r c. (λ s. ([], s), λ p. none_inner (IsSet old) r c p))

pub closed_more : (old now new : Bits) (inner : ℕ) → ClosedBelow old inner now → IsStep inner now new → ClosedBelow old (inner + 1) new
closed_more old now new inner (a, b, f) (d, e, g) = (
  d ∙ a,
  e ∙ b,
  λ r c. (
    (λ s. step_to (IsSet old) inner r c (⊎_elim (λ t. inl ((f r c).0 t)) (λ (t, u). inr ((f r inner).0 t, (f inner c).0 u)) ((g r c).0 s))),
    (λ p. (g r c).1 (⊎_elim (λ t. inl ((f r c).1 t)) (λ (t, u). inr ((f r inner).1 t, (f inner c).1 u)) (step_from (IsSet old) inner r c p))),
  ),
)

pub closed_all : (old new : Bits) (n : ℕ) → ((r c : ℕ) → IsSet old r c → r < n) → ClosedBelow old n new → IsClosed old new
closed_all old new n within (a, b, f) = (
  a,
  b,
  λ r c. (
    (λ s. let (xs, p) = (f r c).0 s in (xs, any_inner (IsSet old) n r xs c p)),
    (λ (xs, p). (f r c).1 (xs, all_inner (IsSet old) n within r xs c p)),
  ),
)

-- ---- the loop over rows

abbrev Gained : (inner : ℕ) → Bits → (r c : ℕ) → Type 0
Gained inner old r c = IsSet old r inner × IsSet old inner c

abbrev pub SteppedBelow : (inner row : ℕ) → Bits → Bits → Type 0
SteppedBelow inner row old new = HasPairs old (λ r c. IsSet old r c ⊎ ((r < row) × Gained inner old r c)) new

pub stepped_none : (inner : ℕ) (old : Bits) → SteppedBelow inner 0 old old
stepped_none inner old = (refl, refl, λ r c. (λ s. inl s, λ s. ⊎_elim (λ o. o) (λ (l, g). absurd (omega (arith, l))) s))

-- the row `inner` is as it was
same_inner : (inner row c : ℕ) (old now : Bits) → SteppedBelow inner row old now → IsSet now inner c → IsSet old inner c
same_inner inner row c old now (a, b, f) s = ⊎_elim (λ o. o) (λ (l, g). g.1) ((f inner c).0 s)

pub stepped_joined : (inner row : ℕ) (old now new : Bits) → SteppedBelow inner row old now → IsSet now row inner → IsJoined row inner now new
    → SteppedBelow inner (row + 1) old new
stepped_joined inner row old now new h is j = (
  j.same_rows ∙ h.0,
  j.same_columns ∙ h.1,
  λ r c. (
    (λ s. ⊎_elim (λ o. ⊎_elim inl (λ (l, g). inr (omega (arith, l), g)) ((h.2 r c).0 o))
        (λ (e, t). inr (omega (arith, e), (subst (λ x. IsSet old x inner) (sym e) at_row, same_inner inner row c old now h t))) ((j.pairs r c).0 s)),
    (λ s. ⊎_elim (λ o. (j.pairs r c).1 (inl ((h.2 r c).1 (inl o))))
        (λ (l, g). ⊎_elim (λ e. (j.pairs r c).1 (inr (e, (h.2 inner c).1 (inl g.1)))) (λ e. (j.pairs r c).1 (inl ((h.2 r c).1 (inr (omega (arith, l, e), g))))) (cases_eq r row)) s),
  ),
)
  where
    at_row : IsSet old row inner
    at_row = ⊎_elim (λ o. o) (λ (l, g). g.0) ((h.2 row inner).0 is)

pub stepped_left : (inner row : ℕ) (old now : Bits) → SteppedBelow inner row old now → (IsSet now row inner → ⊥) → SteppedBelow inner (row + 1) old now
stepped_left inner row old now h none = (
  h.0,
  h.1,
  λ r c. (
    (λ s. ⊎_elim inl (λ (l, g). inr (omega (arith, l), g)) ((h.2 r c).0 s)),
    (λ s. ⊎_elim (λ o. (h.2 r c).1 (inl o))
        (λ (l, g). ⊎_elim (λ e. absurd (none ((h.2 row inner).1 (inl (subst (λ x. IsSet old x inner) e g.0))))) (λ e. (h.2 r c).1 (inr (omega (arith, l, e), g))) (cases_eq r row)) s),
  ),
)

pub stepped_all : (inner n : ℕ) (old new : Bits) → AreInOrder old → n ≡ old.rows → SteppedBelow inner n old new → IsStep inner old new
stepped_all inner n old new o e h = (
  h.0,
  h.1,
  λ r c. (
    (λ s. ⊎_elim inl (λ (l, g). inr g) ((h.2 r c).0 s)),
    (λ s. (h.2 r c).1 (⊎_elim inl (λ g. inr (omega (arith, (o.within r inner g.0).0, e), g)) s)),
  ),
)
