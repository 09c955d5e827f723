-- Reads are numbered in order of issue, and each lands once: so the values that land are those of an oracle, which
-- may be chosen
-- as they land.
use Rattle.std.proofs.Common.{◌≡◌, ◌⊎◌, inl, inr, ℕ, suc, ◌<◌, ◌≤◌, ◌==◌, List, [], ◌∷◌, ◌++◌, length, map, Some, None, Bool, true, false, ◌&&◌, not, slice_get, if◌then◌else◌, refl, ap, ◌∙◌, arith, get_or}
use Rattle.std.specs.Prelude.{pos}
use Rattle.std.proofs.lemmas.Bool.{and_parts}
use Rattle.std.proofs.lemmas.Bool.Decides.{Decides-eqb}
use Rattle.std.proofs.lemmas.Option.{slice_get_cases}
use Rattle.sc_base.specs.declared.shape.Ty.{Ty}
use Rattle.sc_base.specs.declared.value.Place.{Place}
use Rattle.sc_base.specs.declared.value.Value.{Value}
use Rattle.sc_base.specs.declared.value.Value.TheVariants.{Int, Null}
use Rattle.sc_layout.specs.Layout.{Arrangement, LaidObject}
use Rattle.sc_layout.specs.Place.{IsPlace}
use Rattle.sc_isa.specs.Fitting.{has_stars, fits_int, object_is, fits_type, fits, fits_all}
use Rattle.emit_laws.proofs.Ghosts.{Token, without, on_counter}
use Rattle.emit_laws.proofs.Masks.{by_bool, landing}

-- ---- numbers of reads

-- they rise, from the first bound up to the second
abbrev pub Rising : (low high : ℕ) → List Token → Type 0
Rising low high [] = low ≤ high
Rising low high (t ∷ ts) = (low ≤ t.order) × Rising (suc t.order) high ts

-- no read has the number
abbrev pub OutOf : ℕ → List Token → Type 0
OutOf n [] = Unit {0}
OutOf n (t ∷ ts) = (n ≡ t.order → ⊥) × OutOf n ts

abbrev pub Each : (Token → Type 0) → List Token → Type 0
Each P [] = Unit {0}
Each P (t ∷ ts) = P t × Each P ts

each_both : (P Q R : Token → Type 0) → ((t : Token) → P t → Q t → R t) → (ts : List Token) → Each P ts → Each Q ts
    → Each R ts
each_both P Q R f [] p q = tt
each_both P Q R f (t ∷ ts) p q = (f t p.0 q.0, each_both P Q R f ts p.1 q.1)

lowered : (less low high : ℕ) (ts : List Token) → less ≤ low → Rising low high ts → Rising less high ts
lowered less low high [] le h = omega (arith, le, h)
lowered less low high (t ∷ ts) le h = (omega (arith, le, h.0), h.1)

pub raised : (low high : ℕ) (ts : List Token) → Rising low high ts → Rising low (suc high) ts
raised low high [] h = omega (arith, h)
raised low high (t ∷ ts) h = (h.0, raised (suc t.order) high ts h.1)

bounded : (low high : ℕ) (ts : List Token) → Rising low high ts → low ≤ high
bounded low high [] h = h
bounded low high (t ∷ ts) h = omega (arith, h.0, bounded (suc t.order) high ts h.1)

pub added : (low high : ℕ) (ts : List Token) (t : Token) → t.order ≡ high → Rising low high ts
    → Rising low (suc high) (ts ++ t ∷ [])
added low high [] t e h = (omega (arith, h, e), omega (arith, e))
added low high (u ∷ ts) t e h = (h.0, added (suc u.order) high ts t e h.1)

pub rising_without : (c low high : ℕ) (ts : List Token) → Rising low high ts → Rising low high (without c ts)
rising_without c low high [] h = h
rising_without c low high (t ∷ ts) h = go (t.counter == c) (rising_without c (suc t.order) high ts h.1)
  where
    go : (b : Bool) → Rising (suc t.order) high (without c ts)
        → Rising low high (if b then without c ts else t ∷ without c ts)
    go true r = lowered low (suc t.order) high (without c ts) (omega (arith, h.0)) r
    go false r = (h.0, r)

rising_on : (c low high : ℕ) (ts : List Token) → Rising low high ts → Rising low high (on_counter c ts)
rising_on c low high [] h = h
rising_on c low high (t ∷ ts) h = go (t.counter == c) (rising_on c (suc t.order) high ts h.1)
  where
    go : (b : Bool) → Rising (suc t.order) high (on_counter c ts)
        → Rising low high (if b then t ∷ on_counter c ts else on_counter c ts)
    go true r = (h.0, r)
    go false r = lowered low (suc t.order) high (on_counter c ts) (omega (arith, h.0)) r

out_below : (n low high : ℕ) (ts : List Token) → n < low → Rising low high ts → OutOf n ts
out_below n low high [] lt h = tt
out_below n low high (t ∷ ts) lt h = (
  λ e. omega (arith, e, lt, h.0),
  out_below n (suc t.order) high ts
      (omega (arith, lt, h.0)) h.1,
)

each_above : (low high : ℕ) (ts : List Token) → Rising low high ts → Each (λ t. low ≤ t.order) ts
each_above low high [] h = tt
each_above low high (t ∷ ts) h = (
  h.0,
  each_both (λ u. suc t.order ≤ u.order) (λ u. suc t.order ≤ u.order) (λ u. low ≤ u.order)
      (λ u a b. omega (arith, a, h.0)) ts
      (each_above (suc t.order) high ts h.1) (each_above (suc t.order) high ts h.1),
)

pub each_within : (low high : ℕ) (ts : List Token) → Rising low high ts → Each (λ t. t.order < high) ts
each_within low high [] h = tt
each_within low high (t ∷ ts) h = (
  omega (arith, bounded (suc t.order) high ts h.1),
  each_within
      (suc t.order) high ts h.1,
)

pub out_without : (n c : ℕ) (ts : List Token) → OutOf n ts → OutOf n (without c ts)
out_without n c [] h = tt
out_without n c (t ∷ ts) h = go (t.counter == c) (out_without n c ts h.1)
  where
    go : (b : Bool) → OutOf n (without c ts) → OutOf n (if b then without c ts else t ∷ without c ts)
    go true r = r
    go false r = (h.0, r)

pub out_on : (n c : ℕ) (ts : List Token) → OutOf n ts → OutOf n (on_counter c ts)
out_on n c [] h = tt
out_on n c (t ∷ ts) h = go (t.counter == c) (out_on n c ts h.1)
  where
    go : (b : Bool) → OutOf n (on_counter c ts) → OutOf n (if b then t ∷ on_counter c ts else on_counter c ts)
    go true r = (h.0, r)
    go false r = r

pub out_more : (n : ℕ) (ts : List Token) (t : Token) → (n ≡ t.order → ⊥) → OutOf n ts → OutOf n (ts ++ t ∷ [])
out_more n [] t other h = (other, tt)
out_more n (u ∷ ts) t other h = (h.0, out_more n ts t other h.1)

-- those on a counter and the others have other numbers
one_more_out : (t : Token) (high : ℕ) (ts us : List Token) → Rising (suc t.order) high us
    → Each (λ u. OutOf u.order ts) us
    → Each (λ u. OutOf u.order (t ∷ ts)) us
one_more_out t high ts us r h =
    each_both (λ u. suc t.order ≤ u.order) (λ u. OutOf u.order ts) (λ u. OutOf u.order (t ∷ ts))
    (λ u a b. (λ e. omega (arith, e, a), b)) us
    (each_above (suc t.order) high us r) h

pub on_out : (c low high : ℕ) (ts : List Token) → Rising low high ts
    → Each (λ u. OutOf u.order (without c ts)) (on_counter c ts)
on_out c low high [] h = tt
on_out c low high (t ∷ ts) h = go (t.counter == c) (on_out c (suc t.order) high ts h.1)
  where
    go : (b : Bool) → Each (λ u. OutOf u.order (without c ts)) (on_counter c ts)
        → Each (λ u. OutOf u.order (if b then without c ts else t ∷ without c ts))
        (if b then t ∷ on_counter c ts else on_counter c ts)
    go true r = (
      out_below t.order (suc t.order) high (without c ts) (omega arith) (rising_without c (suc t.order) high ts h.1),
      r,
    )
    go false r = one_more_out t high (without c ts) (on_counter c ts) (rising_on c (suc t.order) high ts h.1) r

pub without_out : (c low high : ℕ) (ts : List Token) → Rising low high ts
    → Each (λ u. OutOf u.order (on_counter c ts)) (without c ts)
without_out c low high [] h = tt
without_out c low high (t ∷ ts) h = go (t.counter == c) (without_out c (suc t.order) high ts h.1)
  where
    go : (b : Bool) → Each (λ u. OutOf u.order (on_counter c ts)) (without c ts)
        → Each (λ u. OutOf u.order (if b then t ∷ on_counter c ts else on_counter c ts))
        (if b then without c ts else t ∷ without c ts)
    go true r = one_more_out t high (on_counter c ts) (without c ts) (rising_without c (suc t.order) high ts h.1) r
    go false r = (
      out_below t.order (suc t.order) high (on_counter c ts) (omega arith) (rising_on c (suc t.order) high ts h.1),
      r,
    )

each_apart : (P : Token → Type 0) (c : ℕ) (ts : List Token) → Each P (on_counter c ts) → Each P (without c ts)
    → Each P ts
each_apart P c [] a b = tt
each_apart P c (t ∷ ts) a b = go (t.counter == c) (λ p q. each_apart P c ts p q) a b
  where
    go : (b : Bool) → (Each P (on_counter c ts) → Each P (without c ts) → Each P ts)
        → Each P (if b then t ∷ on_counter c ts else on_counter c ts)
        → Each P (if b then without c ts else t ∷ without c ts) → P t × Each P ts
    go true more p q = (p.0, more p.1 q)
    go false more p q = (q.0, more p q.1)

-- ---- the values of an oracle

-- the reads have these values, and the others those that they had
abbrev pub given_to : List Token → List Value → (value : ℕ → Value) → ℕ → Value
given_to (t ∷ ts) (v ∷ vs) value n = if n == t.order then v else given_to ts vs value n
given_to _ _ value n = value n

pub given_else : (ts : List Token) (vs : List Value) (value : ℕ → Value) (n : ℕ) → OutOf n ts
    → given_to ts vs value n ≡ value n
given_else [] vs value n h = refl
given_else (t ∷ ts) [] value n h = refl
given_else (t ∷ ts) (v ∷ vs) value n h =
    by_bool (n == t.order) (λ e. absurd (h.0 ((Decides-eqb n t.order).0 e)))
    (λ e. ap (λ b. if b then v else given_to ts vs value n) e ∙ given_else ts vs value n h.1)

same_values : (f g : Token → Value) (ts : List Token) → Each (λ t. f t ≡ g t) ts → map f ts ≡ map g ts
same_values f g [] h = refl
same_values f g (t ∷ ts) h = let one = h.0 in let more = same_values f g ts h.1 in cc

module _ (layout : Arrangement) where
  abbrev pub FitIn : (value : ℕ → Value) → List Token → Type 0
  FitIn value ts = Each (λ t. fits layout t.place (value t.order) ≡ true) ts

  given_lands : (value : ℕ → Value) (low high : ℕ) (ts : List Token) (vs : List Value) → Rising low high ts
      → fits_all layout (map (λ t. t.place) ts) vs ≡ true → map (λ t. given_to ts vs value t.order) ts ≡ vs
  given_lands value low high [] [] r h = refl
  given_lands value low high [] (v ∷ vs) r h = absurd (cc)
  given_lands value low high (t ∷ ts) [] r h = absurd (cc)
  given_lands value low high (t ∷ ts) (v ∷ vs) r h =
      let itself : given_to (t ∷ ts) (v ∷ vs) value t.order ≡ v =
      ap (λ b. if b then v else given_to ts vs value t.order) ((Decides-eqb t.order t.order).1 refl) in
      let others : map (λ u. given_to (t ∷ ts) (v ∷ vs) value u.order) ts ≡ vs =
      same_values (λ u. given_to (t ∷ ts) (v ∷ vs) value u.order) (λ u. given_to ts vs value u.order) ts
      (each_both (λ u. suc t.order ≤ u.order) (λ u. suc t.order ≤ u.order) _ (λ u a b. later u a) ts
      (each_above (suc t.order) high ts r.1) (each_above (suc t.order) high ts r.1))
      ∙ given_lands value (suc t.order) high ts vs r.1
      (and_parts (fits layout t.place v) (fits_all layout (map (λ t. t.place) ts) vs) h).1 in
      cc
    where
      later : (u : Token) → suc t.order ≤ u.order
          → given_to (t ∷ ts) (v ∷ vs) value u.order ≡ given_to ts vs value u.order
      later u a =
          by_bool (u.order == t.order)
          (λ e. let same : u.order ≡ t.order = (Decides-eqb u.order t.order).0 e in absurd (omega (arith, same, a)))
          (λ e. ap (λ b. if b then v else given_to ts vs value u.order) e)

  fit_of : (value : ℕ → Value) (ts : List Token)
      → fits_all layout (map (λ t. t.place) ts) (map (λ t. value t.order) ts) ≡ true → FitIn value ts
  fit_of value [] h = tt
  fit_of value (t ∷ ts) h =
      let both = and_parts (fits layout t.place (value t.order))
      (fits_all layout (map (λ t. t.place) ts) (map (λ t. value t.order) ts)) h in
      (both.0, fit_of value ts both.1)

  -- those that are in flight yet
  pub fit_yet : (value : ℕ → Value) (c low high : ℕ) (vs : List Value) (ts : List Token) → Rising low high ts
      → FitIn value ts
      → FitIn (given_to (on_counter c ts) vs value) (without c ts)
  fit_yet value c low high vs ts r h =
      each_both (λ u. OutOf u.order (on_counter c ts)) (λ u. fits layout u.place (value u.order) ≡ true)
      (λ u. fits layout u.place (given_to (on_counter c ts) vs value u.order) ≡ true)
      (λ u out fit. ap (fits layout u.place) (given_else (on_counter c ts) vs value u.order out) ∙ fit)
      (without c ts) (without_out c low high ts r) (only c ts h)
    where
      only : (c : ℕ) (ts : List Token) → FitIn value ts → FitIn value (without c ts)
      only c [] h = tt
      only c (t ∷ ts) h = go (t.counter == c) (only c ts h.1)
        where
          go : (b : Bool) → FitIn value (without c ts) → FitIn value (if b then without c ts else t ∷ without c ts)
          go true r = r
          go false r = (h.0, r)

  -- an oracle that agrees where reads have landed lands the values, and all fit
  pub lands_given : (value other : ℕ → Value) (c high : ℕ) (vs : List Value) (ts : List Token) → Rising 0 high ts
      → fits_all layout (map (λ t. t.place) (on_counter c ts)) vs ≡ true
      → ((n : ℕ) → n < high → OutOf n (without c ts) → other n ≡ given_to (on_counter c ts) vs value n)
      → landing other c ts ≡ vs
  lands_given value other c high vs ts r fit agree =
      let on = on_counter c ts in
      same_values (λ t. other t.order) (λ t. given_to on vs value t.order) on
      (each_both (λ u. u.order < high) (λ u. OutOf u.order (without c ts))
      (λ u. other u.order ≡ given_to on vs value u.order)
      (λ u lt out. agree u.order lt out) on (each_within 0 high on (rising_on c 0 high ts r)) (on_out c 0 high ts r))
      ∙ given_lands value 0 high on vs (rising_on c 0 high ts r) fit

  pub fit_landed : (other : ℕ → Value) (c : ℕ) (vs : List Value) (ts : List Token)
      → fits_all layout (map (λ t. t.place) (on_counter c ts)) vs ≡ true → landing other c ts ≡ vs
      → FitIn other (without c ts) → FitIn other ts
  fit_landed other c vs ts fit same rest =
      each_apart (λ t. fits layout t.place (other t.order) ≡ true) c ts
      (fit_of other (on_counter c ts) (ap (fits_all layout (map (λ t. t.place) (on_counter c ts))) same ∙ fit)) rest

  pub fit_front : (value : ℕ → Value) (ts : List Token) (t : Token) → FitIn value (ts ++ t ∷ []) → FitIn value ts
  fit_front value [] t h = tt
  fit_front value (u ∷ ts) t h = (h.0, fit_front value ts t h.1)

  pub fit_last : (value : ℕ → Value) (ts : List Token) (t : Token) → FitIn value (ts ++ t ∷ [])
      → fits layout t.place (value t.order) ≡ true
  fit_last value [] t h = h.0
  fit_last value (u ∷ ts) t h = fit_last value ts t h.1

  -- one read more, of this value
  pub fit_with : (value : ℕ → Value) (low high : ℕ) (ts : List Token) (t : Token) (v : Value) → t.order ≡ high
      → Rising low high ts
      → fits layout t.place v ≡ true → FitIn value ts → FitIn (given_to (t ∷ []) (v ∷ []) value) (ts ++ t ∷ [])
  fit_with value low high [] t v e r fit h = (
    ap (fits layout t.place) (ap (λ b. if b then v else value t.order) ((Decides-eqb t.order t.order).1 refl))
        ∙ fit,
    tt,
  )
  fit_with value low high (u ∷ ts) t v e r fit h =
      let above = bounded (suc u.order) high ts r.1 in (
        ap (fits layout u.place) (given_else (t ∷ []) (v ∷ []) value u.order
            (λ same. omega (arith, same, e, above), tt)) ∙ h.0,
        fit_with value (suc u.order) high ts t v e r.1 fit h.1,
      )

  -- ---- some value fits

  by_stars : (ty : Ty) (b : Bool) → has_stars ty.stars ≡ b → (v : Value) × (fits_type layout ty v ≡ true)
  by_stars ty true e = (Null, e)
  by_stars ty false e = (Int (pos 0), ap (λ b. not b && fits_int (pos 0)) e)

  pub some_fits : (place : Place) → IsPlace layout place → (v : Value) × (fits layout place v ≡ true)
  some_fits place is = go (slice_get_cases layout.objects place.object).1
    where
      go : ((x : LaidObject) × (place.object < length layout.objects)
          × (slice_get layout.objects place.object ≡ Some x) × (get_or layout.objects place.object x ≡ x))
          ⊎ ((length layout.objects ≤ place.object) × (slice_get layout.objects place.object ≡ None))
          → (v : Value) × (fits layout place v ≡ true)
      go (inl (o, lt, e, d)) =
          let fit = by_stars o.shape.ty (has_stars o.shape.ty.stars) refl in
          (fit.0, ap (object_is (λ o. fits_type layout o.shape.ty fit.0)) e ∙ fit.1)
      go (inr (le, e)) = let inside = is.object in absurd (omega (arith, le, inside))
