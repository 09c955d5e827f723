-- Types of pointers by their stars.
use Rattle.std.proofs.Common.{◌≡◌, ℕ, zero, suc, ◌+◌, ◌-◌, ◌<◌, ◌≤◌, ◌==◌, take, map, Bool, true, false, not, ◌&&◌, Some, List, [], ◌∷◌, ◌++◌, length, drop, slice_get, pos, refl, sym, ap, ◌∙◌, arith, length-drop}
use Rattle.std.specs.Cmp.Lexicographic.{pointwise}
use Rattle.std.proofs.lemmas.List.{length-map}
use mathlib.Core.Bool.{beq}
use Rattle.sc_base.specs.declared.shape.Star.{Star}
use Rattle.sc_base.specs.declared.shape.Star.TheVariants.{Local, Global, Spread}
use Rattle.sc_base.specs.declared.shape.Ty.{Ty}
use Rattle.sc_base.specs.declared.value.Place.{Place}
use Rattle.sc_base.specs.declared.value.Value.{Value}
use Rattle.sc_layout.specs.Layout.{Arrangement}
use Rattle.sc_base.specs.contracts.shape.StarPartialEq.TheImpl.{eq-value}
use Rattle.sc_isa.specs.Fitting.{same_star, has_stars, one_star_more, same_bool, is_pointer_to, fits, fits_all}
use Rattle.sc_core.specs.declared.operation.Constant.TheVariants.{Number, Null}
use Rattle.sc_core.specs.Places.{last_of, is_pointer}
use Rattle.sc_core.specs.Statements.{has_star, zero_of}
use Rattle.sc_meaning.specs.Memory.{Memory, places}
use Rattle.core_state.specs.Locals.{spot_of}
use Rattle.core_state.specs.declared.memory.Spot.{Spot}
use Rattle.core_run.specs.Seen.{places_of}

star_is : (a b : Star) → eq-value.it a b ≡ same_star a b
star_is Local Local = refl
star_is Local Global = refl
star_is Local Spread = refl
star_is Global Local = refl
star_is Global Global = refl
star_is Global Spread = refl
star_is Spread Local = refl
star_is Spread Global = refl
star_is Spread Spread = refl

and_false : (b : Bool) → false ≡ (b && false)
and_false true = refl
and_false false = refl

some_stars : (stars : List Star) (star : Star) → has_stars (stars ++ star ∷ []) ≡ true
some_stars [] star = refl
some_stars (x ∷ stars) star = refl

-- the stars before the last one
pub stars_before : (stars : List Star) (last : Star) (others : List Star)
    → pointwise eq-value.it stars others ≡ one_star_more (stars ++ last ∷ []) others
stars_before [] last [] = refl
stars_before [] last (other ∷ others) = and_false (same_star last other)
stars_before (star ∷ stars) last [] = sym (ap not (some_stars stars last))
stars_before (star ∷ stars) last (other ∷ others) =
    ap (λ b. b && pointwise eq-value.it stars others) (star_is star other)
    ∙ ap (λ b. same_star star other && b) (stars_before stars last others)

-- ---- gets, one after another

further : (n : ℕ) → suc (n + 1) ≡ suc n + 1
further n = omega arith

drop_at_some : {A : Type 0} → (xs : List A) (n : ℕ) (x : A) → slice_get xs n ≡ Some x → drop n xs ≡ x ∷ drop (n + 1) xs
drop_at_some [] n x e = absurd cc
drop_at_some (y ∷ xs) zero x e = ap (λ y. y ∷ xs) cc
drop_at_some (y ∷ xs) (suc n) x e = drop_at_some xs n x e ∙ ap (λ k. x ∷ drop k (y ∷ xs)) (further n)

module _ (layout : Arrangement) where
  pub fit_step : (ss : List Spot) (vs : List Value) (n : ℕ) (s : Spot) (v : Value) → slice_get ss n ≡ Some s → slice_get vs n ≡ Some v
      → fits_all layout (places_of (drop n ss)) (drop n vs)
      ≡ (fits layout s.place v && fits_all layout (places_of (drop (n + 1) ss)) (drop (n + 1) vs))
  fit_step ss vs n s v e h =
      ap (λ l. fits_all layout (places_of l) (drop n vs)) (drop_at_some ss n s e)
      ∙ ap (λ l. fits_all layout (places_of (s ∷ drop (n + 1) ss)) l) (drop_at_some vs n v h)

  none_fit : (ss : List Spot) (vs : List Value) → length ss ≡ 0 → length vs ≡ 0 → fits_all layout (places_of ss) vs ≡ true
  none_fit [] [] e h = refl
  none_fit [] (v ∷ vs) e h = absurd (omega (arith, h))
  none_fit (s ∷ ss) vs e h = absurd (omega (arith, e))

  pub fit_end : (ss : List Spot) (vs : List Value) (n : ℕ) → length ss ≤ n → length vs ≤ n
      → fits_all layout (places_of (drop n ss)) (drop n vs) ≡ true
  fit_end ss vs n e h = none_fit (drop n ss) (drop n vs) (omega (arith, e, length-drop n ss)) (omega (arith, h, length-drop n vs))

  and_no : (b : Bool) → (b && false) ≡ false
  and_no true = refl
  and_no false = refl

  differ : (ps : List Place) (vs : List Value) → (length vs ≡ length ps → ⊥) → fits_all layout ps vs ≡ false
  differ [] [] n = absurd (n refl)
  differ [] (v ∷ vs) n = refl
  differ (p ∷ ps) [] n = refl
  differ (p ∷ ps) (v ∷ vs) n =
      ap (λ b. fits layout p v && b) (differ ps vs (λ e. n (omega (arith, e)))) ∙ and_no (fits layout p v)

  pub too_few_or_many : (ss : List Spot) (m : Memory) (vs : List Value) → map spot_of ss ≡ m.getting → (length vs ≡ length ss → ⊥)
      → fits_all layout (places m) vs ≡ false
  too_few_or_many ss m vs e n =
      differ (places m) vs (λ same. n (omega (arith, same, ap length e, length-map ss spot_of, length-map m.getting (λ s. s.place))))

-- ---- types of pointers

void_is : (a b : Bool) → beq a b ≡ same_bool a b
void_is true true = refl
void_is true false = refl
void_is false true = refl
void_is false false = refl

taken_more : (k : ℕ) → 1 ≤ k → suc (k - 1) ≡ suc k - 1
taken_more k h = omega arith

last_star : (ss : List Star) → 1 ≤ length ss → (last : Star) × (ss ≡ take (length ss - 1) ss ++ last ∷ [])
last_star [] h = absurd (omega (arith, h))
last_star (s ∷ []) h = (s, refl)
last_star (s ∷ t ∷ ss) h =
    let more = last_star (t ∷ ss) (omega arith) in
    (more.0, ap (λ l. s ∷ l) more.1 ∙ ap (λ k. take k (s ∷ t ∷ ss) ++ more.0 ∷ []) (taken_more (length (t ∷ ss)) (omega arith)))

before_last : (ss others : List Star) → 1 ≤ length ss → pointwise eq-value.it (take (length ss - 1) ss) others ≡ one_star_more ss others
before_last ss others h =
    let last = last_star ss h in
    stars_before (take (length ss - 1) ss) last.0 others ∙ ap (λ ss. one_star_more ss others) (sym last.1)

module _ (cell ty : Ty) (mine others : List Star) (is : mine ≡ ty.stars) (are : others ≡ cell.stars) (h : 1 ≤ length mine) (b : Bool)
    (eq : b ≡ pointwise eq-value.it (take (length mine - 1) mine) others) where
  pointer_is : (b && same_bool ty.void cell.void) ≡ is_pointer_to cell ty
  pointer_is =
      ap (λ b. b && same_bool ty.void cell.void) (eq ∙ before_last mine others h ∙ ap (λ s. one_star_more s others) is ∙ ap (one_star_more ty.stars) are)

  pub same_stars : b ≡ true → beq ty.void cell.void ≡ is_pointer_to cell ty
  same_stars e = void_is ty.void cell.void ∙ ap (λ b. b && same_bool ty.void cell.void) (sym e) ∙ pointer_is

  pub other_stars : b ≡ false → b ≡ is_pointer_to cell ty
  other_stars e = e ∙ ap (λ b. b && same_bool ty.void cell.void) (sym e) ∙ pointer_is

-- what a function gives without a value
some_last : (ss : List Star) → 0 < length ss → is_pointer (last_of ss) ≡ true
some_last [] h = absurd (omega (arith, h))
some_last (s ∷ []) h = refl
some_last (s ∷ t ∷ ss) h = some_last (t ∷ ss) (omega arith)

not_zero : (n : ℕ) → (n == 0) ≡ false → 0 < n
not_zero zero e = absurd cc
not_zero (suc n) e = omega arith

null_if : (b : Bool) → b ≡ true → Null ≡ elim b [ true ↦ Null | false ↦ Number (pos 0) ]
null_if true e = refl
null_if false e = absurd cc

pub null_is : (ty : Ty) → (length ty.stars == 0) ≡ false → Null ≡ zero_of ty
null_is ty e = null_if (has_star ty) (some_last ty.stars (not_zero (length ty.stars) e))
