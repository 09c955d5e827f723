-- What is known of an expression that has a type: it comes to what its type says, and is the place that typing tells.
use Rattle.std.proofs.Common.{◌≡◌, refl, sym, subst, ℕ, Bool, true, false, ◌||◌, List, [], ◌∷◌}
use Rattle.std.specs.Prelude.{Option, Some, None, if◌then◌else◌}
use Rattle.std.specs.Cmp.Lexicographic.{pointwise}
use Rattle.sc_base.specs.declared.shape.Star.{Star}
use Rattle.sc_base.specs.declared.shape.Star.TheVariants as star
use Rattle.sc_base.specs.declared.shape.Shape.{Shape}
use Rattle.sc_base.specs.declared.shape.Ty.{Ty}
use Rattle.sc_tree.specs.PlainTyped.{TypedExpression, typed_expression, TypedForm}
use Rattle.sc_tree.specs.PlainTyped as typed
use Rattle.sc_typing.specs.declared.known.Spot.{Spot}
use Rattle.sc_typing.specs.declared.places.PlaceKind.{PlaceKind}
use Rattle.sc_typing.specs.declared.places.PlaceKind.TheVariants as place
use Rattle.sc_typing.specs.Types.{same_bool, same_star, same_type, has_stars, widens}
use Rattle.sc_typing.specs.Known.{Valued, valued, expression_of, fits, meets, common, Judgement, met_expression, standing_in, met_known, expression_for}
use Rattle.sc_core.specs.Core.{Core}
use Rattle.sc_core.specs.Places.{Found, local, cell, is_own}
use Rattle.sc_core.specs.Expressions.{object_in, object_named, found, found_form}
use Rattle.sc_core.specs.Kinds.{Scope}
use Rattle.core_typing.proofs.Types.{one_of, no_more, Points, points, Alike, same-stars, widens-alike}
use Rattle.core_typing.proofs.Founds.{FoundIs}
use Rattle.sc_core.specs.Core.{Does}
use Rattle.sc_core.specs.Statements.{dropped, whole_form, whole}
use Rattle.core_typing.proofs.Acts.{Acts, dropped-acts}
use Rattle.core_typing.proofs.Finds.{Finds, finds-form, null-found, convert-found}

-- it is a local, or a cell of the executing node's own memory or not, as typing tells; else it is used as a value alone
pub data IsPlaced : PlaceKind → Found → Type 0 where
  nowhere : {f : Found} → IsPlaced place.NoPlace f
  as_local : {x line : ℕ} → IsPlaced place.Local (local x line)
  as_memory : {s : Star} {pointer : Core} {own : Bool} {line : ℕ} → own ≡ is_own (Some s) →
      IsPlaced (place.Memory (Some s)) (cell pointer own line)

-- ---- a type fits itself

same-bool-self : (b : Bool) → same_bool b b ≡ true
same-bool-self true = refl
same-bool-self false = refl

same-star-self : (s : Star) → same_star s s ≡ true
same-star-self star.Local = refl
same-star-self star.Global = refl
same-star-self star.Spread = refl

same-stars-self : (ss : List Star) → pointwise same_star ss ss ≡ true
same-stars-self [] = refl
same-stars-self (s ∷ ss) = rw (same-star-self s) (same-stars-self ss)

pub same-type-self : (ty : Ty) → same_type ty ty ≡ true
same-type-self ty = rw (same-bool-self ty.void) (same-stars-self ty.stars)

pub fits-self : (ty : Ty) (n : Bool) → fits ty n ty ≡ true
fits-self ty n = rw (same-type-self ty) refl

pub fits-first : (a : Ty) (n : Bool) (b : Ty) → same_type a b ≡ true → fits a n b ≡ true
fits-first a n b h = rw h refl

-- of two types one of which fits the other both fit the common one
pub record FitBoth (a : Ty) (n : Bool) (b : Ty) (m : Bool) : Type 0 where
  pub first : fits a n (common a n b) ≡ true
  pub second : fits b m (common a n b) ≡ true

pub fit-both : (a : Ty) (n : Bool) (b : Ty) (m : Bool) → (fits a n b || fits b m a) ≡ true → FitBoth a n b m
fit-both a n b m h = go (fits a n b) refl
  where
    go : (t : Bool) → fits a n b ≡ t → FitBoth a n b m
    go true e = record {
      first = subst (λ (t : Bool). fits a n (if t then b else a) ≡ true) (sym e) e;
      second = subst (λ (t : Bool). fits b m (if t then b else a) ≡ true) (sym e) (fits-self b m);
    }
    go false e = record {
      first = subst (λ (t : Bool). fits a n (if t then b else a) ≡ true) (sym e) (fits-self a n);
      second =
          subst (λ (t : Bool). fits b m (if t then b else a) ≡ true) (sym e)
          (subst (λ (t : Bool). (t || fits b m a) ≡ true) e h);
    }

module _ (objects : List Shape) (scope : Scope) where
  pub record Sound (at_place : PlaceKind) (v : Valued) : Type 0 where
    pub finds : Finds objects scope v.ty.stars v.expression
    pub placed : IsPlaced at_place (found objects v.expression)

  -- what holds of a judged expression where it has a type
  abbrev pub Knows : Judgement → Type 0
  Knows j = (v : Valued) → j.known ≡ Some v → Sound j.place v

  -- the same of one that is no object's name
  pub record Whole (j : Judgement) (v : Valued) : Type 0 where
    pub taken : j.taken ≡ 0
    pub nameless : object_named v.expression ≡ None
    pub sound : Sound j.place v
    pub acts : Acts scope (whole objects v.expression)

  pub whole-as : {j : Judgement} (v w : Valued) → v ≡ w → Whole j v → Whole j w
  whole-as {j = j} v w e h = subst (λ (v : Valued). Whole j v) e h

  -- an expression that is no place
  pub acting-whole : (form : TypedForm) (ty : Ty) (n : Bool) (spot : Spot) (j : Judgement) → j.taken ≡ 0 →
      j.place ≡ place.NoPlace → object_in form ≡ None → FoundIs scope ty.stars (found_form objects form spot.line) →
      ((d : Does) → Acts scope d → Acts scope (whole_form objects form d spot.line)) → Whole j (valued form ty n spot)
  acting-whole form ty n spot j t p o f a = record {
    taken = t;
    nameless = o;
    sound = record { finds = finds-form objects scope f; placed = rw p nowhere };
    acts = a (dropped objects (typed_expression form ty spot.start spot.at spot.line)) (dropped-acts objects scope (finds-form objects scope f));
  }

  -- one whose value is let go where it is a whole statement
  pub value-whole : (form : TypedForm) (ty : Ty) (n : Bool) (spot : Spot) (j : Judgement) → j.taken ≡ 0 →
      j.place ≡ place.NoPlace → object_in form ≡ None → ((d : Does) → whole_form objects form d spot.line ≡ d) →
      FoundIs scope ty.stars (found_form objects form spot.line) → Whole j (valued form ty n spot)
  value-whole form ty n spot j t p o q f =
      acting-whole form ty n spot j t p o f (λ d a. subst (λ (s : Does). Acts scope s) (sym (q d)) a)

  -- ---- an expression as one of a type that it fits

  null-there : (a : Ty) (b : Ty) → same_type a b ≡ false → fits a true b ≡ true → Points b.stars
  null-there a b e h =
      one_of (same_type a b || has_stars b.stars) (widens a b) h
      (λ x. points b.stars (subst (λ (t : Bool). (t || has_stars b.stars) ≡ true) e x))
      (λ x. (widens-alike a b x).onto)

  wider-there : (a : Ty) (b : Ty) → same_type a b ≡ false → fits a false b ≡ true → Alike a.stars b.stars
  wider-there a b e h =
      one_of (same_type a b || false) (widens a b) h
      (λ x. no_more (subst (λ (t : Bool). (t || false) ≡ true) e x))
      (λ x. widens-alike a b x)

  pub met-finds : {at_place : PlaceKind} (v : Valued) (ty : Ty) → Sound at_place v → fits v.ty v.is_null ty ≡ true →
      Finds objects scope ty.stars (expression_of (meets v ty))
  met-finds v ty s h = go (same_type v.ty ty) v.is_null refl refl
    where
      go : (same n : Bool) → same_type v.ty ty ≡ same → v.is_null ≡ n →
          Finds objects scope ty.stars
          (expression_of
          (if same then v
          else if n then valued typed.null ty true v.spot
          else valued (typed.convert ty (expression_of v)) ty false v.spot))
      go true n e g =
          subst (λ (ss : List Star). Finds objects scope ss v.expression) (same-stars v.ty ty e) s.finds
      go false true e g =
          finds-form objects scope
          (null-found objects scope v.spot.line
          (null-there v.ty ty e (subst (λ (n : Bool). fits v.ty n ty ≡ true) g h)))
      go false false e g =
          finds-form objects scope
          (convert-found objects scope ty v.spot.line s.finds
          (wider-there v.ty ty e (subst (λ (n : Bool). fits v.ty n ty ≡ true) g h)))

  -- what stands in the tree for a judged expression that has a type
  pub standing-finds : (j : Judgement) {v : Valued} → j.known ≡ Some v → Sound j.place v →
      Finds objects scope v.ty.stars (expression_for j)
  standing-finds j {v = v} e s =
      subst (λ (k : Option Valued). Finds objects scope v.ty.stars (standing_in j.start k)) (sym e) s.finds

  pub standing-met : (j : Judgement) {v : Valued} (ty : Ty) → j.known ≡ Some v → Sound j.place v →
      fits v.ty v.is_null ty ≡ true → Finds objects scope ty.stars (met_expression j ty)
  standing-met j {v = v} ty e s h =
      subst (λ (k : Option Valued). Finds objects scope ty.stars (standing_in j.start (met_known k ty))) (sym e)
      (met-finds v ty s h)
