-- The test whether a value may stand in a cell is exact.
use Rattle.std.proofs.Common.{◌≡◌, ◌≢◌, ◌↔◌, ◌^◌, ℤ, pos, negsuc, nat_lt, Option, Some, None, Bool, true, false, not, ◌&&◌, List, [], ◌∷◌, ◌++◌, slice_get, IsSomeAnd, refl, sym, ap}
use Rattle.std.specs.Prelude.{FitsSigned}
use Rattle.std.specs.Int.{w64}
use Rattle.std.proofs.lemmas.Bool.{ltb-true, lt-ltb}
use Rattle.sc_base.specs.declared.shape.Star.{Star}
use Rattle.sc_base.specs.declared.shape.Star.TheVariants.{Local, Global, Spread}
use Rattle.sc_base.specs.declared.shape.Ty.{Ty}
use Rattle.sc_base.specs.declared.value.Place.{Place}
use Rattle.sc_base.specs.declared.value.Value.{Value}
use Rattle.sc_base.specs.declared.value.Value.TheVariants.{Int, Null, Ptr}
use Rattle.sc_layout.specs.Layout.{LaidObject, Arrangement}
use Rattle.sc_layout.specs.Place.{IsPointerTo, FitsType, Fits}
use Rattle.sc_isa.specs.Fitting.{same_star, same_bool, one_star_more, is_pointer_to, object_is, has_stars, fits_int, fits_type, fits}

both : (a b : Bool) → (a && b) ≡ true → (a ≡ true) × (b ≡ true)
both true b h = (refl, h)
both false b h = absurd (cc)

and_both : (a b : Bool) → a ≡ true → b ≡ true → (a && b) ≡ true
and_both true b h k = k
and_both false b h k = absurd (cc)

star_same : (a b : Star) → same_star a b ≡ true → a ≡ b
star_same Local Local h = refl
star_same Local Global h = absurd (cc)
star_same Local Spread h = absurd (cc)
star_same Global Local h = absurd (cc)
star_same Global Global h = refl
star_same Global Spread h = absurd (cc)
star_same Spread Local h = absurd (cc)
star_same Spread Global h = absurd (cc)
star_same Spread Spread h = refl

star_itself : (a : Star) → same_star a a ≡ true
star_itself Local = refl
star_itself Global = refl
star_itself Spread = refl

bool_same : (a b : Bool) → same_bool a b ≡ true → a ≡ b
bool_same true b h = sym h
bool_same false true h = absurd (cc)
bool_same false false h = refl

bool_itself : (a : Bool) → same_bool a a ≡ true
bool_itself true = refl
bool_itself false = refl

-- ---- one star more

no_stars : (stars : List Star) → not (has_stars stars) ≡ true → stars ≡ []
no_stars [] h = refl
no_stars (s ∷ ss) h = absurd (cc)

pub record Longer (stars cell : List Star) : Type 0 where
  pub star : Star
  pub is : stars ≡ cell ++ star ∷ []

cons_same : (s c : Star) (ss cs : List Star) → s ≡ c → ss ≡ cs → s ∷ ss ≡ c ∷ cs
cons_same s c ss cs e f = cc

longer : (stars cell : List Star) → one_star_more stars cell ≡ true → Longer stars cell
longer [] cell h = absurd (cc)
longer (s ∷ ss) [] h = record { star = s; is = ap (λ (xs : List Star). s ∷ xs) (no_stars ss h) }
longer (s ∷ ss) (c ∷ cs) h =
    let parts = both (same_star s c) (one_star_more ss cs) h in
    let rest = longer ss cs parts.1 in
    record { star = rest.star; is = cons_same s c ss (cs ++ rest.star ∷ []) (star_same s c parts.0) rest.is }

one_more : (cell : List Star) (star : Star) → one_star_more (cell ++ star ∷ []) cell ≡ true
one_more [] star = refl
one_more (c ∷ cs) star = and_both (same_star c c) (one_star_more (cs ++ star ∷ []) cs) (star_itself c)
    (one_more cs star)

pointer_is : (cell ty : Ty) → is_pointer_to cell ty ≡ true → IsPointerTo cell ty
pointer_is cell ty h =
    let parts = both (one_star_more ty.stars cell.stars) (same_bool ty.void cell.void) h in
    let more = longer ty.stars cell.stars parts.0 in
    record { star = more.star; stars = more.is; void = bool_same ty.void cell.void parts.1 }

is_pointer : (cell ty : Ty) → IsPointerTo cell ty → is_pointer_to cell ty ≡ true
is_pointer cell ty p =
    and_both (one_star_more ty.stars cell.stars) (same_bool ty.void cell.void)
    (rw (p.stars) (one_more cell.stars p.star)) (rw (p.void) (bool_itself cell.void))

-- ---- values

without_stars : (stars : List Star) → stars ≡ [] → not (has_stars stars) ≡ true
without_stars [] h = refl
without_stars (s ∷ ss) h = absurd (cc)

some_stars : (stars : List Star) → has_stars stars ≡ true → stars ≢ []
some_stars [] h e = absurd (cc)
some_stars (s ∷ ss) h e = absurd (cc)

with_stars : (stars : List Star) → stars ≢ [] → has_stars stars ≡ true
with_stars [] h = absurd (h refl)
with_stars (s ∷ ss) h = refl

int_fits : (n : ℤ) → fits_int n ≡ true → FitsSigned w64 n
int_fits (pos n) h = record { sfits = ltb-true n (2 ^ 63) h }
int_fits (negsuc n) h = record { sfits = ltb-true n (2 ^ 63) h }

fits_that : (n : ℤ) → FitsSigned w64 n → fits_int n ≡ true
fits_that (pos n) h = lt-ltb n (2 ^ 63) h.sfits
fits_that (negsuc n) h = lt-ltb n (2 ^ 63) h.sfits

object_has : (test : LaidObject → Bool) (P : LaidObject → Type 0) (o : Option LaidObject)
    → ((x : LaidObject) → test x ≡ true → P x) → object_is test o ≡ true → IsSomeAnd o P
object_has test P None f h = absurd (cc)
object_has test P (Some x) f h = f x h

has_object : (test : LaidObject → Bool) (P : LaidObject → Type 0) (o : Option LaidObject)
    → ((x : LaidObject) → P x → test x ≡ true) → IsSomeAnd o P → object_is test o ≡ true
has_object test P None f h = absurd h
has_object test P (Some x) f h = f x h

type_fits : (layout : Arrangement) (ty : Ty) (value : Value) → fits_type layout ty value ≡ true
    → FitsType layout ty value
type_fits layout ty (Int n) h =
    let parts = both (not (has_stars ty.stars)) (fits_int n) h in
    (no_stars ty.stars parts.0, int_fits n parts.1)
type_fits layout ty Null h = some_stars ty.stars h
type_fits layout ty (Ptr object node offset) h =
    let test = object_is (λ o. is_pointer_to o.shape.ty ty) (slice_get layout.objects object) in
    let parts = both (nat_lt node layout.nodes) (nat_lt offset (2 ^ 32) && test) h in
    let more = both (nat_lt offset (2 ^ 32)) test parts.1 in (
      ltb-true node layout.nodes parts.0,
      ltb-true offset (2 ^ 32) more.0,
      object_has (λ o. is_pointer_to o.shape.ty ty) (λ o. IsPointerTo o.shape.ty ty)
          (slice_get layout.objects object) (λ o. pointer_is o.shape.ty ty) more.1,
    )

fits_typed : (layout : Arrangement) (ty : Ty) (value : Value) → FitsType layout ty value → fits_type layout ty value
    ≡ true
fits_typed layout ty (Int n) h =
    and_both (not (has_stars ty.stars)) (fits_int n) (without_stars ty.stars h.0) (fits_that n h.1)
fits_typed layout ty Null h = with_stars ty.stars h
fits_typed layout ty (Ptr object node offset) h =
    let test = object_is (λ o. is_pointer_to o.shape.ty ty) (slice_get layout.objects object) in
    and_both (nat_lt node layout.nodes) (nat_lt offset (2 ^ 32) && test) (lt-ltb node layout.nodes h.0)
    (and_both (nat_lt offset (2 ^ 32)) test (lt-ltb offset (2 ^ 32) h.1)
    (has_object (λ o. is_pointer_to o.shape.ty ty) (λ o. IsPointerTo o.shape.ty ty)
    (slice_get layout.objects object) (λ o. is_pointer o.shape.ty ty) h.2))

pub exact : (layout : Arrangement) (place : Place) (value : Value)
    → (fits layout place value ≡ true) ↔ Fits layout place value
exact layout place value = (
  object_has (λ o. fits_type layout o.shape.ty value) (λ o. FitsType layout o.shape.ty value)
      (slice_get layout.objects place.object) (λ o. type_fits layout o.shape.ty value),
  has_object (λ o. fits_type layout o.shape.ty value) (λ o. FitsType layout o.shape.ty value)
      (slice_get layout.objects place.object) (λ o. fits_typed layout o.shape.ty value),
)
