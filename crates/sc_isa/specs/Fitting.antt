-- Whether a value may stand in a cell, as a test.
use Rattle.std.specs.Prelude.{◌^◌, ℤ, pos, negsuc, nat_lt, Option, Some, None, Bool, true, false, not, ◌&&◌, List, [], ◌∷◌, slice_get}
use Rattle.sc_base.specs.declared.shape.Star.{Star}
use Rattle.sc_base.specs.declared.shape.Star.TheVariants.{Local, Global, Spread}
use Rattle.sc_base.specs.declared.shape.Ty.{Ty}
use Rattle.sc_base.specs.declared.value.Place.{Place}
use Rattle.sc_base.specs.declared.value.Value.{Value}
use Rattle.sc_base.specs.declared.value.Value.TheVariants.{Int, Null, Ptr}
use Rattle.sc_layout.specs.Layout.{LaidObject, Arrangement}

abbrev pub same_star : Star → Star → Bool
same_star Local Local = true
same_star Global Global = true
same_star Spread Spread = true
same_star _ _ = false

abbrev pub same_bool : Bool → Bool → Bool
same_bool true b = b
same_bool false b = not b

abbrev pub has_stars : List Star → Bool
has_stars [] = false
has_stars (_ ∷ _) = true

-- the stars are these and one more
abbrev pub one_star_more : List Star → List Star → Bool
one_star_more [] others = false
one_star_more (star ∷ stars) [] = not (has_stars stars)
one_star_more (star ∷ stars) (other ∷ others) = same_star star other && one_star_more stars others

-- the type is that of a pointer to a cell of the other type
abbrev pub is_pointer_to : (cell ty : Ty) → Bool
is_pointer_to cell ty = one_star_more ty.stars cell.stars && same_bool ty.void cell.void

abbrev pub object_is : (LaidObject → Bool) → Option LaidObject → Bool
object_is test None = false
object_is test (Some object) = test object

-- the number has 64 bits with sign; `negsuc n` is -n - 1
abbrev pub fits_int : ℤ → Bool
fits_int (pos n) = nat_lt n (2 ^ 63)
fits_int (negsuc n) = nat_lt n (2 ^ 63)

-- the value may stand in a cell of this type
abbrev pub fits_type : Arrangement → Ty → Value → Bool
fits_type layout ty (Int n) = not (has_stars ty.stars) && fits_int n
fits_type layout ty Null = has_stars ty.stars
fits_type layout ty (Ptr object node offset) =
    nat_lt node layout.nodes && (nat_lt offset (2 ^ 32)
    && object_is (λ o. is_pointer_to o.shape.ty ty) (slice_get layout.objects object))

-- the value may stand in the place's cell
abbrev pub fits : Arrangement → Place → Value → Bool
fits layout place value = object_is (λ o. fits_type layout o.shape.ty value) (slice_get layout.objects place.object)

-- exactly one value for each place, which fits its cell
abbrev pub fits_all : Arrangement → List Place → List Value → Bool
fits_all layout [] [] = true
fits_all layout (place ∷ places) (value ∷ values) = fits layout place value && fits_all layout places values
fits_all layout _ _ = false
