-- Types of values: int, void, and pointers, which have one star more than the type of what they reach. A pointer
-- is local, global or spread by its last star, after the report "Introduction to Split-C" (Culler and others,
-- 1995).
use Rattle.std.specs.Prelude.{ℕ, ◌-◌, Bool, true, false, ◌&&◌, Option, Some, None, List, [], ◌∷◌, ◌++◌, length, take}
use Rattle.std.specs.Prelude.{slice_get, if◌then◌else◌}
use Rattle.std.specs.Cmp.Lexicographic.{pointwise}
use Rattle.sc_base.specs.declared.shape.Star.{Star}
use Rattle.sc_base.specs.declared.shape.Star.TheVariants as star
use Rattle.sc_base.specs.declared.shape.Ty.{Ty}

abbrev pub int : Ty
int = record { void = false; stars = [] }

abbrev pub nothing : Ty
nothing = record { void = true; stars = [] }

-- a pointer with this star to a value of the type
abbrev pub pointer : Ty → Star → Ty
pointer ty star = record { void = ty.void; stars = ty.stars ++ star ∷ [] }

-- the type of what the pointer reaches
abbrev pub element : Ty → Ty
element ty = record { void = ty.void; stars = take (length ty.stars - 1) ty.stars }

abbrev pub last_star : Ty → Option Star
last_star ty = slice_get ty.stars (length ty.stars - 1)

abbrev pub same_bool : Bool → Bool → Bool
same_bool true b = b
same_bool false true = false
same_bool false false = true

abbrev pub same_star : Star → Star → Bool
same_star star.Local star.Local = true
same_star star.Global star.Global = true
same_star star.Spread star.Spread = true
same_star _ _ = false

abbrev pub same_type : Ty → Ty → Bool
same_type a b = same_bool a.void b.void && pointwise same_star a.stars b.stars

abbrev pub has_stars : List Star → Bool
has_stars [] = false
has_stars (_ ∷ _) = true

abbrev pub is_pointer : Ty → Bool
is_pointer ty = has_stars ty.stars

abbrev pub is_int : Ty → Bool
is_int ty = if ty.void then false else (if has_stars ty.stars then false else true)

abbrev pub is_star : Star → Option Star → Bool
is_star star None = false
is_star star (Some other) = same_star star other

-- a pointer whose node is part of it
abbrev pub is_wide : Option Star → Bool
is_wide None = false
is_wide (Some star.Local) = false
is_wide (Some star.Global) = true
is_wide (Some star.Spread) = true

-- a local or spread pointer becomes a global one to the same type
abbrev pub widens : Ty → Ty → Bool
widens from to = is_pointer from && is_star star.Global (last_star to) && same_type (element from) (element to)
