-- Which place an expression is, as its form and the declarations tell, whatever types are missing. A memory place is an
-- object with all its indices, `*e`, or an expression with an index behind it that is none of an object's own. It is
-- global where it is an element of a spread array, or is reached through a global or spread pointer. What the form
-- leaves open may be any of these.
use Rattle.std.specs.Prelude.{ℕ, ◌==◌, Bool, true, false, Option, Some, None, if◌then◌else◌}
use Rattle.sc_base.specs.declared.shape.Shape.{Shape}
use Rattle.sc_typing.specs.declared.places.PlaceKind.{PlaceKind}
use Rattle.sc_typing.specs.declared.places.PlaceKind.TheVariants as place
use Rattle.sc_typing.specs.Types.{is_wide, last_star}
use Rattle.sc_typing.specs.Known.{Valued}
use Rattle.sc_typing.specs.Source.{dimensions, has_its_indices, object_star}

-- An object with all its indices is a memory place; one that is a pointer, its last index missing, is no place. With
-- other numbers of indices it is not told what it is.
unfoldable pub object_place : Shape → (taken : ℕ) → PlaceKind
object_place object taken =
    if taken == dimensions object then place.Memory (Some (object_star object))
    else if has_its_indices object taken then place.NoPlace
    else place.Unknown

-- what a pointer reaches; where it has no type it is open whether that is global
abbrev pub reached_by : Option Valued → PlaceKind
reached_by None = place.Memory None
reached_by (Some v) = place.Memory (last_star v.ty)

-- a memory place
abbrev pub may_be_memory : PlaceKind → Bool
may_be_memory place.NoPlace = false
may_be_memory place.Local = false
may_be_memory (place.Memory _) = true
may_be_memory place.Unknown = true

-- a local
abbrev pub may_be_local : PlaceKind → Bool
may_be_local place.NoPlace = false
may_be_local place.Local = true
may_be_local (place.Memory _) = false
may_be_local place.Unknown = true

-- a local or a memory place
abbrev pub may_be_set : PlaceKind → Bool
may_be_set place.NoPlace = false
may_be_set place.Local = true
may_be_set (place.Memory _) = true
may_be_set place.Unknown = true

-- a memory place that is global
abbrev pub may_be_global : PlaceKind → Bool
may_be_global place.NoPlace = false
may_be_global place.Local = false
may_be_global (place.Memory None) = true
may_be_global (place.Memory (Some star)) = is_wide (Some star)
may_be_global place.Unknown = true

-- a local, or a memory place that is not global
abbrev pub may_be_other : PlaceKind → Bool
may_be_other place.NoPlace = false
may_be_other place.Local = true
may_be_other (place.Memory None) = true
may_be_other (place.Memory (Some star)) = if is_wide (Some star) then false else true
may_be_other place.Unknown = true
