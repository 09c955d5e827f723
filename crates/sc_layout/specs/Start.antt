-- What the cells of a layout hold before any write: 0, or null where their type is a pointer's, as for the static
-- objects of C.
use Rattle.std.specs.Prelude.{pos, List, [], ◌∷◌, slice_get, Option, Some, None}
use Rattle.sc_base.specs.declared.shape.Star.{Star}
use Rattle.sc_base.specs.declared.value.Place.{Place}
use Rattle.sc_base.specs.declared.value.Value.{Value}
use Rattle.sc_base.specs.declared.value.Value.TheVariants.{Int, Null}
use Rattle.sc_layout.specs.Layout.{LaidObject, Arrangement}

-- what a cell of a type with these stars begins with
abbrev pub zero_of : List Star → Value
zero_of [] = Int (pos 0)
zero_of (_ ∷ _) = Null

-- what an object's cells begin with
abbrev pub zero_in : Option LaidObject → Value
zero_in None = Int (pos 0)
zero_in (Some object) = zero_of object.shape.ty.stars

abbrev pub start : Arrangement → Place → Value
start layout place = zero_in (slice_get layout.objects place.object)
