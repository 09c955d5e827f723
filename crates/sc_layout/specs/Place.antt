-- The places of the cells of a layout, after the spread arrays of the report "Introduction to Split-C" (Culler
-- and others, 1995): block i of a spread object is on node i mod N, after the i div N blocks that came there
-- before it.
use Rattle.std.specs.Prelude.{◌≡◌, ◌≢◌, ℕ, ◌+◌, ◌*◌, ◌/◌, ◌%◌, ◌^◌, ◌<◌, if◌then◌else◌, nat_lt, Option, Some, None, IsSomeAnd, [], ◌∷◌, ◌++◌, length, slice_get, FitsSigned}
use Rattle.std.specs.Int.{w64}
use Rattle.std.specs.Option.{option_map_or, option_and_then}
use Rattle.sc_base.specs.declared.shape.Star.{Star}
use Rattle.sc_base.specs.declared.shape.Ty.{Ty}
use Rattle.sc_base.specs.declared.value.Place.{Place}
use Rattle.sc_base.specs.declared.value.Value.{Value}
use Rattle.sc_base.specs.declared.value.Value.TheVariants.{Int, Null, Ptr}
use Rattle.sc_layout.specs.Layout.{LaidObject, Arrangement, product, block_of, cells_of}

-- how many cells of the object are on the node
abbrev pub extent_of : Arrangement → ℕ → ℕ → ℕ
extent_of layout node object = option_map_or (λ o. cells_of layout.nodes o node) (slice_get layout.objects object) 0

-- the place is a cell of the layout
pub record IsPlace (layout : Arrangement) (place : Place) : Type 0 where
  pub object : place.object < length layout.objects
  pub node : place.node < layout.nodes
  pub offset : place.offset < extent_of layout place.node place.object

-- the place of a spread object's cell with this flat index, in blocks of b cells
abbrev pub spread_place : ℕ → ℕ → ℕ → ℕ → Place
spread_place nodes b object index =
    record { object = object; node = (index / b) % nodes; offset = index / b / nodes * b + index % b }

-- the place of the cell with this flat row-major index; of an ordinary object it is the node's own copy
unfoldable pub place_in : ℕ → LaidObject → ℕ → ℕ → ℕ → Option Place
place_in nodes o node object index =
    if nat_lt index (product o.bounds)
    then Some (if o.shape.spread then spread_place nodes (block_of o) object index
    else record { object = object; node = node; offset = index })
    else None

abbrev pub place_of : Arrangement → ℕ → ℕ → ℕ → Option Place
place_of layout node object index =
    option_and_then (λ o. place_in layout.nodes o node object index) (slice_get layout.objects object)

-- the value of the object's dimension
abbrev pub bound_at : Arrangement → ℕ → ℕ → Option ℕ
bound_at layout object dimension =
    option_and_then (λ o. slice_get o.bounds dimension) (slice_get layout.objects object)

-- the type is that of a pointer to a cell of the other type
pub record IsPointerTo (cell ty : Ty) : Type 0 where
  pub star : Star
  pub stars : ty.stars ≡ cell.stars ++ star ∷ []
  pub void : ty.void ≡ cell.void

-- the value may stand in a cell of this type
abbrev pub FitsType : Arrangement → Ty → Value → Type 0
FitsType layout ty (Int n) = (ty.stars ≡ []) × FitsSigned w64 n
FitsType layout ty Null = ty.stars ≢ []
FitsType layout ty (Ptr object node offset) =
    (node < layout.nodes) × (offset < 2 ^ 32)
    × IsSomeAnd (slice_get layout.objects object) (λ o. IsPointerTo o.shape.ty ty)

-- the value may stand in the place's cell
abbrev pub Fits : Arrangement → Place → Value → Type 0
Fits layout place value = IsSomeAnd (slice_get layout.objects place.object) (λ o. FitsType layout o.shape.ty value)
