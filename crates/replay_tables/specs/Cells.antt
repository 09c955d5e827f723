-- What each place holds: the cells of a layout, and apart from them what was written to places that are none of it.
use Rattle.std.specs.Prelude.{ℕ, zero, suc, List, [], ◌∷◌, ◌++◌, map, reverse, slice_get, slice_set, slice_index_or, replicate}
use Rattle.std.specs.Prelude.{Option, is_some, if◌then◌else◌}
use Rattle.std.specs.Option.{option_and_then, option_map, unwrap_or, option_or}
use Rattle.std.specs.List.{find}
use Rattle.sc_base.specs.declared.value.Place.{Place}
use Rattle.sc_base.specs.declared.value.Value.{Value}
use Rattle.sc_layout.specs.Layout.{LaidObject, Arrangement, cells_of}
use Rattle.sc_layout.specs.Start.{zero_of, start}
use Rattle.effect_order.specs.Effect.{same_place}
use Rattle.replay_tables.specs.declared.cells.Stray.{Stray}

-- What is kept of all places: the values of the layout's cells by node, object and offset, and the writes elsewhere.
pub record CellBook : Type 0 where
  pub known : List (List (List Value))
  pub strays : List Stray

-- the cell of a node
abbrev pub object_at : List (List Value) → (object offset : ℕ) → Option Value
object_at objects object offset = option_and_then (λ values. slice_get values offset) (slice_get objects object)

abbrev pub cell_in : List (List (List Value)) → Place → Option Value
cell_in known place =
    option_and_then (λ objects. object_at objects place.object place.offset) (slice_get known place.node)

-- what was written there last
abbrev pub stray_value : List Stray → Place → Option Value
stray_value strays place = option_map (λ s. s.value) (find (λ s. same_place s.place place) (reverse strays))

-- what the place holds
abbrev pub holds : Arrangement → CellBook → Place → Value
holds layout c place = unwrap_or (option_or (cell_in c.known place) (stray_value c.strays place)) (start layout place)

-- ---- after a write

abbrev pub with_object : List (List Value) → (object offset : ℕ) → Value → List (List Value)
with_object objects object offset value =
    slice_set objects object (slice_set (slice_index_or objects object []) offset value)

abbrev pub with_known : List (List (List Value)) → Place → Value → List (List (List Value))
with_known known place value =
    slice_set known place.node (with_object (slice_index_or known place.node []) place.object place.offset value)

abbrev pub with_cell : CellBook → Place → Value → CellBook
with_cell c place value =
    if is_some (cell_in c.known place) then record c { known = with_known c.known place value }
    else record c { strays = c.strays ++ record { place = place; value = value } ∷ [] }

-- ---- before any write

abbrev pub object_start : Arrangement → (node : ℕ) → LaidObject → List Value
object_start layout node o = replicate (cells_of layout.nodes o node) (zero_of o.shape.ty.stars)

abbrev pub node_start : Arrangement → (node : ℕ) → List (List Value)
node_start layout node = map (object_start layout node) layout.objects

-- the numbers below the bound, in order
abbrev pub numbers_below : ℕ → List ℕ
numbers_below zero = []
numbers_below (suc n) = numbers_below n ++ n ∷ []

abbrev pub known_at_start : Arrangement → List (List (List Value))
known_at_start layout = map (node_start layout) (numbers_below layout.nodes)
