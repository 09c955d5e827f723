-- The memory of the nodes as a map of places: each cell of a layout holds one value, which fits the cell's type, as
-- the address space of "Introduction to Split-C" (Culler and others, 1995) does. The cells of an object stand in one
-- row, as many for each node as node 0 has, which has the most: the cell at an offset on a node is number
-- offset * nodes + node of its object's row.
use Rattle.std.specs.Prelude.{◌≡◌, ℕ, ◌+◌, ◌*◌, List, [], slice_get, Option, Some, None, IsSomeAnd}
use Rattle.sc_base.specs.declared.value.Value.{Value}
use Rattle.sc_base.specs.declared.value.Place.{Place}
use Rattle.sc_layout.specs.Layout.{Arrangement}
use Rattle.sc_layout.specs.Place.{IsPlace, Fits}

-- where the cells lie, and the row of each object
pub record Memory : Type 0 where
  pub layout : Arrangement
  pub rows : List (List Value)

-- the number in its object's row of the cell at the place
abbrev pub index_at : ℕ → Place → ℕ
index_at nodes place = place.offset * nodes + place.node

abbrev pub row_or_none : Option (List Value) → List Value
row_or_none None = []
row_or_none (Some row) = row

-- the row of an object
abbrev pub row : List (List Value) → ℕ → List Value
row rows object = row_or_none (slice_get rows object)

-- what the cell at the place holds
abbrev pub cell : Memory → Place → Option Value
cell memory place = slice_get (row memory.rows place.object) (index_at memory.layout.nodes place)

-- the memory holds what the map gives: at each place of its layout the map's value
abbrev pub Holds : Memory → (Place → Value) → Type 0
Holds memory map = (place : Place) → IsPlace memory.layout place → cell memory place ≡ Some (map place)

-- each place of the layout has a cell, whose value fits it
abbrev pub AllFit : Memory → Type 0
AllFit memory = (place : Place) → IsPlace memory.layout place →
    IsSomeAnd (cell memory place) (λ value. Fits memory.layout place value)
