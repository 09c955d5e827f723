-- The rows of a memory before any write. No public clause cites this module.
use Rattle.std.specs.Prelude.{ℕ, ◌*◌, List, map, replicate}
use Rattle.sc_base.specs.declared.value.Value.{Value}
use Rattle.sc_layout.specs.Layout.{Arrangement, LaidObject, cells_of}
use Rattle.sc_layout.specs.Start.{zero_of}

-- the row of an object before any write
abbrev pub row_at_start : ℕ → LaidObject → List Value
row_at_start nodes object = replicate (nodes * cells_of nodes object 0) (zero_of object.shape.ty.stars)

abbrev pub rows_at_start : Arrangement → List (List Value)
rows_at_start layout = map (λ o. row_at_start layout.nodes o) layout.objects
