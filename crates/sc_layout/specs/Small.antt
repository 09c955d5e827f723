-- What keeps the counts of a layout's objects within machine words.
use Rattle.std.specs.Prelude.{ℕ, ◌*◌, ◌^◌, ◌<◌, ◌≤◌}
use Rattle.sc_layout.specs.Layout.{LaidObject, blocks_of, block_of, cells_of}

-- the object has few enough cells
pub record IsSmall (nodes : ℕ) (object : LaidObject) : Type 0 where
  pub some_node : 0 < nodes
  pub some_cell : 0 < block_of object
  pub blocks : blocks_of object < 2 ^ 64
  pub block : block_of object < 2 ^ 64
  pub cells : blocks_of object * block_of object < 2 ^ 64
  pub on_node : (node : ℕ) → node < nodes → cells_of nodes object node ≤ 65536
