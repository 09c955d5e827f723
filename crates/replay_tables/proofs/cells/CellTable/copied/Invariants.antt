use Rattle.std.proofs.Common.{◌≡◌, take}
use Rattle.replay_tables.proofs.cells.CellTable.copied.Given as goal

abbrev pub invariant-loop-node : goal.invariant-loop-node
invariant-loop-node l = l.nodes.items ≡ take l.node-index l.node-items
