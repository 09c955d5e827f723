use Rattle.std.proofs.Common.{◌≡◌, map}
use Rattle.replay_tables.specs.Cells.{node_start, numbers_below}
use Rattle.replay_tables.proofs.cells.nodes_at_start.Given as goal

abbrev pub invariant-loop-node : goal.invariant-loop-node
invariant-loop-node l = l.nodes.items ≡ map (node_start l.layout) (numbers_below l.node)
