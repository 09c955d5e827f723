use Rattle.std.proofs.Common.{◌≡◌, ◌++◌, reverse}
use Rattle.order_edges.specs.Tables.{nodes_edges}
use Rattle.order_edges.proofs.joined.add_nodes.Given as goal

abbrev pub invariant-loop-node : goal.invariant-loop-node
invariant-loop-node l = l.edges.items ≡ l.initial.edges.items ++ nodes_edges (reverse l.journal) l.items l.node
