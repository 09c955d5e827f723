use Rattle.std.proofs.Common.{◌≡◌, ◌++◌}
use Rattle.order_edges.specs.Kinds.{node_edges}
use Rattle.order_edges.specs.Tables.{releases_in, node_in}
use Rattle.order_edges.proofs.tables.Node.add.Given as goal

abbrev pub invariant-loop-at : goal.invariant-loop-at
invariant-loop-at l = l.edges.items ≡ l.initial.edges.items ++ node_edges (releases_in l.releases) (node_in l.self) l.items l.at
