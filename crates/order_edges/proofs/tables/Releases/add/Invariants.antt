use Rattle.std.proofs.Common.{◌≡◌, ◌++◌}
use Rattle.order_edges.specs.Kinds.{release_edges}
use Rattle.order_edges.specs.Tables.{releases_in}
use Rattle.order_edges.proofs.tables.Releases.add.Given as goal

abbrev pub invariant-loop-at : goal.invariant-loop-at
invariant-loop-at l = l.edges.items ≡ l.initial.edges.items ++ release_edges (releases_in l.self) l.items l.at
