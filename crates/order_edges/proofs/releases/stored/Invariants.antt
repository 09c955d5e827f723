use Rattle.std.proofs.Common.{◌≡◌, ℕ, ◌<◌, ◌≤◌, length, take, reverse, slice_index}
use Rattle.fabric.specs.Barriers.{arrivals}
use Rattle.order_edges.specs.Lines.{look}
use Rattle.order_edges.specs.Tables.{stored}
use Rattle.order_edges.proofs.releases.stored.Given as goal

abbrev pub invariant-loop-entry : goal.invariant-loop-entry
invariant-loop-entry l = record {
  nodes_are : length l.arrivals.items ≡ l.nodes;
  counts_are : (node : ℕ) → node < l.nodes → slice_index l.arrivals.items node ≡ arrivals node (reverse (take l.entry-index l.journal));
  few : (node : ℕ) → node < l.nodes → slice_index l.arrivals.items node ≤ l.entry-index;
  size : length l.table.items ≡ length l.releases;
  noted : (m : ℕ) → look l.table.items m ≡ stored (reverse (take l.entry-index l.journal)) (look l.releases) m;
}
