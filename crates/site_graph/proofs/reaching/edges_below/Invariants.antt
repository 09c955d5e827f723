use Rattle.std.proofs.Common.{length, ◌-◌, ◌<◌, ◌≤◌, ℕ, get_or}
use Rattle.site_graph.specs.declared.flow.Edge.{Edge}
use Rattle.site_graph.proofs.reaching.edges_below.Given as goal

abbrev pub invariant-loop-next : goal.invariant-loop-next
invariant-loop-next l = record {
  least : l.from ≤ l.next;
  within : l.next ≤ length l.edges;
  below : (e : ℕ) (d : Edge) → l.from ≤ e → e < l.next → (get_or l.edges e d).from < l.point;
}

abbrev pub decreases-loop-next : goal.decreases-loop-next
decreases-loop-next l = length l.edges - l.next
