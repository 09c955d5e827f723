use Rattle.site_graph.proofs.Firsts.{FirstsTo}
use Rattle.site_graph.proofs.reaching.first_edges.Given as goal

abbrev pub invariant-loop-point : goal.invariant-loop-point
invariant-loop-point l = FirstsTo l.edges l.point l.next l.firsts.items
