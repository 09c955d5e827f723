use Rattle.site_graph.specs.Rising.{edge_before}
use Rattle.site_graph.proofs.MadeLaws.{RisesTo}
use Rattle.site_graph.proofs.making.edges_rise.Given as goal

abbrev pub invariant-loop-at : goal.invariant-loop-at
invariant-loop-at l = RisesTo edge_before l.edges l.at
