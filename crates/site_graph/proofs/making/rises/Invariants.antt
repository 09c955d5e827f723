use Rattle.std.proofs.Common.{ltb}
use Rattle.site_graph.proofs.MadeLaws.{RisesTo}
use Rattle.site_graph.proofs.making.rises.Given as goal

abbrev pub invariant-loop-at : goal.invariant-loop-at
invariant-loop-at l = RisesTo ltb l.list l.at
