use Rattle.site_graph.proofs.MadeLaws.{Found}
use Rattle.site_graph.proofs.making.has_one.Given as goal

abbrev pub invariant-loop-point : goal.invariant-loop-point
invariant-loop-point l = Found l.points l.number l.point-index l.found
