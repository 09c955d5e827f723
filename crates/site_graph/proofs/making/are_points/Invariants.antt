use Rattle.site_graph.specs.Made.{ArePoints}
use Rattle.site_graph.proofs.making.are_points.Given as goal

abbrev pub invariant-loop-at : goal.invariant-loop-at
invariant-loop-at l = ArePoints l.points l.at l.sites
