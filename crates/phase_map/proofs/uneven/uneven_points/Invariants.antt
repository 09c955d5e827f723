use Rattle.site_graph.specs.Opened.{unset}
use Rattle.phase_map.specs.Noting.{AreKnown}
use Rattle.phase_map.proofs.uneven.uneven_points.Given as goal

abbrev pub invariant-loop-locals : goal.invariant-loop-locals
invariant-loop-locals l = AreKnown l.flow l.locals

abbrev pub decreases-loop-locals : goal.decreases-loop-locals
decreases-loop-locals l = unset l.locals.noted l.locals.noted.columns
