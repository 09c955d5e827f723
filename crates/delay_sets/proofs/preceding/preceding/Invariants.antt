use Rattle.site_graph.specs.Ways.{Precedes}
use Rattle.delay_sets.proofs.SiteRows.{AreBelow}
use Rattle.delay_sets.proofs.preceding.preceding.Given as goal

abbrev pub invariant-loop-at : goal.invariant-loop-at
invariant-loop-at l = AreBelow l.flow (Precedes l.flow) l.at l.rows
