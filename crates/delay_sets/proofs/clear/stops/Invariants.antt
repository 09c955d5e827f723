use Rattle.delay_sets.proofs.SiteRows.{StopsBelow}
use Rattle.delay_sets.proofs.clear.stops.Given as goal

abbrev pub invariant-loop-at : goal.invariant-loop-at
invariant-loop-at l = StopsBelow l.flow l.at l.rows
