use Rattle.delay_sets.specs.ClearSites.{IsNextSite}
use Rattle.delay_sets.proofs.SiteRows.{AreBelow}
use Rattle.delay_sets.proofs.clear.next_sites.Given as goal

abbrev pub invariant-loop-at : goal.invariant-loop-at
invariant-loop-at l = AreBelow l.flow (IsNextSite l.flow) l.at l.rows
