use Rattle.phase_map.proofs.Pairs.{SitesBelow}
use Rattle.phase_map.proofs.meeting.site_rows.Given as goal

abbrev pub invariant-loop-site : goal.invariant-loop-site
invariant-loop-site l = SitesBelow l.flow l.site l.rows
