use Rattle.phase_map.proofs.Pairs.{SiteRows, OneExplicit}
use Rattle.phase_map.proofs.meeting.met_outside.Given as goal

abbrev pub invariant-loop-site : goal.invariant-loop-site
invariant-loop-site l = SiteRows l.flow (OneExplicit l.flow) l.site l.meets
