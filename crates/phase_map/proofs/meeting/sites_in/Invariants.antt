use Rattle.phase_map.proofs.Pairs.{ReachedBelow}
use Rattle.phase_map.proofs.meeting.sites_in.Given as goal

abbrev pub invariant-loop-site : goal.invariant-loop-site
invariant-loop-site l = ReachedBelow l.places l.found l.site l.sites
