use Rattle.phase_map.proofs.Pairs.{SiteRows}
use Rattle.phase_map.proofs.meeting.all_meet.Given as goal

abbrev pub invariant-loop-site : goal.invariant-loop-site
invariant-loop-site l = SiteRows l.flow (λ a b. Unit {0}) l.site l.meets
