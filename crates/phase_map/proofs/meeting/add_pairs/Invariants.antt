use Rattle.phase_map.specs.Phasing.{IsWithPairs}
use Rattle.phase_map.proofs.meeting.add_pairs.Given as goal

abbrev pub invariant-loop-site : goal.invariant-loop-site
invariant-loop-site l = IsWithPairs l.sites l.site l.initial.meets l.meets
