use Rattle.phase_map.specs.Phasing.{ArePlaces}
use Rattle.phase_map.proofs.meeting.places.Given as goal

abbrev pub invariant-loop-at : goal.invariant-loop-at
invariant-loop-at l = ArePlaces l.flow l.at l.places.items
