use Rattle.phase_map.proofs.Pairs.{AreMet}
use Rattle.phase_map.proofs.meeting.met.Given as goal

abbrev pub invariant-loop-at : goal.invariant-loop-at
invariant-loop-at l = AreMet l.flow l.at l.meets
