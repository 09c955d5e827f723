use Rattle.phase_map.specs.Aligning.{IsSwept}
use Rattle.phase_map.proofs.aligning.sweep.Given as goal

abbrev pub invariant-loop-number : goal.invariant-loop-number
invariant-loop-number l = IsSwept l.flow l.number l.initial.ahead l.ahead l.changed
