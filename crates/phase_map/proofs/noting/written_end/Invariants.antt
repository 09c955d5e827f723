use Rattle.phase_map.specs.Noting.{WritesBelow}
use Rattle.phase_map.proofs.noting.written_end.Given as goal

abbrev pub invariant-loop-point : goal.invariant-loop-point
invariant-loop-point l = WritesBelow l.flow l.point-index l.end
