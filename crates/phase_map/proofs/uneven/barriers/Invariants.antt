use Rattle.phase_map.proofs.Partings.{BarriersBelow}
use Rattle.phase_map.proofs.uneven.barriers.Given as goal

abbrev pub invariant-loop-at : goal.invariant-loop-at
invariant-loop-at l = BarriersBelow l.flow l.at l.row
