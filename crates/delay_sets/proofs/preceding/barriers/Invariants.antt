use Rattle.delay_sets.proofs.Before.{BarriersBelow}
use Rattle.delay_sets.proofs.preceding.barriers.Given as goal

abbrev pub invariant-loop-at : goal.invariant-loop-at
invariant-loop-at l = BarriersBelow l.flow l.at l.rows
