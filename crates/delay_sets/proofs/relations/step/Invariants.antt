use Rattle.delay_sets.proofs.Paths.{SteppedBelow}
use Rattle.delay_sets.proofs.relations.step.Given as goal

abbrev pub invariant-loop-row : goal.invariant-loop-row
invariant-loop-row l = SteppedBelow l.inner l.row l.initial.rows l.rows
