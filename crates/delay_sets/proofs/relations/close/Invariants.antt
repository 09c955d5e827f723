use Rattle.delay_sets.proofs.Paths.{ClosedBelow}
use Rattle.delay_sets.proofs.relations.close.Given as goal

abbrev pub invariant-loop-inner : goal.invariant-loop-inner
invariant-loop-inner l = ClosedBelow l.initial.rows l.inner l.rows
