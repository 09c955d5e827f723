use Rattle.delay_sets.proofs.Composing.{ComposedBelow}
use Rattle.delay_sets.proofs.relations.composed.Given as goal

abbrev pub invariant-loop-row : goal.invariant-loop-row
invariant-loop-row l = ComposedBelow l.first l.second l.row l.rows
