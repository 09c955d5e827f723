use Rattle.delay_sets.proofs.Composing.{RowBelow}
use Rattle.delay_sets.proofs.relations.compose_row.Given as goal

abbrev pub invariant-loop-inner : goal.invariant-loop-inner
invariant-loop-inner l = RowBelow l.row l.first l.second l.inner l.initial.rows l.rows
