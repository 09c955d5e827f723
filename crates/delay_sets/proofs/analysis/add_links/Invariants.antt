use Rattle.delay_sets.specs.Delays.{Link}
use Rattle.delay_sets.proofs.Backs.{RowOf}
use Rattle.delay_sets.proofs.analysis.add_links.Given as goal

abbrev pub invariant-loop-other : goal.invariant-loop-other
invariant-loop-other l = RowOf (Link l.flow l.conflicts.cross l.conflicts.own) l.site l.other l.initial.rows l.rows
