use Rattle.delay_sets.proofs.SiteRows.{IsWithBelow}
use Rattle.delay_sets.proofs.clear.add_sites.Given as goal

abbrev pub invariant-loop-other : goal.invariant-loop-other
invariant-loop-other l = IsWithBelow l.flow l.over l.number l.other l.initial.rows l.rows
