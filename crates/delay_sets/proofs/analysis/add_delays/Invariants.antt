use Rattle.delay_sets.specs.Backing.{DelaysBy}
use Rattle.delay_sets.proofs.Backs.{RowOf}
use Rattle.delay_sets.proofs.analysis.add_delays.Given as goal

abbrev pub invariant-loop-other : goal.invariant-loop-other
invariant-loop-other l = RowOf (DelaysBy l.before l.own l.back) l.site l.other l.initial.delays l.delays
