use Rattle.std.proofs.Common.{length, ◌+◌}
use Rattle.delay_sets.specs.Delays.{MustDelay}
use Rattle.delay_sets.proofs.Backs.{RowsOf}
use Rattle.delay_sets.proofs.analysis.delays.Given as goal

abbrev pub invariant-loop-site : goal.invariant-loop-site
invariant-loop-site l = RowsOf (MustDelay l.flow l.conflicts.cross l.conflicts.own) (length l.flow.sites + 1) l.site l.delays
