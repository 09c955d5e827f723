use Rattle.std.proofs.Common.{◌≡◌}
use Rattle.sc_layout.specs.Start.{start}
use Rattle.fabric.specs.Access.{transfer_of}
use Rattle.fabric.specs.Effects.{at_issue}
use Rattle.journal_effects.proofs.entries.with_issue.Given as goal

abbrev pub invariant-loop-cell : goal.invariant-loop-cell
invariant-loop-cell l = l.after ≡ at_issue (start l.layout) (transfer_of l.access) l.node l.number l.cell l.fn.occurred
