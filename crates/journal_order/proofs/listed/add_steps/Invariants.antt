use Rattle.std.proofs.Common.{◌≡◌, ◌++◌, reverse}
use Rattle.source_order.specs.Items.{all_steps}
use Rattle.journal_order.proofs.listed.add_steps.Given as goal

abbrev pub invariant-loop-node : goal.invariant-loop-node
invariant-loop-node l = l.to.items ≡ l.initial.to.items ++ all_steps l.node (reverse l.journal)
