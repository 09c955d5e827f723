use Rattle.std.proofs.Common.{◌≡◌, ◌++◌}
use Rattle.source_order.specs.Items.{all_releases}
use Rattle.journal_order.proofs.listed.add_releases.Given as goal

abbrev pub invariant-loop-number : goal.invariant-loop-number
invariant-loop-number l = l.to.items ≡ l.initial.to.items ++ all_releases l.number
