use Rattle.std.proofs.Common.{◌≡◌, ◌≤◌, take, reverse}
use Rattle.source_order.specs.Steps.{requested}
use Rattle.source_order.specs.Items.{own_steps}
use Rattle.journal_order.proofs.own.own_steps.Given as goal

abbrev pub invariant-loop-entry : goal.invariant-loop-entry
invariant-loop-entry l = record {
  listed : l.steps.items ≡ own_steps l.node (reverse (take l.entry-index l.journal));
  counted : l.request ≡ requested l.node (reverse (take l.entry-index l.journal));
  low : l.request ≤ l.entry-index;
}
