use Rattle.std.proofs.Common.{◌≡◌, ◌≤◌, take, reverse}
use Rattle.fabric.specs.Barriers.{arrivals}
use Rattle.order_edges.specs.Steps.{steps_before}
use Rattle.order_edges.proofs.steps.steps.Given as goal

abbrev pub invariant-loop-entry : goal.invariant-loop-entry
invariant-loop-entry l = record {
  listed : l.steps.items ≡ steps_before l.node (reverse (take l.entry-index l.journal));
  counted : l.arrivals ≡ arrivals l.node (reverse (take l.entry-index l.journal));
  low : l.arrivals ≤ l.entry-index;
}
