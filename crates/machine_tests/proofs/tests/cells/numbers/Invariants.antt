use Rattle.std.specs.List.{All}
use Rattle.sc_layout.specs.Bound.{IsWhole}
use Rattle.machine_tests.proofs.tests.cells.numbers.Given as goal

abbrev pub invariant-loop-value : goal.invariant-loop-value
invariant-loop-value l = All (λ b. IsWhole b.steps) l.bounds.items
