use Rattle.std.proofs.Common.{◌≡◌, length}
use Rattle.std.specs.List.{All}
use Rattle.sc_layout.specs.Bound.{IsWhole}
use Rattle.analysis_times.proofs.shapes.numbers.Given as goal

abbrev pub invariant-loop-value : goal.invariant-loop-value
invariant-loop-value l = All (λ b. IsWhole b.steps) l.bounds.items × (length l.bounds.items ≡ l.value-index)
