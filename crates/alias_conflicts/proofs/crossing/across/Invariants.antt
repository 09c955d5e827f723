use Rattle.std.proofs.Common.{ℕ, ◌<◌, Some}
use Rattle.alias_conflicts.specs.Across.{FormsFrom}
use Rattle.alias_conflicts.proofs.crossing.across.Given as goal

abbrev pub invariant-loop-p : goal.invariant-loop-p
invariant-loop-p l = (k : ℕ) → k < l.p → FormsFrom l.layout l.flow (Some l.a) k (Some l.b) → ⊥
