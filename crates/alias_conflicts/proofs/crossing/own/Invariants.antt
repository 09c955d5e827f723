use Rattle.std.proofs.Common.{ℕ, ◌<◌, Some}
use Rattle.alias_conflicts.specs.Regions.{FormsShare}
use Rattle.alias_conflicts.proofs.crossing.own.Given as goal

abbrev pub invariant-loop-p : goal.invariant-loop-p
invariant-loop-p l = (k : ℕ) → k < l.p → FormsShare l.layout l.flow (Some l.a) k (Some l.b) k → ⊥
