use Rattle.std.proofs.Common.{ℕ, ◌<◌, Some}
use Rattle.std.specs.Prelude.{◌≢◌}
use Rattle.alias_conflicts.specs.Regions.{FormsShare}
use Rattle.alias_conflicts.proofs.crossing.on_some.Given as goal

abbrev pub invariant-loop-q : goal.invariant-loop-q
invariant-loop-q l = (k : ℕ) → k < l.q → (l.p ≢ k) × FormsShare l.layout l.flow (Some l.a) l.p (Some l.b) k → ⊥
