use Rattle.std.proofs.Common.{◌≡◌, ℕ, ◌<◌, ◌≤◌, Some, length, slice_get}
use Rattle.core_run.specs.declared.runner.Runner.{Runner}
use Rattle.replay_stages.specs.Stage.{Front}
use Rattle.history_replay.specs.Fronts.{AllAt, said}
use Rattle.history_replay.proofs.nodes.Nodes.texts.Given as goal

abbrev pub invariant-loop-node : goal.invariant-loop-node
invariant-loop-node l = record {
  many : length l.self.runners.items ≡ length l.initial.self.runners.items;
  count : length l.texts.items ≡ l.node;
  left : (n : ℕ) (r : Runner) → l.node ≤ n → slice_get l.self.runners.items n ≡ Some r
      → slice_get l.initial.self.runners.items n ≡ Some r;
  so : (fronts : ℕ → Front) → AllAt l.initial.self.runners.items fronts → (n : ℕ) → n < l.node
      → slice_get l.texts.items n ≡ Some (said (fronts n)).text;
}
