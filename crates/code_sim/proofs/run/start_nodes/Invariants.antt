use Rattle.std.proofs.Common.{◌≡◌, ℕ, Some, [], length}
use Rattle.std.specs.Prelude.{slice_get}
use Rattle.code_sim.specs.declared.node.Runner.{Runner}
use Rattle.code_sim.specs.Asking.{IsRunner}
use Rattle.code_sim.proofs.run.start_nodes.Given as goal

abbrev pub invariant-loop-number : goal.invariant-loop-number
invariant-loop-number l = record {
  count : length l.nodes.items ≡ l.number;
  each : (p : ℕ) (n : Runner) → slice_get l.nodes.items p ≡ Some n → IsRunner l.code l.layout l.budget [] p n;
}
