use Rattle.std.proofs.Common.{◌≡◌, ℕ, Some, length}
use Rattle.std.specs.Prelude.{slice_get}
use Rattle.sc_isa.specs.declared.results.NodeResult.{NodeResult}
use Rattle.code_sim.specs.declared.node.Runner.{Runner}
use Rattle.code_sim.specs.Asking.{IsLeft}
use Rattle.code_sim.proofs.run.results_of.Given as goal

abbrev pub invariant-loop-runner : goal.invariant-loop-runner
invariant-loop-runner l = record {
  count : length l.results.items ≡ length l.yielded;
  each : (p : ℕ) (r : Runner) (x : NodeResult) → slice_get l.fn.nodes.items p ≡ Some r → slice_get l.results.items p ≡ Some x → IsLeft r x;
}
