use Rattle.std.proofs.Common.{◌≡◌, ◌≤◌, ℕ, length}
use Rattle.run_moves.specs.Moves.{steps_below}
use Rattle.run_moves.specs.OfCode.{machine_of}
use Rattle.code_sim.specs.Enough.{Suffices}
use Rattle.code_sim.proofs.run.Simulation.ready.Given as goal

abbrev pub invariant-loop-number : goal.invariant-loop-number
invariant-loop-number l = record {
  so_far : (many : ℕ) → Suffices l.code l.layout l.budget many → l.count ≡ length (steps_below (machine_of l.layout l.code l.budget many) l.self.fabric.past l.number);
  few : l.count ≤ l.number;
}
