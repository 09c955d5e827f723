use Rattle.std.proofs.Common.{◌≡◌, ℕ, ◌+◌, ◌-◌, ◌<◌, ◌^◌, length}
use Rattle.run_moves.specs.Moves.{moves}
use Rattle.run_moves.specs.Simulated.{IsPicked}
use Rattle.run_moves.specs.OfCode.{machine_of}
use Rattle.code_sim.specs.Enough.{Suffices}
use Rattle.code_sim.specs.UnderWay.{IsUnderWay}
use Rattle.code_sim.proofs.run.run_code.Given as goal

abbrev pub invariant-loop-moves : goal.invariant-loop-moves
invariant-loop-moves g l = record {
  under_way : IsUnderWay l.code l.layout l.budget l.run.fabric l.run.nodes.items;
  picked : (many : ℕ) → Suffices l.code l.layout l.budget many → IsPicked (machine_of l.layout l.code l.budget many) (g.P.Picks.words l.fn.picks) l.run.fabric.past;
  rest : (k : ℕ) → g.P.Picks.words l.picks k ≡ g.P.Picks.words l.fn.picks (length l.run.fabric.past + k);
  count : (many : ℕ) → Suffices l.code l.layout l.budget many → l.moves ≡ length (moves (machine_of l.layout l.code l.budget many) l.run.fabric.past);
  short : length l.run.fabric.past < 2 ^ 64;
}

abbrev pub decreases-loop-moves : goal.decreases-loop-moves
decreases-loop-moves g l = 2 ^ 64 - length l.run.fabric.past
