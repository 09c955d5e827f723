use Rattle.run_moves.proofs.Complete.{simulated_runs_are_complete}
use Rattle.run_moves.proofs.simulated_runs_are_complete.Goals as goal

pub returns : goal.returns
returns c = simulated_runs_are_complete
