use Rattle.run_laws.proofs.Runs.{simulated_runs_are_ordered}
use Rattle.run_laws.proofs.laws.simulated_runs_are_ordered.Goals as goal

pub returns : goal.returns
returns c = simulated_runs_are_ordered
