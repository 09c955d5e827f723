use Rattle.run_laws.proofs.Runs.{plain_runs_are_ordered}
use Rattle.run_laws.proofs.laws.plain_runs_are_ordered.Goals as goal

pub returns : goal.returns
returns c = plain_runs_are_ordered
