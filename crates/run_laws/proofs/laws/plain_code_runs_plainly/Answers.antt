use Rattle.run_laws.proofs.Runs.{plain_code_runs_plainly}
use Rattle.run_laws.proofs.laws.plain_code_runs_plainly.Goals as goal

pub returns : goal.returns
returns c = plain_code_runs_plainly
