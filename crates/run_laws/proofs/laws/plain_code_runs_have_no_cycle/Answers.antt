use Rattle.run_laws.proofs.Runs.{plain_code_runs_have_no_cycle}
use Rattle.run_laws.proofs.laws.plain_code_runs_have_no_cycle.Goals as goal

pub returns : goal.returns
returns c = plain_code_runs_have_no_cycle
