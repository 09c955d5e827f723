use Rattle.run_laws.proofs.Known.{code_runs_are_whole}
use Rattle.run_laws.proofs.laws.code_runs_are_whole.Goals as goal

pub returns : goal.returns
returns c = code_runs_are_whole
