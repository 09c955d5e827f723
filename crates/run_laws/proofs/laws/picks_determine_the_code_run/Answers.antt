use Rattle.run_laws.proofs.Runs.{picks_determine_the_code_run}
use Rattle.run_laws.proofs.laws.picks_determine_the_code_run.Goals as goal

pub returns : goal.returns
returns c = picks_determine_the_code_run
