use Rattle.run_moves.proofs.Picked.{picks_determine_the_run}
use Rattle.run_moves.proofs.picks_determine_the_run.Goals as goal

pub returns : goal.returns
returns c = picks_determine_the_run
