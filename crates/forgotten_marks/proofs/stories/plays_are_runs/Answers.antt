use Rattle.forgotten_marks.proofs.PlayedRuns.{plays_are_runs}
use Rattle.forgotten_marks.proofs.stories.plays_are_runs.Goals as goal

pub returns : goal.returns
returns c = plays_are_runs
