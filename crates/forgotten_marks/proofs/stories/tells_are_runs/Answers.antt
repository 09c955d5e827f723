use Rattle.forgotten_marks.proofs.ToldRuns.{tells_are_runs}
use Rattle.forgotten_marks.proofs.stories.tells_are_runs.Goals as goal

pub returns : goal.returns
returns c = tells_are_runs
