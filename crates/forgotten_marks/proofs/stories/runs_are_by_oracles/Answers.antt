use Rattle.forgotten_marks.proofs.ByOracles.{runs_are_by_oracles}
use Rattle.forgotten_marks.proofs.stories.runs_are_by_oracles.Goals as goal

pub returns : goal.returns
returns c = runs_are_by_oracles
