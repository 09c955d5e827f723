use Rattle.forgotten_marks.proofs.RunsPlayed.{runs_are_played}
use Rattle.forgotten_marks.proofs.stories.runs_are_played.Goals as goal

pub returns : goal.returns
returns c = runs_are_played
