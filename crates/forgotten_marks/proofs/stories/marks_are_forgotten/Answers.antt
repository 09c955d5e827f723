use Rattle.forgotten_marks.proofs.Marks.{marks_are_forgotten}
use Rattle.forgotten_marks.proofs.stories.marks_are_forgotten.Goals as goal

pub returns : goal.returns
returns c = marks_are_forgotten
