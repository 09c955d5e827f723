use Rattle.meaning_laws.proofs.PointsForgotten.{points_are_forgotten}
use Rattle.meaning_laws.proofs.runs.points_are_forgotten.Goals as goal

pub returns : goal.returns
returns c = points_are_forgotten
