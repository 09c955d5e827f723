use Rattle.front_end.proofs.Read.{is_read}
use Rattle.front_end.proofs.accepted.tree_of.Goals as goal

pub returns-in-Ok-clause-read : goal.returns-in-Ok-clause-read
returns-in-Ok-clause-read c = λ source is. is_read source _ _ _ c.as_slice.ensures is c.in-Ok.ensures.tree c.in-Ok.ensures.shallow
