use Rattle.resumption.proofs.Following.{stays}
use Rattle.resumption.proofs.laws.stays_short.Goals as goal

pub returns : goal.returns
returns g c d answers more e = stays d answers more e
