use Rattle.resumption.proofs.Following.{follows}
use Rattle.resumption.proofs.laws.follows_answers.Goals as goal

pub returns : goal.returns
returns g c d answers more f e = follows d answers more f e
