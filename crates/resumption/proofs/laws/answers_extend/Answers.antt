use Rattle.resumption.proofs.Extending.{extends}
use Rattle.resumption.proofs.laws.answers_extend.Goals as goal

pub returns : goal.returns
returns g c d answers more = extends d answers more
