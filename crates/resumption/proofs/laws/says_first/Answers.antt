use Rattle.resumption.proofs.Next.{says}
use Rattle.resumption.proofs.laws.says_first.Goals as goal

pub returns : goal.returns
returns g c d answers = says d answers
