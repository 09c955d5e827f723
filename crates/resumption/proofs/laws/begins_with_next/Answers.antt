use Rattle.resumption.proofs.Next.{begins_with}
use Rattle.resumption.proofs.laws.begins_with_next.Goals as goal

pub returns : goal.returns
returns g c d answers = begins_with d answers
