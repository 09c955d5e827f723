use Rattle.resumption.proofs.Forgotten.{forgets}
use Rattle.resumption.proofs.laws.forgets_events.Goals as goal

pub returns : goal.returns
returns g c asked made d answers h = forgets asked made d answers h
