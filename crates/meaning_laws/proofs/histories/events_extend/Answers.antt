use Rattle.meaning_laws.proofs.Fronts.{events_extend}
use Rattle.meaning_laws.proofs.histories.events_extend.Goals as goal

pub returns : goal.returns
returns c = events_extend
