use Rattle.meaning_laws.proofs.Fronts.{events_are_numbered}
use Rattle.meaning_laws.proofs.histories.events_are_numbered.Goals as goal

pub returns : goal.returns
returns c = events_are_numbered
