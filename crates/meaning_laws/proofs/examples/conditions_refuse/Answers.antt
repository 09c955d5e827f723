use Rattle.meaning_laws.proofs.Refused.{conditions_refuse}
use Rattle.meaning_laws.proofs.examples.conditions_refuse.Goals as goal

pub returns : goal.returns
returns c = conditions_refuse
