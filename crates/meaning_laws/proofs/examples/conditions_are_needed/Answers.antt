use Rattle.meaning_laws.proofs.Refused.{conditions_are_needed}
use Rattle.meaning_laws.proofs.examples.conditions_are_needed.Goals as goal

pub returns : goal.returns
returns c = conditions_are_needed
