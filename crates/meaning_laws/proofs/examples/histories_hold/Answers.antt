use Rattle.meaning_laws.proofs.WholeExamples.{histories_hold}
use Rattle.meaning_laws.proofs.examples.histories_hold.Goals as goal

pub returns : goal.returns
returns c = histories_hold
