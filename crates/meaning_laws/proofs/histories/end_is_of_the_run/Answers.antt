use Rattle.meaning_laws.proofs.Fronts.{end_is_of_the_run}
use Rattle.meaning_laws.proofs.histories.end_is_of_the_run.Goals as goal

pub returns : goal.returns
returns c = end_is_of_the_run
