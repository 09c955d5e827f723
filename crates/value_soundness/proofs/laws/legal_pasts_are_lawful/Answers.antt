use Rattle.value_soundness.proofs.Histories.{past_lawful}
use Rattle.value_soundness.proofs.laws.legal_pasts_are_lawful.Goals as goal

pub returns : goal.returns
returns c layout program budget past source legal = past_lawful layout program budget source past legal
