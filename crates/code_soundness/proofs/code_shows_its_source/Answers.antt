use Rattle.code_soundness.proofs.OfSources.{code_shows_its_source}
use Rattle.code_soundness.proofs.code_shows_its_source.Goals as goal

pub returns : goal.returns
returns c layout program plan code source is_plan in_time is begins = code_shows_its_source layout program plan code source is_plan in_time is begins
