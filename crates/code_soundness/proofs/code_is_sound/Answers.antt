use Rattle.code_soundness.proofs.OfSources.{code_is_sound}
use Rattle.code_soundness.proofs.code_is_sound.Goals as goal

pub returns : goal.returns
returns c layout program plan code source is_plan in_time is begins = code_is_sound layout program plan code source is_plan in_time is begins
