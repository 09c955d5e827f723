use Rattle.replay_stages.proofs.Ending.{histories_are_told}
use Rattle.replay_stages.proofs.laws.histories_are_told.Goals as goal

pub returns : goal.returns
returns c = histories_are_told
