use Rattle.replay_stages.proofs.Going.{stages_go_on}
use Rattle.replay_stages.proofs.laws.stages_go_on.Goals as goal

pub returns : goal.returns
returns c = stages_go_on
