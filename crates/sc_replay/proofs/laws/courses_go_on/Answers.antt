use Rattle.sc_replay.proofs.Following.{courses_go_on}
use Rattle.sc_replay.proofs.laws.courses_go_on.Goals as goal

pub returns : goal.returns
returns c = courses_go_on
