use Rattle.sc_replay.proofs.Following.{one_way}
use Rattle.sc_replay.proofs.laws.judged_in_one_way.Goals as goal

pub returns : goal.returns
returns c layout program budget history a b = one_way layout program budget history a b
