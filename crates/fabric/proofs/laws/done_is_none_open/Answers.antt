use Rattle.fabric.proofs.Done.{all_done, done_all}
use Rattle.fabric.proofs.laws.done_is_none_open.Goals as goal

pub returns : goal.returns
returns c = λ start nodes on node past w. (all_done start on node past, done_all start nodes on node past w)
