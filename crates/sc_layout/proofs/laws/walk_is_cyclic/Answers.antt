use Rattle.sc_layout.proofs.Walks.{cyclic}
use Rattle.sc_layout.proofs.laws.walk_is_cyclic.Goals as goal

pub returns : goal.returns
returns c = cyclic
