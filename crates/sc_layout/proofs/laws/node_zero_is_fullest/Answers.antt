use Rattle.sc_layout.proofs.Walks.{fullest}
use Rattle.sc_layout.proofs.laws.node_zero_is_fullest.Goals as goal

pub returns : goal.returns
returns c = fullest
