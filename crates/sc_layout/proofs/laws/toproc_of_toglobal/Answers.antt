use Rattle.sc_layout.proofs.Walks.{toproc}
use Rattle.sc_layout.proofs.laws.toproc_of_toglobal.Goals as goal

pub returns : goal.returns
returns c = toproc
