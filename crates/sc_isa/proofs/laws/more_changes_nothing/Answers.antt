use Rattle.sc_isa.proofs.Settling.{more_same}
use Rattle.sc_isa.proofs.laws.more_changes_nothing.Goals as goal

pub returns : goal.returns
returns c code layout node few many s answers le known = more_same code layout node few many s answers le known
