use Rattle.sc_layout.proofs.Reasons.{layout-sure}
use Rattle.sc_layout.proofs.laws.refused_for_what_they_are.Goals as goal

pub returns : goal.returns
returns c = layout-sure
