use Rattle.sc_layout.proofs.OneToOne.{elements_are_places}
use Rattle.sc_layout.proofs.laws.spread_elements_are_places.Goals as goal

pub returns : goal.returns
returns c = elements_are_places
