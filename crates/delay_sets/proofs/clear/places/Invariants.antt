use Rattle.delay_sets.specs.ClearSites.{ArePlaces}
use Rattle.delay_sets.proofs.clear.places.Given as goal

abbrev pub invariant-loop-at : goal.invariant-loop-at
invariant-loop-at l = ArePlaces l.flow l.at l.places.items
