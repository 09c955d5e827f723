use Rattle.phase_map.specs.Noting.{ArePartings}
use Rattle.phase_map.proofs.uneven.partings.Given as goal

abbrev pub invariant-loop-at : goal.invariant-loop-at
invariant-loop-at l = ArePartings l.flow l.locals l.at l.all.items
