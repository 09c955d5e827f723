use Rattle.delay_sets.specs.Preceding.{AreSyncsIn}
use Rattle.delay_sets.proofs.preceding.syncs_in.Given as goal

abbrev pub invariant-loop-at : goal.invariant-loop-at
invariant-loop-at l = AreSyncsIn l.flow l.reached l.at l.syncs.items
