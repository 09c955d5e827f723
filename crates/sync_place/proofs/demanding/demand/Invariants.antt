use Rattle.sync_place.proofs.Demands.{DemandsBelow}
use Rattle.sync_place.proofs.demanding.demand.Given as goal

abbrev pub invariant-loop-at : goal.invariant-loop-at
invariant-loop-at l = DemandsBelow l.flow l.delays l.at l.demand
