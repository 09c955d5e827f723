use Rattle.pending_flow.proofs.Adding.{PendingBelow}
use Rattle.pending_flow.proofs.pending.Given as goal

abbrev pub invariant-loop-at : goal.invariant-loop-at
invariant-loop-at l = PendingBelow l.flow l.demand l.at l.pending
