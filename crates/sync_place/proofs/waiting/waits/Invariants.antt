use Rattle.sync_place.specs.Waiting.{AreWaitRows}
use Rattle.sync_place.proofs.waiting.waits.Given as goal

abbrev pub invariant-loop-at : goal.invariant-loop-at
invariant-loop-at l = AreWaitRows l.first l.marks l.at l.rows
