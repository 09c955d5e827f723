use Rattle.sync_place.proofs.Waits.{AreNumbers, Waited}
use Rattle.sync_place.proofs.waiting.waits_at.Given as goal

abbrev pub invariant-loop-number : goal.invariant-loop-number
invariant-loop-number l = AreNumbers (Waited l.first l.marks l.at) l.number l.row
