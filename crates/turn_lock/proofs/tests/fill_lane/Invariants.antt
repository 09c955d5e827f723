use Rattle.std.proofs.Common.{◌≡◌, false}
use Rattle.turn_lock.proofs.tests.fill_lane.Given as goal

abbrev pub invariant-loop-number : goal.invariant-loop-number
invariant-loop-number g l = (l.seat.lock ≡ l.initial.seat.lock) × (l.seat.out ≡ false) × (l.seat.lanes ≡ l.initial.seat.lanes)
