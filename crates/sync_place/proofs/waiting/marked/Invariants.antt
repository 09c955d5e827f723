use Rattle.std.proofs.Common.{◌≡◌, get_or, true, false}
use Rattle.sync_place.proofs.Waits.{AreNumbers}
use Rattle.sync_place.proofs.waiting.marked.Given as goal

abbrev pub invariant-loop-number : goal.invariant-loop-number
invariant-loop-number l = AreNumbers (λ s. get_or l.marks s false ≡ true) l.number l.all
