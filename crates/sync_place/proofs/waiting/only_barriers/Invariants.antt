use Rattle.sync_place.specs.Waiting.{OnlyBarriers}
use Rattle.sync_place.proofs.waiting.only_barriers.Given as goal

abbrev pub invariant-loop-at : goal.invariant-loop-at
invariant-loop-at l = OnlyBarriers l.flow l.first l.number l.at
