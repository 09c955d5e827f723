use Rattle.sync_place.specs.Demanding.{IsMarked}
use Rattle.sync_place.proofs.demanding.mark_demands.Given as goal

abbrev pub invariant-loop-site : goal.invariant-loop-site
invariant-loop-site l = IsMarked l.point l.at l.sites l.site-index l.delays l.initial.demand l.demand
