use Rattle.sync_place.specs.Demanding.{AreBlocking}
use Rattle.sync_place.proofs.demanding.blocking_sites.Given as goal

abbrev pub invariant-loop-point : goal.invariant-loop-point
invariant-loop-point l = AreBlocking l.flow l.point-index l.sites.items
