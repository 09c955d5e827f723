use Rattle.std.proofs.Common.{length}
use Rattle.least_order.specs.Taking.{Stands}
use Rattle.least_order.proofs.Picks.{IsSoFar, left_from}
use Rattle.least_order.proofs.order.taken.Given as goal

abbrev pub invariant-loop-item : goal.invariant-loop-item
invariant-loop-item l = record {
  so_far : IsSoFar l.edges l.count l.taking.order.items;
  stands : Stands l.edges l.count l.taking;
}

abbrev pub decreases-loop-item : goal.decreases-loop-item
decreases-loop-item l = length (left_from l.taking.order.items 0 l.count)
