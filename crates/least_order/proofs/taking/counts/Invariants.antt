use Rattle.least_order.proofs.Loops.{IsCounted}
use Rattle.least_order.proofs.taking.counts.Given as goal

abbrev pub invariant-loop-edge : goal.invariant-loop-edge
invariant-loop-edge l = IsCounted l.edges l.fn.count l.edge-index l.counts.items
