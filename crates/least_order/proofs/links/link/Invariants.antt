use Rattle.least_order.proofs.Loops.{IsLinked}
use Rattle.least_order.proofs.links.link.Given as goal

abbrev pub invariant-loop-number : goal.invariant-loop-number
invariant-loop-number l = IsLinked l.edges l.fn.count l.number l.lasts.items l.earlier.items
