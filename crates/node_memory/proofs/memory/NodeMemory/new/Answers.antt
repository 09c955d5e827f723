use Rattle.node_memory.proofs.Rows.{holds_start, all_fit_start}
use Rattle.node_memory.proofs.memory.NodeMemory.new.Goals as goal

pub invariant_of-result : goal.invariant_of-result
invariant_of-result c = rw (c.in-Ok.ensures, c.in_ok-rows.ensures) (all_fit_start c.args.layout.now)

pub returns-clause-holds : goal.returns-clause-holds
returns-clause-holds c = rw (c.in-Ok.ensures, c.in_ok-rows.ensures) (holds_start c.args.layout.now)
