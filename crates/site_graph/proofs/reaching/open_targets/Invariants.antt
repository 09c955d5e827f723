use Rattle.site_graph.specs.Opened.{IsTarget, IsOpened}
use Rattle.site_graph.proofs.reaching.open_targets.Given as goal

abbrev pub invariant-loop-number : goal.invariant-loop-number
invariant-loop-number l = IsOpened (IsTarget l.edges l.from l.number) l.initial.found l.found l.initial.todo.items l.todo.items
