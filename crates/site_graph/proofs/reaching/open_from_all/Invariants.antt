use Rattle.site_graph.specs.Opened.{IsBegunBefore, IsOpened}
use Rattle.site_graph.proofs.reaching.open_from_all.Given as goal

abbrev pub invariant-loop-number : goal.invariant-loop-number
invariant-loop-number l = IsOpened (IsBegunBefore l.flow l.starts l.number) l.initial.found l.found l.initial.todo.items l.todo.items
