use Rattle.std.proofs.Common.{◌+◌, vec_len}
use Rattle.std.specs.List.{Contains}
use Rattle.site_graph.specs.Opened.{unset}
use Rattle.site_graph.proofs.Searching.{Searching}
use Rattle.site_graph.proofs.reaching.search_any.Given as goal

abbrev pub invariant-loop-point : goal.invariant-loop-point
invariant-loop-point l = Searching l.flow l.stops l.stop_row (Contains l.starts) l.found l.todo.items

abbrev pub decreases-loop-point : goal.decreases-loop-point
decreases-loop-point l = unset l.found l.found.columns + vec_len l.todo
