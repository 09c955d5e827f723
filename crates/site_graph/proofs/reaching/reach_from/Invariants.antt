use Rattle.std.proofs.Common.{◌<◌, length, get_or}
use Rattle.site_graph.specs.Bits.{IsOf}
use Rattle.site_graph.specs.Reached.{Reaches}
use Rattle.site_graph.proofs.reaching.reach_from.Given as goal

abbrev pub invariant-loop-row : goal.invariant-loop-row
invariant-loop-row l = IsOf (length l.starts) (length l.flow.points) (λ r t. (r < l.row) × Reaches l.flow l.stops (get_or l.starts r 0) t) l.rows
