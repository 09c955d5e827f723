use Rattle.std.proofs.Common.{◌≡◌, ◌<◌, length, get_or, true, false}
use Rattle.site_graph.specs.Bits.{IsOf}
use Rattle.site_graph.proofs.reaching.row_of.Given as goal

abbrev pub invariant-loop-point : goal.invariant-loop-point
invariant-loop-point l = IsOf 1 (length l.stops) (λ row t. (t < l.point) × (get_or l.stops t false ≡ true)) l.row
