use Rattle.phase_map.proofs.Notes.{NoneOf, Calls}
use Rattle.phase_map.proofs.noting.is_called.Given as goal

abbrev pub invariant-loop-edge : goal.invariant-loop-edge
invariant-loop-edge l = NoneOf (Calls l.flow l.point) l.flow.edges l.edge-index
