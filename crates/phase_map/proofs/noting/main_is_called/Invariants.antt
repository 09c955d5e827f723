use Rattle.phase_map.proofs.Notes.{NoneOf, Begins}
use Rattle.phase_map.proofs.noting.main_is_called.Given as goal

abbrev pub invariant-loop-edge : goal.invariant-loop-edge
invariant-loop-edge l = NoneOf (Begins l.flow) l.flow.edges l.edge-index
