use Rattle.phase_map.proofs.Notes.{NoneOf, Differs}
use Rattle.phase_map.proofs.noting.Locals.reads_uneven.Given as goal

abbrev pub invariant-loop-local : goal.invariant-loop-local
invariant-loop-local l = NoneOf (Differs l.self l.point.function) l.point.reads l.local-index
