use Rattle.phase_map.specs.Noting.{AreNoted}
use Rattle.phase_map.proofs.noting.note_writes.Given as goal

abbrev pub invariant-loop-at : goal.invariant-loop-at
invariant-loop-at l = AreNoted l.flow l.behind l.at l.initial.locals l.locals l.gains
