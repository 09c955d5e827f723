use Rattle.sync_place.specs.Waiting.{AreMarks}
use Rattle.sync_place.proofs.waiting.one_way_marks.Given as goal

abbrev pub invariant-loop-number : goal.invariant-loop-number
invariant-loop-number l = AreMarks l.flow l.first l.number l.marks.items
