use Rattle.alias_conflicts.specs.Pairs.{AreRowsUpTo}
use Rattle.alias_conflicts.proofs.conflicting.conflicts_of.Given as goal

abbrev pub invariant-loop-before : goal.invariant-loop-before
invariant-loop-before l = AreRowsUpTo l.layout l.flow l.meets l.number l.site l.before l.initial.cross l.initial.own l.cross l.own
