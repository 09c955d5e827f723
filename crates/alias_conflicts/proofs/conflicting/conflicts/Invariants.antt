use Rattle.alias_conflicts.specs.Pairs.{AreTables}
use Rattle.alias_conflicts.proofs.conflicting.conflicts.Given as goal

abbrev pub invariant-loop-before : goal.invariant-loop-before
invariant-loop-before l = AreTables l.layout l.flow l.phases.meets l.before l.cross l.own
