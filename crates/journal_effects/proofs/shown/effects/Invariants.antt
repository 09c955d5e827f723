use Rattle.std.proofs.Common.{◌≡◌, take, reverse}
use Rattle.sc_layout.specs.Start.{start}
use Rattle.fabric.specs.Effects.{effects}
use Rattle.journal_effects.specs.Issues.{AreIssuesOf, HaveNumberedCells}
use Rattle.journal_effects.proofs.shown.effects.Given as goal

abbrev pub invariant-loop-entry : goal.invariant-loop-entry
invariant-loop-entry l = record {
  issues : AreIssuesOf l.issues (reverse (take l.entry-index l.journal));
  numbered : HaveNumberedCells l.issues;
  occurred : l.occurred ≡ effects (start l.layout) (reverse (take l.entry-index l.journal));
}
