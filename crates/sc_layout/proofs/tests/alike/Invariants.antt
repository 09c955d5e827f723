use Rattle.std.specs.List.{All}
use Rattle.sc_layout.specs.Layout.{IsLawful}
use Rattle.sc_layout.proofs.tests.alike.Given as goal

abbrev pub invariant-loop : goal.invariant-loop
invariant-loop l = All IsLawful l.shapes.items
