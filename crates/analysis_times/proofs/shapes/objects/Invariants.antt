use Rattle.std.specs.List.{All}
use Rattle.sc_layout.specs.Layout.{IsLawful}
use Rattle.analysis_times.proofs.shapes.objects.Given as goal

abbrev pub invariant-loop : goal.invariant-loop
invariant-loop l = All IsLawful l.shapes.items

abbrev pub invariant-loop-2 : goal.invariant-loop-2
invariant-loop-2 l = All IsLawful l.shapes.items
