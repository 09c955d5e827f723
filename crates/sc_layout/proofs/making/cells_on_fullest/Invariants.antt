use Rattle.std.proofs.Common.{◌≡◌, ◌-◌, ◌^◌, min, take}
use Rattle.std.specs.List.{sum_by}
use Rattle.sc_layout.specs.Layout.{cells_of}
use Rattle.sc_layout.proofs.making.cells_on_fullest.Given as goal

abbrev pub invariant-loop-object : goal.invariant-loop-object
invariant-loop-object l = l.cells ≡ min (sum_by (λ o. cells_of l.nodes o 0) (take l.object-index l.objects)) (2 ^ 64 - 1)
