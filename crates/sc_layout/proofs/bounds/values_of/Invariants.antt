use Rattle.std.proofs.Common.{◌≡◌, Ok, take}
use Rattle.sc_layout.specs.Layout.{each_of, bound_of}
use Rattle.sc_layout.proofs.bounds.values_of.Given as goal

abbrev pub invariant-loop-bound : goal.invariant-loop-bound
invariant-loop-bound l = each_of (bound_of l.nodes) (take l.bound-index l.bounds) ≡ Ok l.values.items
