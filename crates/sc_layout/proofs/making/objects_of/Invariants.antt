use Rattle.std.proofs.Common.{◌≡◌, Ok, take}
use Rattle.sc_layout.specs.Layout.{each_of, object_of}
use Rattle.sc_layout.proofs.making.objects_of.Given as goal

abbrev pub invariant-loop-shape : goal.invariant-loop-shape
invariant-loop-shape l = each_of (object_of l.nodes) (take l.shape-index l.shapes) ≡ Ok l.objects.items
