use Rattle.std.proofs.Common.{◌≡◌, map, drop}
use Rattle.node_values.specs.Elements.{bounds_of, short_flat}
use Rattle.node_values.specs.Operands.{int_in}
use Rattle.node_values.proofs.element.flat_index.Given as goal

abbrev pub invariant-loop-dimension : goal.invariant-loop-dimension
invariant-loop-dimension l =
    short_flat (drop l.dimension (bounds_of l.layout l.object)) (map int_in (drop l.dimension l.operands)) l.flat
    ≡ short_flat (bounds_of l.layout l.object) (map int_in l.operands) 0
