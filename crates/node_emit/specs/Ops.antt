-- The instructions of a step as a list.
use Rattle.std.specs.Prelude.{List, ◌∷◌}
use Rattle.std.specs.Option.{option_to_list}
use Rattle.sc_isa.specs.declared.op.Op.{Op}
use Rattle.node_emit.specs.declared.steps.Ops.{Ops}

abbrev pub list_of : Ops → List Op
list_of ops = ops.first ∷ option_to_list ops.second
