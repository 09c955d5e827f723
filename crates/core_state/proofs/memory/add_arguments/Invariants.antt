use Rattle.std.proofs.Common.{◌≡◌, ◌++◌, map, take}
use Rattle.sc_meaning.specs.Memory.{has}
use Rattle.node_values.specs.Operands.{value_in}
use Rattle.core_state.specs.Locals.{slot_in}
use Rattle.core_state.proofs.memory.add_arguments.Given as goal

abbrev pub invariant-loop-operand : goal.invariant-loop-operand
invariant-loop-operand l =
    map slot_in l.all.items ≡ map slot_in l.initial.all.items ++ map has (map value_in (take l.operand-index l.arguments))
