use Rattle.std.proofs.Common.{◌≡◌, ◌+◌, ◌++◌, map, take, vec_len, vec_capacity}
use Rattle.sc_isa.specs.declared.operand.Slot.TheVariants.{Holds}
use Rattle.node_state.proofs.landing.add_arguments.Given as goal

abbrev pub invariant-loop-operand : goal.invariant-loop-operand
invariant-loop-operand l =
    (l.slots.items ≡ l.initial.slots.items ++ map Holds (take l.operand-index l.operands))
    × (vec_len l.slots ≡ vec_len l.initial.slots + l.operand-index)
    × (vec_capacity l.slots ≡ vec_capacity l.initial.slots)
