use Rattle.std.proofs.Common.{◌≡◌, ◌++◌, map, take, drop}
use Rattle.sc_isa.specs.State.{land}
use Rattle.node_state.proofs.landing.land_operands.Given as goal

abbrev pub invariant-loop-operand : goal.invariant-loop-operand
invariant-loop-operand l =
    l.operands ≡ map (land l.counter l.values) (take l.operand-index l.initial.operands) ++ drop l.operand-index l.initial.operands
