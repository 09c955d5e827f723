use Rattle.std.proofs.Common.{◌<◌, length, arith}
use Rattle.std.proofs.lemmas.List.{get_or_default}
use Rattle.std.proofs.lemmas.List.Edits.{map_over_more}
use Rattle.sc_isa.specs.State.{land}
use Rattle.node_state.proofs.landing.land_operands.Goals as goal

pub loop-operand-preserved : goal.loop-operand-preserved
loop-operand-preserved c =
    let within : c.loop-operand.operand-index < length c.loop-operand.operands = omega (arith, c.loop-operand-test.true, c.loop-operand.auto.operands) in
    rw c.landed.ensures
    (map_over_more (land c.args.counter c.args.values.now) c.args.operands.now c.loop-operand.operands c.loop-operand.operand-index _
    c.loop-operand-test.true c.loop-operand.invariant (get_or_default c.loop-operand.operands c.loop-operand.operand-index _ _ within))
