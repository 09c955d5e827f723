use Rattle.std.proofs.Common.{◌<◌, length, arith}
use Rattle.std.proofs.lemmas.List.{get_or_default}
use Rattle.std.proofs.lemmas.List.Edits.{map_over_more}
use Rattle.sc_isa.specs.State.{land_slot}
use Rattle.node_state.proofs.landing.land_slots.Goals as goal

pub loop-slot-preserved : goal.loop-slot-preserved
loop-slot-preserved c =
    let within : c.loop-slot.slot-index < length c.loop-slot.slots = omega (arith, c.loop-slot-test.true, c.loop-slot.auto.slots) in
    rw c.landed_slot.ensures
    (map_over_more (land_slot c.args.counter c.args.values.now) c.args.slots.now c.loop-slot.slots c.loop-slot.slot-index _
    c.loop-slot-test.true c.loop-slot.invariant (get_or_default c.loop-slot.slots c.loop-slot.slot-index _ _ within))
