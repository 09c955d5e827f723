use Rattle.std.proofs.Common.{◌≡◌, ◌++◌, map, take, drop}
use Rattle.sc_isa.specs.State.{land_slot}
use Rattle.node_state.proofs.landing.land_slots.Given as goal

abbrev pub invariant-loop-slot : goal.invariant-loop-slot
invariant-loop-slot l =
    l.slots ≡ map (land_slot l.counter l.values) (take l.slot-index l.initial.slots) ++ drop l.slot-index l.initial.slots
