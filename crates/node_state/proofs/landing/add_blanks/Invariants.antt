use Rattle.std.proofs.Common.{◌≡◌, ◌+◌, ◌++◌, replicate, vec_len, vec_capacity}
use Rattle.sc_isa.specs.State.{blank}
use Rattle.node_state.proofs.landing.add_blanks.Given as goal

abbrev pub invariant-loop : goal.invariant-loop
invariant-loop l =
    (l.slots.items ≡ l.initial.slots.items ++ replicate l.counter blank)
    × (vec_len l.slots ≡ vec_len l.initial.slots + l.counter) × (vec_capacity l.slots ≡ vec_capacity l.initial.slots)
