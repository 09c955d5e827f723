use Rattle.std.proofs.Common.{◌≡◌, subst}
use Rattle.fabric.specs.Effects.{effects}
use Rattle.fabric.specs.Issuing.{HoldsAfter}
use Rattle.fabric.specs.State.{State, start_of}
use Rattle.fabric.specs.Delivering.{value_in}
use Rattle.fabric.proofs.DeliverySteps.{Took, took, ready_of, sendable_back, issuer_known, track_known, some_outstanding, entry_room, deliver_kept}
use Rattle.fabric.proofs.state.Fabric.deliver.Goals as goal

pub take_effect-value-requires : goal.take_effect-value-requires
take_effect-value-requires c =
    let s : State = record { memory = c.self.inside.memory; pool = c.self.inside.pool; book = c.self.inside.book; past = c.self.inside.log.past; spare = c.self.inside.spare } in
    let t : Took s.pool c.unwrap-message.result c.take.new.self = took s.pool c.args.id c.unwrap-message.result c.take.new.self (rw c.unwrap-message.ensures at c.take.ensures.taken) in
    (ready_of s c.self.inside.reads c.self.inside.log.nodes c.self.inside.log.room c.unwrap-message.result c.take.new.self c.self.invariant t).part

pub follow-requires-clause-sendable : goal.follow-requires-clause-sendable
follow-requires-clause-sendable c = λ to is.
    let s : State = record { memory = c.self.inside.memory; pool = c.self.inside.pool; book = c.self.inside.book; past = c.self.inside.log.past; spare = c.self.inside.spare } in
    let t : Took s.pool c.unwrap-message.result c.take.new.self = took s.pool c.args.id c.unwrap-message.result c.take.new.self (rw c.unwrap-message.ensures at c.take.ensures.taken) in
    sendable_back s c.self.inside.reads c.self.inside.log.nodes c.self.inside.log.room c.unwrap-message.result c.take.new.self c.take_effect-value.result to c.self.invariant t c.len-len.ensures.short is

pub follow-requires-clause-node : goal.follow-requires-clause-node
follow-requires-clause-node c =
    let s : State = record { memory = c.self.inside.memory; pool = c.self.inside.pool; book = c.self.inside.book; past = c.self.inside.log.past; spare = c.self.inside.spare } in
    let t : Took s.pool c.unwrap-message.result c.take.new.self = took s.pool c.args.id c.unwrap-message.result c.take.new.self (rw c.unwrap-message.ensures at c.take.ensures.taken) in
    issuer_known s c.self.inside.reads c.self.inside.log.nodes c.self.inside.log.room c.unwrap-message.result c.take.new.self c.self.invariant t

pub follow-requires-clause-counter : goal.follow-requires-clause-counter
follow-requires-clause-counter c =
    let s : State = record { memory = c.self.inside.memory; pool = c.self.inside.pool; book = c.self.inside.book; past = c.self.inside.log.past; spare = c.self.inside.spare } in
    let t : Took s.pool c.unwrap-message.result c.take.new.self = took s.pool c.args.id c.unwrap-message.result c.take.new.self (rw c.unwrap-message.ensures at c.take.ensures.taken) in
    track_known s c.self.inside.reads c.self.inside.log.nodes c.self.inside.log.room c.unwrap-message.result c.take.new.self c.self.invariant t

pub follow-requires-clause-outstanding : goal.follow-requires-clause-outstanding
follow-requires-clause-outstanding c =
    let s : State = record { memory = c.self.inside.memory; pool = c.self.inside.pool; book = c.self.inside.book; past = c.self.inside.log.past; spare = c.self.inside.spare } in
    let t : Took s.pool c.unwrap-message.result c.take.new.self = took s.pool c.args.id c.unwrap-message.result c.take.new.self (rw c.unwrap-message.ensures at c.take.ensures.taken) in
    some_outstanding s c.self.inside.reads c.self.inside.log.nodes c.self.inside.log.room c.unwrap-message.result c.take.new.self c.self.invariant t

pub add-requires-clause-room : goal.add-requires-clause-room
add-requires-clause-room c =
    let s : State = record { memory = c.self.inside.memory; pool = c.self.inside.pool; book = c.self.inside.book; past = c.self.inside.log.past; spare = c.self.inside.spare } in
    let t : Took s.pool c.unwrap-message.result c.take.new.self = took s.pool c.args.id c.unwrap-message.result c.take.new.self (rw c.unwrap-message.ensures at c.take.ensures.taken) in
    entry_room s c.self.inside.reads c.self.inside.log.nodes c.self.inside.log.room c.unwrap-message.result c.take.new.self c.self.invariant t

pub invariant_of-self : goal.invariant_of-self
invariant_of-self c =
    let s : State = record { memory = c.self.inside.memory; pool = c.self.inside.pool; book = c.self.inside.book; past = c.self.inside.log.past; spare = c.self.inside.spare } in
    let t : Took s.pool c.unwrap-message.result c.take.new.self = took s.pool c.args.id c.unwrap-message.result c.take.new.self (rw c.unwrap-message.ensures at c.take.ensures.taken) in
    let earlier = effects (start_of s) s.past in
    let held : HoldsAfter s.memory earlier = c.self.invariant.of_journal.memory in
    rw c.add.ensures.past
    (deliver_kept s c.self.inside.reads c.note.new.reads c.self.inside.log c.add.new.self c.unwrap-message.result c.take.new.self c.follow.new.pool c.take_effect-value.new.memory c.follow.new.book
    c.take_effect-value.result c.self.invariant t c.take_effect-value.ensures.layout (c.take_effect-value.ensures.value earlier held)
    (λ e has. c.take_effect-value.ensures.holds earlier e has held) c.take_effect-value.ensures.fits
    c.follow.ensures.messages c.follow.ensures.spare c.follow.ensures.puts c.follow.ensures.nodes c.follow.ensures.book c.follow.ensures.total
    c.note.ensures.reads c.note.ensures.spare c.add.ensures.nodes c.add.ensures.room)

pub returns-clause-value : goal.returns-clause-value
returns-clause-value c =
    let s : State = record { memory = c.self.inside.memory; pool = c.self.inside.pool; book = c.self.inside.book; past = c.self.inside.log.past; spare = c.self.inside.spare } in
    let held : HoldsAfter s.memory (effects (start_of s) s.past) = c.self.invariant.of_journal.memory in
    subst (λ (v : State). c.take_effect-value.result ≡ value_in (start_of v) (effects (start_of v) v.past) c.unwrap-message.result.part) c.self.view_is
    (c.take_effect-value.ensures.value (effects (start_of s) s.past) held)
