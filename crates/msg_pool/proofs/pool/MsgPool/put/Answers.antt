use Rattle.std.proofs.Common.{◌≡◌, ◌+◌, ◌-◌, ◌^◌, ◌<◌, length, None, ap, ◌∙◌, arith, refl}
use Rattle.slab.specs.Slab.{slab_len}
use Rattle.msg_pool.specs.declared.slot.Slot.{Slot}
use Rattle.msg_pool.specs.declared.chain.Chain.{Chain}
use Rattle.msg_pool.specs.Inner.{parts_of}
use Rattle.msg_pool.specs.Chains.{chain_at, neighbours}
use Rattle.msg_pool.specs.Pool.{target_of}
use Rattle.msg_pool.specs.Sound.{Parts, keys_of}
use Rattle.msg_pool.proofs.Keys.{serial_below}
use Rattle.msg_pool.proofs.Putting.{IsInserted, every_ready, issuer_ready, target_ready, every_few, issuer_few, target_few}
use Rattle.msg_pool.proofs.Steps.{put_steps}
use Rattle.msg_pool.proofs.pool.MsgPool.put.Goals as goal

pub appended-every-requires-clause-tail : goal.appended-every-requires-clause-tail
appended-every-requires-clause-tail c =
    every_ready (parts_of c.self.inside) _ c.insert_reserved-key.result c.insert_reserved-key.new.self c.self.invariant
    c.insert_reserved-key.ensures.updates

pub appended-every-requires-clause-room : goal.appended-every-requires-clause-room
appended-every-requires-clause-room c =
    let puts : c.self.inside.puts + 1 < 2 ^ 64 = rw (← c.self.view_is) at c.requires.puts in
    omega (arith, every_few (parts_of c.self.inside) c.self.invariant, puts)

pub appended-of_issuer-requires-clause-tail : goal.appended-of_issuer-requires-clause-tail
appended-of_issuer-requires-clause-tail c =
    let parts : Parts = parts_of c.self.inside in
    let of_issuer : c.chain_of-of_issuer.result ≡ chain_at parts.issuers c.args.message.issuer = rw c.as_slice.ensures.value at c.chain_of-of_issuer.ensures in
    rw of_issuer
    (issuer_ready parts _ c.insert_reserved-key.result c.insert_reserved-key.new.self c.appended-every.new.slots c.args.message.issuer
    c.self.invariant c.insert_reserved-key.ensures.updates c.appended-every.ensures.slots)

pub appended-of_issuer-requires-clause-room : goal.appended-of_issuer-requires-clause-room
appended-of_issuer-requires-clause-room c =
    let parts : Parts = parts_of c.self.inside in
    let puts : c.self.inside.puts + 1 < 2 ^ 64 = rw (← c.self.view_is) at c.requires.puts in
    let of_issuer : c.chain_of-of_issuer.result ≡ chain_at parts.issuers c.args.message.issuer = rw c.as_slice.ensures.value at c.chain_of-of_issuer.ensures in
    rw of_issuer (omega (arith, issuer_few parts c.args.message.issuer c.self.invariant, puts))

pub appended-to_target-requires-clause-tail : goal.appended-to_target-requires-clause-tail
appended-to_target-requires-clause-tail c =
    let parts : Parts = parts_of c.self.inside in
    let of_issuer : c.chain_of-of_issuer.result ≡ chain_at parts.issuers c.args.message.issuer = rw c.as_slice.ensures.value at c.chain_of-of_issuer.ensures in
    let to_target : c.chain_of-to_target.result ≡ chain_at parts.targets c.target-target.result = rw c.as_slice-2.ensures.value at c.chain_of-to_target.ensures in
    rw to_target
    (target_ready parts _ c.insert_reserved-key.result c.insert_reserved-key.new.self c.appended-every.new.slots c.appended-of_issuer.new.slots
    c.target-target.result c.args.message.issuer c.self.invariant c.insert_reserved-key.ensures.updates c.appended-every.ensures.slots
    (rw of_issuer at c.appended-of_issuer.ensures.slots))

pub appended-to_target-requires-clause-room : goal.appended-to_target-requires-clause-room
appended-to_target-requires-clause-room c =
    let parts : Parts = parts_of c.self.inside in
    let puts : c.self.inside.puts + 1 < 2 ^ 64 = rw (← c.self.view_is) at c.requires.puts in
    let to_target : c.chain_of-to_target.result ≡ chain_at parts.targets c.target-target.result = rw c.as_slice-2.ensures.value at c.chain_of-to_target.ensures in
    rw to_target (omega (arith, target_few parts c.target-target.result c.self.invariant, puts))

pub invariant_of-self : goal.invariant_of-self
invariant_of-self c =
    let parts : Parts = parts_of c.self.inside in
    let inserted_at = c.insert_reserved-key in
    let slot : Slot = record { serial = parts.puts; message = c.args.message; every = c.behind.result; issuer = c.behind-2.result; target = c.behind-3.result } in
    let target : c.target-target.result ≡ target_of c.args.message = c.target-target.ensures in
    let of_issuer : c.chain_of-of_issuer.result ≡ chain_at parts.issuers c.args.message.issuer = rw c.as_slice.ensures.value at c.chain_of-of_issuer.ensures in
    let to_target : c.chain_of-to_target.result ≡ chain_at parts.targets c.target-target.result = rw c.as_slice-2.ensures.value at c.chain_of-to_target.ensures in
    let spare : 0 < parts.slots.capacity - slab_len parts.slots = rw (← c.self.view_is) at c.requires.spare in
    let issuer_within : c.args.message.issuer < length parts.issuers = rw (← c.self.view_is) at c.requires.issuer in
    let within : target_of c.args.message < length parts.issuers = rw (← c.self.view_is) at c.requires.target in
    let inserted : IsInserted parts slot inserted_at.result inserted_at.new.self =
    record {
      updates = inserted_at.ensures.updates;
      vacant = inserted_at.ensures.was_vacant;
      counted = inserted_at.ensures.len;
      capacity = inserted_at.ensures.capacity;
      room = omega (arith, spare);
      serial = refl;
      every = c.behind.ensures;
      issuer = c.behind-2.ensures ∙ ap (λ (chain : Chain). neighbours chain.tail None) of_issuer;
      target = c.behind-3.ensures ∙ ap (λ (chain : Chain). neighbours chain.tail None) (to_target ∙ ap (chain_at parts.targets) target);
      issuer_within = issuer_within;
      target_within = omega (arith, within, c.self.invariant.as_many);
    } in
    (put_steps parts slot inserted_at.result c.target-target.result c.chain_of-of_issuer.result c.chain_of-to_target.result
    inserted_at.new.self c.appended-every.new.slots c.appended-of_issuer.new.slots c.appended-to_target.new.slots
    c.appended-every.result c.appended-of_issuer.result c.appended-to_target.result c.self.invariant inserted
    (record { target_is = target; issuer_is = of_issuer; targets_is = to_target })
    (record {
      second_is = c.appended-every.ensures.slots;
      third_is = c.appended-of_issuer.ensures.slots;
      last_is = c.appended-to_target.ensures.slots;
      every_is = c.appended-every.ensures.chain;
      of_issuer_is = c.appended-of_issuer.ensures.chain;
      to_target_is = c.appended-to_target.ensures.chain;
    })).0

pub returns-clause-message : goal.returns-clause-message
returns-clause-message c =
    let parts : Parts = parts_of c.self.inside in
    let inserted_at = c.insert_reserved-key in
    let slot : Slot = record { serial = parts.puts; message = c.args.message; every = c.behind.result; issuer = c.behind-2.result; target = c.behind-3.result } in
    let target : c.target-target.result ≡ target_of c.args.message = c.target-target.ensures in
    let of_issuer : c.chain_of-of_issuer.result ≡ chain_at parts.issuers c.args.message.issuer = rw c.as_slice.ensures.value at c.chain_of-of_issuer.ensures in
    let to_target : c.chain_of-to_target.result ≡ chain_at parts.targets c.target-target.result = rw c.as_slice-2.ensures.value at c.chain_of-to_target.ensures in
    let spare : 0 < parts.slots.capacity - slab_len parts.slots = rw (← c.self.view_is) at c.requires.spare in
    let issuer_within : c.args.message.issuer < length parts.issuers = rw (← c.self.view_is) at c.requires.issuer in
    let within : target_of c.args.message < length parts.issuers = rw (← c.self.view_is) at c.requires.target in
    let inserted : IsInserted parts slot inserted_at.result inserted_at.new.self =
    record {
      updates = inserted_at.ensures.updates;
      vacant = inserted_at.ensures.was_vacant;
      counted = inserted_at.ensures.len;
      capacity = inserted_at.ensures.capacity;
      room = omega (arith, spare);
      serial = refl;
      every = c.behind.ensures;
      issuer = c.behind-2.ensures ∙ ap (λ (chain : Chain). neighbours chain.tail None) of_issuer;
      target = c.behind-3.ensures ∙ ap (λ (chain : Chain). neighbours chain.tail None) (to_target ∙ ap (chain_at parts.targets) target);
      issuer_within = issuer_within;
      target_within = omega (arith, within, c.self.invariant.as_many);
    } in
    rw (← c.self.view_is)
    (put_steps parts slot inserted_at.result c.target-target.result c.chain_of-of_issuer.result c.chain_of-to_target.result
    inserted_at.new.self c.appended-every.new.slots c.appended-of_issuer.new.slots c.appended-to_target.new.slots
    c.appended-every.result c.appended-of_issuer.result c.appended-to_target.result c.self.invariant inserted
    (record { target_is = target; issuer_is = of_issuer; targets_is = to_target })
    (record {
      second_is = c.appended-every.ensures.slots;
      third_is = c.appended-of_issuer.ensures.slots;
      last_is = c.appended-to_target.ensures.slots;
      every_is = c.appended-every.ensures.chain;
      of_issuer_is = c.appended-of_issuer.ensures.chain;
      to_target_is = c.appended-to_target.ensures.chain;
    })).1

pub returns-clause-fresh : goal.returns-clause-fresh
returns-clause-fresh c pending =
    let parts : Parts = parts_of c.self.inside in
    let below : parts.puts < parts.puts = serial_below parts.slots (keys_of parts) parts.puts (record { key = c.insert_reserved-key.result; serial = parts.puts }) c.self.invariant.numbered (rw (← c.self.view_is) at pending) in
    omega (arith, below)
