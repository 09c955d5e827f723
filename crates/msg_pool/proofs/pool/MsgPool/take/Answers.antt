use Rattle.std.proofs.Common.{◌≡◌, refl, arith}
use Rattle.msg_pool.specs.declared.slot.Slot.{Slot}
use Rattle.msg_pool.specs.Inner.{parts_of}
use Rattle.msg_pool.specs.Chains.{chain_at}
use Rattle.msg_pool.specs.Sound.{Parts, pool_of}
use Rattle.msg_pool.proofs.Taking.{every_neighbours, issuer_neighbours, target_neighbours, issuer_counts, target_counts, still_there, takes_pending, not_pending, none_is_full}
use Rattle.msg_pool.proofs.Steps.{take_steps}
use Rattle.msg_pool.proofs.pool.MsgPool.take.Goals as goal

pub returns-in_err-slot-clause-found : goal.returns-in_err-slot-clause-found
returns-in_err-slot-clause-found c = (
  (λ some. absurd (none_is_full (rw c.from_residual.ensures at some))),
  (λ pending. absurd (not_pending (parts_of c.self.inside) c.args.id c.self.invariant c.in_err-slot.ensures.absent (rw (← c.self.view_is) at pending))),
)

pub unlinked-every-requires-clause-next : goal.unlinked-every-requires-clause-next
unlinked-every-requires-clause-next c =
    (every_neighbours (parts_of c.self.inside) c.in_ok-slot.slot c.args.id.key c.self.invariant c.in_ok-slot.ensures.stored).0

pub unlinked-every-requires-clause-previous : goal.unlinked-every-requires-clause-previous
unlinked-every-requires-clause-previous c =
    (every_neighbours (parts_of c.self.inside) c.in_ok-slot.slot c.args.id.key c.self.invariant c.in_ok-slot.ensures.stored).1

pub unlinked-of_issuer-requires-clause-next : goal.unlinked-of_issuer-requires-clause-next
unlinked-of_issuer-requires-clause-next c =
    (issuer_neighbours (parts_of c.self.inside) c.in_ok-slot.slot c.args.id.key c.unlinked-every.new.slots c.self.invariant c.in_ok-slot.ensures.stored c.unlinked-every.ensures.slots).0

pub unlinked-of_issuer-requires-clause-previous : goal.unlinked-of_issuer-requires-clause-previous
unlinked-of_issuer-requires-clause-previous c =
    (issuer_neighbours (parts_of c.self.inside) c.in_ok-slot.slot c.args.id.key c.unlinked-every.new.slots c.self.invariant c.in_ok-slot.ensures.stored c.unlinked-every.ensures.slots).1

pub unlinked-to_target-requires-clause-next : goal.unlinked-to_target-requires-clause-next
unlinked-to_target-requires-clause-next c =
    (target_neighbours (parts_of c.self.inside) c.in_ok-slot.slot c.args.id.key c.unlinked-every.new.slots c.unlinked-of_issuer.new.slots c.self.invariant c.in_ok-slot.ensures.stored c.unlinked-every.ensures.slots c.unlinked-of_issuer.ensures.slots).0

pub unlinked-to_target-requires-clause-previous : goal.unlinked-to_target-requires-clause-previous
unlinked-to_target-requires-clause-previous c =
    (target_neighbours (parts_of c.self.inside) c.in_ok-slot.slot c.args.id.key c.unlinked-every.new.slots c.unlinked-of_issuer.new.slots c.self.invariant c.in_ok-slot.ensures.stored c.unlinked-every.ensures.slots c.unlinked-of_issuer.ensures.slots).1

pub unlinked-of_issuer-requires-clause-some : goal.unlinked-of_issuer-requires-clause-some
unlinked-of_issuer-requires-clause-some c =
    rw (c.chain_of-of_issuer.ensures, c.as_slice.ensures.value)
    (issuer_counts (parts_of c.self.inside) c.in_ok-slot.slot c.args.id.key c.self.invariant c.in_ok-slot.ensures.stored).0

pub unlinked-to_target-requires-clause-some : goal.unlinked-to_target-requires-clause-some
unlinked-to_target-requires-clause-some c =
    rw (c.chain_of-to_target.ensures, c.as_slice-2.ensures.value, c.target-target.ensures)
    (target_counts (parts_of c.self.inside) c.in_ok-slot.slot c.args.id.key c.self.invariant c.in_ok-slot.ensures.stored).0

pub index_mut-requires : goal.index_mut-requires
index_mut-requires c =
    let counts = issuer_counts (parts_of c.self.inside) c.in_ok-slot.slot c.args.id.key c.self.invariant c.in_ok-slot.ensures.stored in
    omega (arith, counts.1, c.self.inside.issuers.ok.0)

pub index_mut-requires-2 : goal.index_mut-requires-2
index_mut-requires-2 c =
    let counts = target_counts (parts_of c.self.inside) c.in_ok-slot.slot c.args.id.key c.self.invariant c.in_ok-slot.ensures.stored in
    omega (arith, counts.1, c.target-target.ensures, c.self.inside.targets.ok.0)

pub remove-requires : goal.remove-requires
remove-requires c =
    still_there c.self.inside.slots c.unlinked-every.new.slots c.unlinked-of_issuer.new.slots c.unlinked-to_target.new.slots
    c.in_ok-slot.slot c.args.id.key c.in_ok-slot.ensures.stored c.unlinked-every.ensures.slots c.unlinked-of_issuer.ensures.slots
    c.unlinked-to_target.ensures.slots

pub invariant_of-self : goal.invariant_of-self
invariant_of-self c =
    let parts : Parts = parts_of c.self.inside in
    let slot : Slot = c.in_ok-slot.slot in
    let of_issuer : c.chain_of-of_issuer.result ≡ chain_at parts.issuers slot.message.issuer = rw c.as_slice.ensures.value at c.chain_of-of_issuer.ensures in
    let to_target : c.chain_of-to_target.result ≡ chain_at parts.targets c.target-target.result = rw c.as_slice-2.ensures.value at c.chain_of-to_target.ensures in
    let done =
    take_steps parts slot c.args.id c.target-target.result c.chain_of-of_issuer.result c.chain_of-to_target.result
    c.unlinked-every.new.slots c.unlinked-of_issuer.new.slots c.unlinked-to_target.new.slots c.remove.new.self
    c.unlinked-every.result c.unlinked-of_issuer.result c.unlinked-to_target.result c.self.invariant
    c.in_ok-slot.ensures.stored c.in_ok-slot.ensures.serial
    (record { target_is = c.target-target.ensures; issuer_is = of_issuer; targets_is = to_target })
    (record {
      second_is = c.unlinked-every.ensures.slots;
      third_is = c.unlinked-of_issuer.ensures.slots;
      last_is = c.unlinked-to_target.ensures.slots;
      every_is = c.unlinked-every.ensures.chain;
      of_issuer_is = c.unlinked-of_issuer.ensures.chain;
      to_target_is = c.unlinked-to_target.ensures.chain;
    })
    (record { updates = c.remove.ensures.updates; counted = c.remove.ensures.len; capacity = c.remove.ensures.capacity }) in
    done.0

pub returns-clause-found : goal.returns-clause-found
returns-clause-found c =
    let parts : Parts = parts_of c.self.inside in
    let slot : Slot = c.in_ok-slot.slot in
    let of_issuer : c.chain_of-of_issuer.result ≡ chain_at parts.issuers slot.message.issuer = rw c.as_slice.ensures.value at c.chain_of-of_issuer.ensures in
    let to_target : c.chain_of-to_target.result ≡ chain_at parts.targets c.target-target.result = rw c.as_slice-2.ensures.value at c.chain_of-to_target.ensures in
    let done =
    take_steps parts slot c.args.id c.target-target.result c.chain_of-of_issuer.result c.chain_of-to_target.result
    c.unlinked-every.new.slots c.unlinked-of_issuer.new.slots c.unlinked-to_target.new.slots c.remove.new.self
    c.unlinked-every.result c.unlinked-of_issuer.result c.unlinked-to_target.result c.self.invariant
    c.in_ok-slot.ensures.stored c.in_ok-slot.ensures.serial
    (record { target_is = c.target-target.ensures; issuer_is = of_issuer; targets_is = to_target })
    (record {
      second_is = c.unlinked-every.ensures.slots;
      third_is = c.unlinked-of_issuer.ensures.slots;
      last_is = c.unlinked-to_target.ensures.slots;
      every_is = c.unlinked-every.ensures.chain;
      of_issuer_is = c.unlinked-of_issuer.ensures.chain;
      to_target_is = c.unlinked-to_target.ensures.chain;
    })
    (record { updates = c.remove.ensures.updates; counted = c.remove.ensures.len; capacity = c.remove.ensures.capacity }) in
    ((λ some. rw (← c.self.view_is) (takes_pending (pool_of parts) _ c.args.id slot.message done.1)), (λ pending. refl))

pub returns-clause-taken : goal.returns-clause-taken
returns-clause-taken c =
    let parts : Parts = parts_of c.self.inside in
    let slot : Slot = c.in_ok-slot.slot in
    let of_issuer : c.chain_of-of_issuer.result ≡ chain_at parts.issuers slot.message.issuer = rw c.as_slice.ensures.value at c.chain_of-of_issuer.ensures in
    let to_target : c.chain_of-to_target.result ≡ chain_at parts.targets c.target-target.result = rw c.as_slice-2.ensures.value at c.chain_of-to_target.ensures in
    let done =
    take_steps parts slot c.args.id c.target-target.result c.chain_of-of_issuer.result c.chain_of-to_target.result
    c.unlinked-every.new.slots c.unlinked-of_issuer.new.slots c.unlinked-to_target.new.slots c.remove.new.self
    c.unlinked-every.result c.unlinked-of_issuer.result c.unlinked-to_target.result c.self.invariant
    c.in_ok-slot.ensures.stored c.in_ok-slot.ensures.serial
    (record { target_is = c.target-target.ensures; issuer_is = of_issuer; targets_is = to_target })
    (record {
      second_is = c.unlinked-every.ensures.slots;
      third_is = c.unlinked-of_issuer.ensures.slots;
      last_is = c.unlinked-to_target.ensures.slots;
      every_is = c.unlinked-every.ensures.chain;
      of_issuer_is = c.unlinked-of_issuer.ensures.chain;
      to_target_is = c.unlinked-to_target.ensures.chain;
    })
    (record { updates = c.remove.ensures.updates; counted = c.remove.ensures.len; capacity = c.remove.ensures.capacity }) in
    rw (← c.self.view_is) done.1
