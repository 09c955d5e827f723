use Rattle.std.proofs.Common.{sym, subst}
use Rattle.slab.specs.Slab.{Slab}
use Rattle.msg_pool.specs.declared.slot.Slot.{Slot}
use Rattle.msg_pool.specs.Sound.{IsPool}
use Rattle.msg_pool.specs.Inner.{parts_of}
use Rattle.msg_pool.proofs.Shown.{reserved_sound}
use Rattle.msg_pool.proofs.pool.MsgPool.reserve.Goals as goal

pub invariant_of-self : goal.invariant_of-self
invariant_of-self c =
    let P : Slab Slot → Type 0 = λ slots. IsPool (record (parts_of c.self.inside) { slots = slots }) in
    subst P (sym c.reserve.ensures.rest_kept)
    (reserved_sound (parts_of c.self.inside) c.reserve.new.self.capacity c.self.invariant c.reserve.ensures.capacity)
