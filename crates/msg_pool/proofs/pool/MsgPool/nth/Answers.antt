use Rattle.std.proofs.Common.{Some, sym, ap, ◌∙◌}
use Rattle.std.specs.Option.{option_map}
use Rattle.msg_pool.specs.declared.slot.Grouping.TheVariants.{Every}
use Rattle.msg_pool.specs.Inner.{parts_of}
use Rattle.msg_pool.specs.Slots.{pending_at}
use Rattle.msg_pool.proofs.Shown.{every_walked, every_nth, every_once, present_at}
use Rattle.msg_pool.proofs.pool.MsgPool.nth.Goals as goal

pub nth-requires : goal.nth-requires
nth-requires c = every_walked (parts_of c.self.inside) c.self.invariant

pub returns-in_err-key-clause-id : goal.returns-in_err-key-clause-id
returns-in_err-key-clause-id c =
    rw (c.from_residual.ensures, ← c.self.view_is)
    (ap (option_map (λ key. (pending_at c.self.inside.slots key).id)) c.in_err-key.ensures
    ∙ sym (every_nth (parts_of c.self.inside) c.self.invariant c.args.k))

pub id_at-requires : goal.id_at-requires
id_at-requires c =
    present_at Every c.self.inside.slots c.self.inside.every c.args.k c.in_ok-key.key
    (every_walked (parts_of c.self.inside) c.self.invariant) c.in_ok-key.ensures

pub returns-clause-id : goal.returns-clause-id
returns-clause-id c =
    rw (← c.self.view_is)
    (ap (λ id. Some id) c.id_at.ensures
    ∙ ap (option_map (λ key. (pending_at c.self.inside.slots key).id)) c.in_ok-key.ensures
    ∙ sym (every_nth (parts_of c.self.inside) c.self.invariant c.args.k))

pub returns-in_err-key-clause-once : goal.returns-in_err-key-clause-once
returns-in_err-key-clause-once c = rw (← c.self.view_is) (every_once (parts_of c.self.inside) c.self.invariant)

pub returns-clause-once : goal.returns-clause-once
returns-clause-once c = rw (← c.self.view_is) (every_once (parts_of c.self.inside) c.self.invariant)
