use Rattle.std.proofs.Common.{◌≡◌, ◌-◌}
use Rattle.std.specs.Prelude.{slice_get}
use Rattle.msg_pool.specs.Chains.{forward}
use Rattle.msg_pool.specs.Slots.{link_at}
use Rattle.msg_pool.proofs.chain.from_tail.Given as goal

abbrev pub invariant-loop : goal.invariant-loop
invariant-loop l =
    l.at ≡ slice_get (forward (link_at l.grouping l.slots) l.fn.chain.head l.fn.chain.count) (l.fn.chain.count - 1 - l.counter)
