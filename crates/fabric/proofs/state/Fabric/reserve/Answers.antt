use Rattle.std.proofs.Common.{◌≤◌, ◌+◌, ◌*◌, length, sym, subst, arith}
use Rattle.msg_pool.specs.Pool.{Pool}
use Rattle.fabric.specs.State.{State}
use Rattle.fabric.specs.Kept.{IsFabric}
use Rattle.fabric.proofs.Calls.{room_kept}
use Rattle.fabric.proofs.state.Fabric.reserve.Goals as goal

pub invariant_of-self-2 : goal.invariant_of-self-2
invariant_of-self-2 c =
    let s : State = record { memory = c.self.inside.memory; pool = c.self.inside.pool; book = c.self.inside.book; past = c.self.inside.log.past; spare = c.self.inside.spare } in
    let pool_fits : c.from-self-inside.result ≤ c.reserve.new.self.spare = omega (arith, c.from-self-inside.ensures, c.in_ok-reserve.ensures.room) in
    let reads_fit : c.from-self-inside.result ≤ c.reserve-2.new.self.spare = omega (arith, c.from-self-inside.ensures, c.in_ok-reserve-2.ensures.enough) in
    let fits : c.from-self-inside.result + length c.self.inside.pool.pending * 2 ≤ c.reserve-3.new.self.room =
    omega (arith, c.from-self-inside.ensures, c.in_ok-reserve-3.ensures.enough, c.in_ok-room.ensures, c.count.ensures) in
    rw c.reserve-3.ensures.past
    (subst (λ (p : Pool). IsFabric (record s { pool = p; spare = c.from-self-inside.result }) c.reserve-2.new.self c.reserve-3.new.self.nodes c.reserve-3.new.self.room)
    (sym c.reserve.ensures.same)
    (room_kept s c.self.inside.reads c.reserve-2.new.self c.self.inside.log.nodes c.reserve-3.new.self.nodes c.self.inside.log.room c.reserve-3.new.self.room
    c.from-self-inside.result c.reserve.new.self.spare c.self.invariant c.reserve-3.ensures.nodes c.reserve-2.ensures.reads pool_fits reads_fit fits))
