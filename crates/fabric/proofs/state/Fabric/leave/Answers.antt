use Rattle.fabric.specs.State.{State}
use Rattle.fabric.proofs.Calls.{leave_kept}
use Rattle.fabric.proofs.state.Fabric.leave.Goals as goal

pub invariant_of-self : goal.invariant_of-self
invariant_of-self c =
    let s : State = record { memory = c.self.inside.memory; pool = c.self.inside.pool; book = c.self.inside.book; past = c.self.inside.log.past; spare = c.self.inside.spare } in
    rw (c.add.ensures.past, c.leave.ensures)
    (leave_kept s c.self.inside.reads c.self.inside.log c.add.new.self c.args.node c.self.invariant
    (rw (← c.self.view_is) at c.requires.running) (rw (← c.self.view_is) at c.requires.released) (rw (← c.self.view_is) at c.requires.room) c.add.ensures.nodes c.add.ensures.room)
