use Rattle.std.proofs.Common.{◌++◌, ◌∙◌, ap}
use Rattle.fabric.specs.Reads.{reads_on, values_in}
use Rattle.fabric.specs.State.{State, start_of}
use Rattle.fabric.proofs.Landing.{lands, wait_kept}
use Rattle.fabric.proofs.state.Fabric.land.Goals as goal

pub returns-clause-values : goal.returns-clause-values
returns-clause-values c =
    let s : State = record { memory = c.self.inside.memory; pool = c.self.inside.pool; book = c.self.inside.book; past = c.self.inside.log.past; spare = c.self.inside.spare } in
    rw (← c.self.view_is)
    (c.take.ensures.values ∙ ap (λ l. l ++ values_in (reads_on c.args.node c.args.counter c.self.inside.reads.reads)) c.requires.empty
    ∙ lands (start_of s) s.past c.args.node c.args.counter c.self.inside.reads.reads c.self.invariant.awaited_are)

pub invariant_of-self : goal.invariant_of-self
invariant_of-self c =
    let s : State = record { memory = c.self.inside.memory; pool = c.self.inside.pool; book = c.self.inside.book; past = c.self.inside.log.past; spare = c.self.inside.spare } in
    rw c.add.ensures.past
    (wait_kept s c.self.inside.reads c.take.new.self c.self.inside.log c.add.new.self c.args.node c.args.counter c.self.invariant
    (rw (← c.self.view_is) at c.requires.going) (rw (← c.self.view_is) at c.requires.none) (rw (← c.self.view_is) at c.requires.room) c.add.ensures.nodes c.add.ensures.room
    c.take.ensures.reads c.take.ensures.spare)
