use Rattle.fabric.proofs.CellSteps.{read_here, read_away}
use Rattle.fabric.proofs.issuing.issue_read.Goals as goal

pub returns-then-place-node-clause-issued : goal.returns-then-place-node-clause-issued
returns-then-place-node-clause-issued c = λ earlier u h.
    read_away c.args.memory.now c.args.pool.now c.send.new.pool c.args.node c.args.number c.args.place c.args.track earlier
    c.if-place-node.true c.send.ensures.messages u h

pub returns-else-place-node-clause-issued : goal.returns-else-place-node-clause-issued
returns-else-place-node-clause-issued c = λ earlier u h.
    read_here c.args.memory.now c.args.pool.now c.args.node c.args.number c.args.place c.args.track earlier c.if-place-node.false u h
