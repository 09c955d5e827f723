use Rattle.fabric.proofs.CellSteps.{write_here, write_away}
use Rattle.fabric.proofs.issuing.issue_write.Goals as goal

pub returns-then-place-node-clause-issued : goal.returns-then-place-node-clause-issued
returns-then-place-node-clause-issued c = λ earlier u h.
    write_here c.args.memory.now c.write.new.self c.args.pool.now c.args.node c.args.number c.args.place c.args.value c.args.track earlier
    c.if-place-node.true c.write.ensures.layout c.write.ensures.there c.write.ensures.elsewhere u h

pub returns-else-place-node-clause-issued : goal.returns-else-place-node-clause-issued
returns-else-place-node-clause-issued c = λ earlier u h.
    write_away c.args.memory.now c.args.pool.now c.send.new.pool c.args.node c.args.number c.args.place c.args.value c.args.track earlier
    c.if-place-node.false c.send.ensures.messages u h
