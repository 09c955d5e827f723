use Rattle.fabric.specs.Kept.{IsReady}
use Rattle.fabric.specs.State.{messages_of}
use Rattle.fabric.proofs.CellSteps.{each_one, ready_return, ready_write, copied_here, copied_back}
use Rattle.fabric.proofs.issuing.copy_cell.Goals as goal

pub returns-then-read-node-clause-ready : goal.returns-then-read-node-clause-ready
returns-then-read-node-clause-ready c = λ sites known all.
    each_one (IsReady c.args.memory.now.layout sites) (messages_of c.args.pool.now) (messages_of c.send.new.pool) _ c.send.ensures.messages all
    (ready_return c.args.memory.now.layout sites c.args.node c.args.number c.args.cell c.args.from c.args.to c.args.cells c.args.track c.further-read.result c.further-written.result
    c.requires.copy c.requires.within c.requires.ready.issuer known c.further-read.ensures c.further-written.ensures)

pub returns-then-written-node-clause-issued : goal.returns-then-written-node-clause-issued
returns-then-written-node-clause-issued c = λ earlier u h.
    copied_here c.args.memory.now c.write.new.self c.args.pool.now c.args.node c.args.number c.args.cell c.args.from c.args.to c.args.cells c.args.track
    c.further-read.result c.further-written.result c.read-value.result earlier c.requires.within c.further-read.ensures c.further-written.ensures
    c.if-read-node.false c.if-written-node.true (c.requires.copy.from_inside c.args.cell c.requires.within) c.read-value.ensures.holds
    c.write.ensures.layout c.write.ensures.there c.write.ensures.elsewhere u h

pub returns-else-written-node-clause-issued : goal.returns-else-written-node-clause-issued
returns-else-written-node-clause-issued c = λ earlier u h.
    copied_back c.args.memory.now c.args.pool.now c.send-else-written-node.new.pool c.args.node c.args.number c.args.cell c.args.from c.args.to c.args.cells c.args.track
    c.further-read.result c.further-written.result c.read-value.result earlier c.requires.within c.further-read.ensures c.further-written.ensures
    c.if-read-node.false c.if-written-node.false (c.requires.copy.from_inside c.args.cell c.requires.within) c.read-value.ensures.holds
    c.send-else-written-node.ensures.messages u h

pub returns-else-written-node-clause-ready : goal.returns-else-written-node-clause-ready
returns-else-written-node-clause-ready c = λ sites known all.
    each_one (IsReady c.args.memory.now.layout sites) (messages_of c.args.pool.now) (messages_of c.send-else-written-node.new.pool) _ c.send-else-written-node.ensures.messages all
    (ready_write c.args.memory.now.layout sites c.args.node c.args.number c.args.cell c.args.from c.args.to c.args.cells c.args.track c.further-read.result c.further-written.result
    c.read-value.result c.requires.copy c.requires.within c.requires.ready.issuer known c.further-read.ensures c.further-written.ensures c.read-value.ensures.fits)
