use Rattle.std.proofs.Common.{ap}
use Rattle.sc_isa.specs.declared.op.Op.{Op}
use Rattle.sc_isa.specs.declared.access.Track.TheVariants as tracks
use Rattle.sc_isa.specs.Table.{does_op}
use Rattle.node_machine.specs.View.{state_of}
use Rattle.node_machine.proofs.Doing.{done_by}
use Rattle.node_machine.proofs.machine.Machine.does.Goals as goal

pub returns-in-Load-clause-done : goal.returns-in-Load-clause-done
returns-in-Load-clause-done c = λ flying counts.
    done_by _ _ _ _
    (ap (λ (o : Op). does_op c.args.code.now c.args.layout.now c.args.own o c.args.line (state_of c.args.self.now flying)) c.in-Load.is)
    (c.load.ensures.done c.args.code.now 0 (tracks.Counter 0) flying counts)

pub returns-in-Clear-clause-done : goal.returns-in-Clear-clause-done
returns-in-Clear-clause-done c = λ flying counts.
    done_by _ _ _ _
    (ap (λ (o : Op). does_op c.args.code.now c.args.layout.now c.args.own o c.args.line (state_of c.args.self.now flying)) c.in-Clear.is)
    (c.clear.ensures.done 0 (tracks.Counter 0) flying counts)
