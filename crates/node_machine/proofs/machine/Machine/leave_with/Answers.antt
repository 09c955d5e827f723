use Rattle.std.proofs.Common.{List, ap}
use Rattle.sc_isa.specs.State.{Frame}
use Rattle.sc_isa.specs.Moves as table
use Rattle.sc_isa.specs.Table.{returned}
use Rattle.node_machine.specs.View.{state_of}
use Rattle.node_machine.proofs.Doing.{done_by}
use Rattle.node_machine.proofs.machine.Machine.leave_with.Goals as goal

pub returns-clause-done : goal.returns-clause-done
returns-clause-done c = λ flying counts.
    done_by _ _ _ _
    (ap (λ (cs : List Frame). table.Comes (returned c.args.value (state_of c.args.self.now flying) cs)) c.in-Some.ensures.caller)
    (c.gain.ensures.done flying counts)
