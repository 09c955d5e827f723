use Rattle.std.proofs.Common.{refl}
use Rattle.sc_isa.specs.State.{State}
use Rattle.node_machine.specs.View.{state_of}
use Rattle.node_machine.proofs.Getting.{gets_found}
use Rattle.node_machine.proofs.machine.Machine.get.Goals as goal

pub returns-in-Found-clause-done : goal.returns-in-Found-clause-done
returns-in-Found-clause-done c = λ track flying counts.
    let mid : State = record {
      frame = record {
        at = c.args.self.now.at;
        stack = c.take_one.new.self.stack;
        locals = c.take_one.new.self.locals;
      };
      callers = c.take_one.new.self.callers;
      left = c.args.self.now.left;
      flying = flying;
    } in
    gets_found c.args.layout.now c.args.site track c.args.line c.args.local (state_of c.args.self.now flying) mid _
    c.in-Some.pointer c.take_one.new.self.stack c.in-Found.place c.get_local.result c.get_local.new.self
    c.in-Some.ensures.taken c.in-Found.ensures (rw (c.in-Some.ensures.locals, c.in-Some.ensures.callers) refl)
    (c.get_local.ensures.done c.args.site track flying counts)
