use Rattle.std.proofs.Common.{◌≡◌, refl, subst, drop}
use Rattle.sc_isa.specs.Deeds.{made_by}
use Rattle.sc_isa.specs.Elements as cells
use Rattle.sc_isa.specs.State.{State, with_stack}
use Rattle.sc_isa.specs.Moves.{gain_done}
use Rattle.node_values.specs.Plain.{plain}
use Rattle.node_machine.specs.View.{Done, state_of}
use Rattle.node_machine.proofs.Doing.{done_by}
use Rattle.node_machine.proofs.Indexed.{elem_few, elem_is}
use Rattle.node_machine.proofs.machine.Machine.elem.Goals as goal

pub returns-in_default-clause-done : goal.returns-in_default-clause-done
returns-in_default-clause-done c = λ code site track flying counts.
    done_by _ _ _ _
    (elem_few code c.args.layout.now c.args.own c.args.object c.args.count site track c.args.line
    (state_of c.args.self.now flying) c.in_default.ensures.few) tt

pub returns-clause-done : goal.returns-clause-done
returns-clause-done c = λ code site track flying counts.
    let mid : State = record {
      frame = record {
        at = c.args.self.now.at;
        stack = c.drop_many.new.self.stack;
        locals = c.drop_many.new.self.locals;
      };
      callers = c.drop_many.new.self.callers;
      left = c.args.self.now.left;
      flying = flying;
    } in
    let over : State = with_stack (drop c.args.count c.args.self.now.frames.stack) (state_of c.args.self.now flying) in
    let same : mid ≡ over = rw (c.drop_many.ensures.stack, c.drop_many.ensures.locals, c.drop_many.ensures.callers) refl in
    done_by _ _ _ _
    (elem_is code c.args.layout.now c.args.own c.args.object c.args.count site track c.args.line
    (state_of c.args.self.now flying) c.in-Some.operands.now c.in-Some.ensures.enough c.in-Some.ensures.operands)
    (subst (λ (o : cells.Outcome). Done (gain_done code site track c.args.line over (made_by o)) c.gives.result c.gives.new.self)
    c.element-outcome.ensures
    (subst (λ (u : State). Done (gain_done code site track c.args.line u (made_by (plain c.element-outcome.result)))
    c.gives.result c.gives.new.self) same (c.gives.ensures.done code site track flying counts)))
