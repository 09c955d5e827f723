use Rattle.std.proofs.Common.{◌≡◌, ◌∷◌, List, ◌∙◌, sym, refl, ap}
use Rattle.sc_isa.specs.State.{Frame}
use Rattle.sc_isa.specs.declared.operand.Operand.TheVariants.{Here}
use Rattle.sc_isa.specs.Moves as table
use Rattle.sc_isa.specs.Table.{returned}
use Rattle.node_machine.specs.View.{state_of}
use Rattle.node_machine.proofs.Doing.{done_by}
use Rattle.node_machine.proofs.Calling.{left_pending, left_on}
use Rattle.node_machine.proofs.machine.Machine.ret.Goals as goal

pub returns-then-has_pending-clause-done : goal.returns-then-has_pending-clause-done
returns-then-has_pending-clause-done c = λ flying counts.
    let top : c.args.self.now.frames.stack ≡ Here c.in-Some-Here.value ∷ c.pop.new.self.stack =
    rw c.in-Some-Here.field-0-is at c.in-Some-Here.ensures.stack in
    done_by _ _ _ _
    (left_pending c.args.line (state_of c.args.self.now flying) c.in-Some-Here.value c.pop.new.self.stack c.locals.result.now
    top (c.locals.ensures ∙ c.in-Some-Here.ensures.locals) (sym c.has_pending.ensures ∙ c.if-has_pending.true))
    (rw c.fails.ensures refl)

pub returns-clause-done : goal.returns-clause-done
returns-clause-done c = λ flying counts.
    let top : c.args.self.now.frames.stack ≡ Here c.in-Some-Here.value ∷ c.pop.new.self.stack =
    rw c.in-Some-Here.field-0-is at c.in-Some-Here.ensures.stack in
    done_by _ _ _ _
    (left_on c.args.line (state_of c.args.self.now flying) c.in-Some-Here.value c.pop.new.self.stack c.locals.result.now
    top (c.locals.ensures ∙ c.in-Some-Here.ensures.locals) (sym c.has_pending.ensures ∙ c.if-has_pending.false)
    ∙ ap (λ (cs : List Frame). table.Comes (returned c.in-Some-Here.value (state_of c.args.self.now flying) cs))
    (sym c.in-Some-Here.ensures.callers))
    (c.leave_with.ensures.done flying counts)
