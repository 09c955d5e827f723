use Rattle.std.proofs.Common.{◌∙◌, sym, refl, ◌+◌}
use Rattle.node_machine.specs.View.{state_of}
use Rattle.sc_isa.specs.State.{at_instr}
use Rattle.node_machine.proofs.Doing.{steps_by}
use Rattle.node_machine.proofs.Texts.{print_few, print_wrong, print_says}
use Rattle.node_machine.proofs.machine.Machine.print.Goals as goal

pub returns-in_default-topmost-clause-done : goal.returns-in_default-topmost-clause-done
returns-in_default-topmost-clause-done c = λ line flying counts.
    steps_by _ _ _ _ _ _
    (print_few c.args.code.now c.args.layout.now c.args.own c.args.text c.args.count line
    (at_instr (c.args.self.now.at + 1) (state_of c.args.self.now flying)) c.in-Some.format.now c.in-Some.ensures.some c.in_default-topmost.ensures.few)
    (tt, refl)

pub returns-then-not-are_ints-clause-done : goal.returns-then-not-are_ints-clause-done
returns-then-not-are_ints-clause-done c = λ line flying counts.
    steps_by _ _ _ _ _ _
    (print_wrong c.args.code.now c.args.layout.now c.args.own c.args.text c.args.count line
    (at_instr (c.args.self.now.at + 1) (state_of c.args.self.now flying)) c.in-Some.format.now c.in-Some.ensures.some c.in-Some-topmost.operands.now
    c.in-Some-topmost.ensures.enough c.in-Some-topmost.ensures.operands (sym c.are_ints.ensures ∙ c.if-not-are_ints.true))
    (tt, refl)

pub returns-clause-done : goal.returns-clause-done
returns-clause-done c = λ line flying counts.
    steps_by _ _ _ _ _ _
    (print_says c.args.code.now c.args.layout.now c.args.own c.args.text c.args.count line
    (at_instr (c.args.self.now.at + 1) (state_of c.args.self.now flying)) c.in-Some.format.now c.in-Some.ensures.some c.in-Some-topmost.operands.now
    c.in-Some-topmost.ensures.enough c.in-Some-topmost.ensures.operands (sym c.are_ints.ensures ∙ c.if-not-are_ints.false)) (
      record {
        state = rw (c.drop_many.ensures.stack, c.drop_many.ensures.locals, c.drop_many.ensures.callers) refl;
        counts = counts;
      },
      c.in-Ok.ensures.text,
    )
