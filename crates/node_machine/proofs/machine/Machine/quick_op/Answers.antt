use Rattle.std.proofs.Common.{◌+◌, sym, ap, subst, ◌∙◌}
use Rattle.sc_base.specs.declared.value.Value.{Value}
use Rattle.sc_isa.specs.declared.operand.Operand.TheVariants.{Here}
use Rattle.sc_isa.specs.State.{pushed, at_instr}
use Rattle.sc_isa.specs.Moves.{GoesOn, Comes}
use Rattle.sc_isa.specs.Table.{does_op}
use Rattle.node_values.specs.Plain.{pushed_of}
use Rattle.node_machine.proofs.Doing.{done_by}
use Rattle.sc_isa.specs.declared.op.Op.{Op}
use Rattle.node_machine.specs.View.{DoesQuickly, state_of}
use Rattle.node_machine.proofs.machine.Machine.quick_op.Goals as goal

pub returns-in-Push-clause-done : goal.returns-in-Push-clause-done
returns-in-Push-clause-done c = (
  λ done code layout own line flying counts.
      let s = at_instr (c.args.self.now.at + 1) (state_of c.args.self.now flying) in
      done_by _ _ _ _
      (ap (λ (o : Op). does_op code layout own o line s) c.in-Push.is
      ∙ ap (λ (v : Value). Comes (GoesOn (pushed (Here v) s))) (sym (c.pushed.ensures ∙ ap pushed_of c.in-Push.is)))
      (c.quick_push.ensures.done done flying counts),
  c.quick_push.ensures.kept,
)

pub returns-in-Load-clause-done : goal.returns-in-Load-clause-done
returns-in-Load-clause-done c =
    subst (λ (o : Op). DoesQuickly c.args.self.now c.quick_load.result c.quick_load.new.self o) (sym c.in-Load.is) c.quick_load.ensures.done

pub returns-in-Drop-clause-done : goal.returns-in-Drop-clause-done
returns-in-Drop-clause-done c =
    subst (λ (o : Op). DoesQuickly c.args.self.now c.quick_drop.result c.quick_drop.new.self o) (sym c.in-Drop.is) c.quick_drop.ensures.done

pub returns-in-Jump-clause-done : goal.returns-in-Jump-clause-done
returns-in-Jump-clause-done c =
    subst (λ (o : Op). DoesQuickly c.args.self.now c.quick_jump.result c.quick_jump.new.self o) (sym c.in-Jump.is) c.quick_jump.ensures.done

pub returns-in-Zero-clause-done : goal.returns-in-Zero-clause-done
returns-in-Zero-clause-done c =
    subst (λ (o : Op). DoesQuickly c.args.self.now c.quick_zero.result c.quick_zero.new.self o) (sym c.in-Zero.is) c.quick_zero.ensures.done

pub returns-in-Turn-clause-done : goal.returns-in-Turn-clause-done
returns-in-Turn-clause-done c =
    subst (λ (o : Op). DoesQuickly c.args.self.now c.quick_turn.result c.quick_turn.new.self o) (sym c.in-Turn.is) c.quick_turn.ensures.done
