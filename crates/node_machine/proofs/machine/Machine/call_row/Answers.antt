use Rattle.std.proofs.Common.{◌≡◌, suc, ◌-◌, ◌+◌, ◌<◌, ◌≤◌, ◌∙◌, sym, refl, arith, length}
use Rattle.sc_base.specs.declared.limits.TheConstants.{LIMITS}
use Rattle.node_machine.specs.View.{state_of}
use Rattle.node_machine.proofs.Doing.{done_by}
use Rattle.node_machine.proofs.Calling.{call_few, call_landing, call_cut, call_deep, call_goes, locals_are}
use Rattle.node_machine.proofs.machine.Machine.call_row.Goals as goal

pub returns-in_default-clause-done : goal.returns-in_default-clause-done
returns-in_default-clause-done c = λ site track flying counts.
    done_by _ _ _ _
    (call_few c.args.code.now c.args.layout.now c.args.own c.args.function c.args.row site track c.args.line
    (state_of c.args.self.now flying) c.requires.row c.in_default.ensures.few) tt

pub returns-then-not-are_values-clause-done : goal.returns-then-not-are_values-clause-done
returns-then-not-are_values-clause-done c = λ site track flying counts.
    done_by _ _ _ _
    (call_landing c.args.code.now c.args.layout.now c.args.own c.args.function c.args.row site track c.args.line
    (state_of c.args.self.now flying) c.requires.row c.in-Some.operands.now c.in-Some.ensures.enough c.in-Some.ensures.operands
    (sym c.are_values.ensures ∙ c.if-not-are_values.true)) tt

pub returns-then-self-eq0-clause-done : goal.returns-then-self-eq0-clause-done
returns-then-self-eq0-clause-done c = λ site track flying counts.
    done_by _ _ _ _
    (call_cut c.args.code.now c.args.layout.now c.args.own c.args.function c.args.row site track c.args.line
    (state_of c.args.self.now flying) c.requires.row c.in-Some.operands.now c.in-Some.ensures.enough c.in-Some.ensures.operands
    (sym c.are_values.ensures ∙ c.if-not-are_values.false) c.if-self-eq0.true) refl

pub returns-then-depth-clause-done : goal.returns-then-depth-clause-done
returns-then-depth-clause-done c = λ site track flying counts.
    let deep : LIMITS.frames ≤ length c.args.self.now.frames.callers + 1 = omega (arith, c.depth.ensures, c.if-depth.true) in
    let some : c.args.self.now.left ≡ suc (c.args.self.now.left - 1) = omega arith in
    done_by _ _ _ _
    (call_deep c.args.code.now c.args.layout.now c.args.own c.args.function c.args.row site track c.args.line
    (state_of c.args.self.now flying) c.requires.row c.in-Some.operands.now c.in-Some.ensures.enough c.in-Some.ensures.operands
    (sym c.are_values.ensures ∙ c.if-not-are_values.false) (c.args.self.now.left - 1) some deep)
    (rw c.fails.ensures refl)

pub returns-clause-done : goal.returns-clause-done
returns-clause-done c = λ site track flying counts.
    let few : length c.args.self.now.frames.callers + 1 < LIMITS.frames = omega (arith, c.depth.ensures, c.if-depth.false) in
    let some : c.args.self.now.left ≡ suc (c.args.self.now.left - 1) = omega arith in
    let all = sym c.are_values.ensures ∙ c.if-not-are_values.false in
    done_by _ _ _ _
    (call_goes c.args.code.now c.args.layout.now c.args.own c.args.function c.args.row site track c.args.line
    (state_of c.args.self.now flying) c.requires.row c.in-Some.operands.now c.in-Some.ensures.enough c.in-Some.ensures.operands
    all (c.args.self.now.left - 1) some few)
    (record {
      state = rw (
        c.enter.ensures.stack,
        c.enter.ensures.locals,
        c.enter.ensures.callers,
        locals_are c.args.code.now c.args.layout.now c.args.own c.args.function c.args.row site track c.args.line
            (state_of c.args.self.now flying) c.requires.row c.in-Some.operands.now c.in-Some.ensures.enough
            c.in-Some.ensures.operands all,
      ) refl;
      counts = counts;
    })
