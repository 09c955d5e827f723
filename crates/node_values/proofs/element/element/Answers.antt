use Rattle.std.proofs.Common.{◌<◌, length, arith, sym, ap, ◌∙◌}
use Rattle.sc_isa.specs.Elements.{within, outside, amiss, pointer_to}
use Rattle.node_values.proofs.Exactly.{element_as}
use Rattle.node_values.proofs.element.element.Goals as goal

pub returns-in-Some : goal.returns-in-Some
returns-in-Some c =
    let lt : c.args.object < length c.args.layout.now.objects = omega (arith, c.count.ensures.count) in
    ap pointer_to c.in-Some.ensures
    ∙ sym (element_as c.args.layout.now c.args.object c.args.operands.now (within c.in-Within.flat) c.count.ensures.lawful
    (omega arith) lt (sym c.are_ints.ensures ∙ c.if-not-are_ints.false) c.in-Within.ensures)

pub returns-in-None : goal.returns-in-None
returns-in-None c =
    let lt : c.args.object < length c.args.layout.now.objects = omega (arith, c.count.ensures.count) in
    ap pointer_to c.in-None.ensures
    ∙ sym (element_as c.args.layout.now c.args.object c.args.operands.now (within c.in-Within.flat) c.count.ensures.lawful
    (omega arith) lt (sym c.are_ints.ensures ∙ c.if-not-are_ints.false) c.in-Within.ensures)

pub returns-in-Outside : goal.returns-in-Outside
returns-in-Outside c =
    let lt : c.args.object < length c.args.layout.now.objects = omega (arith, c.count.ensures.count) in
    sym (element_as c.args.layout.now c.args.object c.args.operands.now outside c.count.ensures.lawful
    (omega arith) lt (sym c.are_ints.ensures ∙ c.if-not-are_ints.false) c.in-Outside.ensures)

pub returns-in-Amiss : goal.returns-in-Amiss
returns-in-Amiss c =
    let lt : c.args.object < length c.args.layout.now.objects = omega (arith, c.count.ensures.count) in
    sym (element_as c.args.layout.now c.args.object c.args.operands.now amiss c.count.ensures.lawful
    (omega arith) lt (sym c.are_ints.ensures ∙ c.if-not-are_ints.false) c.in-Amiss.ensures)
