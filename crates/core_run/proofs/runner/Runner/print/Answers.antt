use Rattle.std.proofs.Common.{map, reverse, take, refl, sym, ap, ◌∙◌}
use Rattle.std.proofs.lemmas.Result.{on_ok_weaker}
use Rattle.sc_isa.specs.Deeds.{prints}
use Rattle.sc_isa.specs.Printing.{formatted}
use Rattle.sc_core.specs.declared.operation.Action.TheVariants.{Print}
use Rattle.sc_core.specs.Table.{done_of}
use Rattle.node_values.specs.Operands.{int_in}
use Rattle.core_machine.specs.Moves.{at_work}
use Rattle.core_run.specs.Views.{all_of}
use Rattle.core_run.proofs.Enacting.{prints_nothing, prints_wrong, prints_so, prints_on, sticks_on, no_text, some_text}
use Rattle.core_run.proofs.runner.Runner.print.Goals as goal

pub returns-in_default : goal.returns-in_default
returns-in_default c = λ limit line.
    let old = c.args.self.now in
    let texts = old.program.now.texts in
    on_ok_weaker c.halt.result (sticks_on old c.halt.new.self (Print c.args.text limit) c.args.count line c.requires
    (prints_nothing old.layout.now texts c.args.text limit (reverse (take c.args.count old.values))
    (no_text texts c.as_slice.result.now c.args.text c.as_slice.ensures c.in_default.ensures.lookup.0))) c.halt.ensures.stands

pub returns-then-not-are_ints : goal.returns-then-not-are_ints
returns-then-not-are_ints c = λ limit line.
    let old = c.args.self.now in
    let texts = old.program.now.texts in
    let os = c.last-operands.result.now in
    on_ok_weaker c.halt-then-not-are_ints.result
    (sticks_on old c.halt-then-not-are_ints.new.self (Print c.args.text limit) c.args.count line c.requires
    (ap (done_of old.layout.now texts (Print c.args.text limit)) (sym c.last-operands.ensures.values)
    ∙ prints_wrong old.layout.now texts c.args.text limit c.in-Some.format.now os
    (some_text texts c.as_slice.result.now c.args.text c.in-Some.format.now c.as_slice.ensures c.in-Some.ensures.lookup.0 c.in-Some.ensures.lookup.1)
    (sym c.are_ints.ensures ∙ c.if-not-are_ints.true) c.last-operands.ensures.here)) c.halt-then-not-are_ints.ensures.stands

pub returns : goal.returns
returns c = λ limit line.
    let old = c.args.self.now in
    let texts = old.program.now.texts in
    let os = c.last-operands.result.now in
    prints_on old (record old { values = c.drop_last.new.self; printed = c.print_operands.new.text }) limit line c.args.text c.args.count
    (formatted c.as_slice-2.result.now (map int_in os)) c.requires
    (ap (done_of old.layout.now texts (Print c.args.text limit)) (sym c.last-operands.ensures.values)
    ∙ prints_so old.layout.now texts c.args.text limit c.in-Some.format.now os
    (some_text texts c.as_slice.result.now c.args.text c.in-Some.format.now c.as_slice.ensures c.in-Some.ensures.lookup.0 c.in-Some.ensures.lookup.1)
    (sym c.are_ints.ensures ∙ c.if-not-are_ints.false)
    ∙ ap (λ f. prints (formatted f (map int_in os))) (sym c.as_slice-2.ensures))
    (ap (λ vs. at_work (all_of old.tasks) vs old.memory old.left) c.drop_last.ensures) refl c.in_ok-print_operands.ensures.text
