use Rattle.std.proofs.Common.{◌≡◌, ◌≤◌, ◌==◌, ◌||◌, Some, rules, sym, ap, ◌∙◌, subst}
use Rattle.std.specs.Prelude.{is_some}
use Rattle.sync_book.specs.Book.{Book, broken_by, outstanding}
use Rattle.node_machine.specs.declared.node.Asked.TheVariants as event
use Rattle.fabric.specs.Causes.{may_pass}
use Rattle.code_sim.specs.UnderWay.{one_if}
use Rattle.code_sim.proofs.Stepped.{counter_there, may_wait, may_leave, may_issue, may_arrive, may_end}
use Rattle.code_sim.proofs.steps.may_step.Goals as goal

pub outstanding-requires-clause-counter : goal.outstanding-requires-clause-counter
outstanding-requires-clause-counter c =
    let e : c.args.runner.now.asks ≡ Some (event.Wait c.in-Some-Wait.counter) = search rules in
    subst (λ (b : Book). c.in-Some-Wait.counter ≤ b.sites) (sym c.book-book.ensures.is)
    (counter_there c.args.code.now c.args.layout.now c.requires.sound c.args.runner.now.node.budget c.args.number c.requires.within c.args.fabric.now c.requires.laid
    c.book-book.ensures.of_journal c.args.runner.now c.requires.runner c.in-Some-Wait.counter e)

pub returns-in-Some-Wait : goal.returns-in-Some-Wait
returns-in-Some-Wait c = λ many s.
    (let e : c.args.runner.now.asks ≡ Some (event.Wait c.in-Some-Wait.counter) = search rules in
    may_wait c.args.code.now c.args.layout.now c.requires.sound c.args.runner.now.node.budget c.args.number c.requires.within c.args.fabric.now c.requires.laid
    c.book-book.ensures.of_journal c.args.runner.now c.requires.runner many s c.in-Some-Wait.counter e
    ∙ sym (ap (λ n. one_if (n == 0)) (c.outstanding.ensures ∙ ap (λ (b : Book). outstanding b c.args.number c.in-Some-Wait.counter) c.book-book.ensures.is)))

pub returns-in-Some-Pass : goal.returns-in-Some-Pass
returns-in-Some-Pass c = λ many s.
    (let e : c.args.runner.now.asks ≡ Some event.Pass = search rules in
    may_leave c.args.code.now c.args.layout.now c.requires.sound c.args.runner.now.node.budget c.args.number c.requires.within c.args.fabric.now c.requires.laid
    c.book-book.ensures.of_journal c.args.runner.now c.requires.runner many s e
    ∙ sym (ap one_if (c.leaves.ensures ∙ ap (λ (b : Book). may_pass b c.args.number || is_some (broken_by b)) c.book-book.ensures.is)))

pub returns-in-Some-Issue : goal.returns-in-Some-Issue
returns-in-Some-Issue c = λ many s.
    (let e : c.args.runner.now.asks ≡ Some (event.Issue c.in-Some-Issue.field-0-0) = search rules in
    may_issue c.args.code.now c.args.layout.now c.requires.sound c.args.runner.now.node.budget c.args.number c.requires.within c.args.fabric.now c.requires.laid
    c.book-book.ensures.of_journal c.args.runner.now c.requires.runner many s c.in-Some-Issue.field-0-0 e)

pub returns-in-Some-Arrive : goal.returns-in-Some-Arrive
returns-in-Some-Arrive c = λ many s.
    (let e : c.args.runner.now.asks ≡ Some (event.Arrive c.in-Some-Arrive.field-0-0) = search rules in
    may_arrive c.args.code.now c.args.layout.now c.requires.sound c.args.runner.now.node.budget c.args.number c.requires.within c.args.fabric.now c.requires.laid
    c.book-book.ensures.of_journal c.args.runner.now c.requires.runner many s c.in-Some-Arrive.field-0-0 e)

pub returns-in-Some-Finish : goal.returns-in-Some-Finish
returns-in-Some-Finish c = λ many s.
    (let e : c.args.runner.now.asks ≡ Some (event.Finish c.in-Some-Finish.field-0-0) = search rules in
    may_end c.args.code.now c.args.layout.now c.requires.sound c.args.runner.now.node.budget c.args.number c.requires.within c.args.fabric.now c.requires.laid
    c.book-book.ensures.of_journal c.args.runner.now c.requires.runner many s c.in-Some-Finish.field-0-0 e)
