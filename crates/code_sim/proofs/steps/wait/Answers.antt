use Rattle.std.proofs.Common.{◌≡◌, ◌≤◌, ◌==◌, ◌∷◌, sym, ap, ◌∙◌, subst}
use Rattle.sc_layout.specs.Layout.{Arrangement}
use Rattle.sc_layout.specs.Start.{start}
use Rattle.sc_isa.specs.declared.journal.Entry.TheVariants.{Waited}
use Rattle.node_machine.specs.declared.node.Asked.TheVariants as event
use Rattle.fabric.specs.declared.answers.Waited.TheVariants.{Landed as LandedIt}
use Rattle.fabric.specs.Access.{is_counter}
use Rattle.fabric.specs.Causes.{waited_of}
use Rattle.fabric.specs.Effects.{landed}
use Rattle.fabric.specs.Outstanding.{outstanding}
use Rattle.fabric.specs.Wired.{Going}
use Rattle.fabric.specs.State.{State, start_of, nodes_of}
use Rattle.code_sim.specs.Asking.{asks_of}
use Rattle.code_sim.proofs.Stepped.{wait_going, counter_there, none_there, none_outstanding, wait_fits, its_place, waited}
use Rattle.code_sim.proofs.steps.wait.Goals as goal

pub try_wait-requires-clause-going : goal.try_wait-requires-clause-going
try_wait-requires-clause-going c =
    subst (λ (f : State). Going (nodes_of f) f.past c.args.number) (sym c.reserve-2.ensures.rest)
    (wait_going c.args.code.now c.args.layout.now c.requires.sound c.args.runner.now.node.budget c.args.number c.requires.within c.args.fabric.now c.requires.laid
    c.entries-entries.ensures.of_journal c.args.runner.now c.requires.runner c.args.counter c.requires.asks)

pub try_wait-requires-clause-counter : goal.try_wait-requires-clause-counter
try_wait-requires-clause-counter c =
    subst (λ (f : State). c.args.counter ≤ f.book.sites) (sym c.reserve-2.ensures.rest)
    (counter_there c.args.code.now c.args.layout.now c.requires.sound c.args.runner.now.node.budget c.args.number c.requires.within c.args.fabric.now c.requires.laid
    c.entries-entries.ensures.of_journal c.args.runner.now c.requires.runner c.args.counter c.requires.asks)

pub returns : goal.returns
returns c =
    let none =
    none_there c.args.code.now c.args.layout.now c.requires.sound c.args.runner.now.node.budget c.args.number c.requires.within c.args.fabric.now c.requires.laid
    c.entries-entries.ensures.of_journal c.args.runner.now c.requires.runner c.args.counter c.requires.asks c.requires.allowed in
    let over : c.try_wait.result ≡ LandedIt =
    c.try_wait.ensures.answer
    ∙ ap waited_of (subst (λ (f : State). outstanding (start_of f) (λ other. other == c.args.number) (is_counter c.args.counter) f.past ≡ 0) (sym c.reserve-2.ensures.rest) none) in
    let values = c.try_wait.ensures.values over
    ∙ ap (λ (f : State). landed (start_of f) c.args.number c.args.counter f.past) c.reserve-2.ensures.rest
    ∙ ap (λ (l : Arrangement). landed (start l) c.args.number c.args.counter c.args.fabric.now.past) c.requires.laid.layout_is in
    waited c.args.code.now c.args.layout.now c.requires.sound c.args.runner.now.node.budget c.args.number c.requires.within c.args.fabric.now c.requires.laid
    c.entries-entries.ensures.of_journal c.args.runner.now c.requires.runner
    c.try_wait.new.self c.args.counter c.try_wait.new.into c.go_on.new.self c.requires.asks
    (none_outstanding c.args.code.now c.args.layout.now c.requires.sound c.args.runner.now.node.budget c.args.number c.requires.within c.args.fabric.now c.requires.laid
    c.entries-entries.ensures.of_journal c.args.runner.now c.requires.runner c.args.counter c.requires.asks c.requires.allowed)
    values
    (c.try_wait.ensures.past over ∙ ap (λ (f : State). Waited c.args.number c.args.counter ∷ f.past) c.reserve-2.ensures.rest)
    (ap (λ (f : State). f.memory.layout) (c.try_wait.ensures.rest over) ∙ ap (λ (f : State). f.memory.layout) c.reserve-2.ensures.rest)
    (ap (λ (f : State). f.book.sites) (c.try_wait.ensures.rest over) ∙ ap (λ (f : State). f.book.sites) c.reserve-2.ensures.rest)
    (c.in_ok-go_on.ensures (asks_of c.args.number c.args.fabric.now.past)
    (its_place c.args.code.now c.args.layout.now c.requires.sound c.args.runner.now.node.budget c.args.number c.requires.within c.args.fabric.now c.requires.laid
    c.entries-entries.ensures.of_journal c.args.runner.now c.requires.runner (event.Wait c.args.counter) c.requires.asks)
    (wait_fits c.args.code.now c.args.layout.now c.requires.sound c.args.runner.now.node.budget c.args.number c.requires.within c.args.fabric.now c.requires.laid
    c.entries-entries.ensures.of_journal c.args.runner.now c.requires.runner c.args.counter c.requires.asks
    (none_outstanding c.args.code.now c.args.layout.now c.requires.sound c.args.runner.now.node.budget c.args.number c.requires.within c.args.fabric.now c.requires.laid
    c.entries-entries.ensures.of_journal c.args.runner.now c.requires.runner c.args.counter c.requires.asks c.requires.allowed)
    c.try_wait.new.into values))
