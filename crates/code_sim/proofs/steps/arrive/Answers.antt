use Rattle.std.proofs.Common.{◌∷◌, sym, ap, ◌∙◌, subst}
use Rattle.sc_isa.specs.declared.journal.Entry.TheVariants.{Arrived}
use Rattle.node_machine.specs.declared.node.Asked.TheVariants as event
use Rattle.fabric.specs.Wired.{Going}
use Rattle.fabric.specs.State.{State, nodes_of}
use Rattle.code_sim.specs.Asking.{asks_of}
use Rattle.code_sim.proofs.Stepped.{arrive_going, arrive_fits, its_place, arrived}
use Rattle.code_sim.proofs.steps.arrive.Goals as goal

pub arrive-requires-clause-going : goal.arrive-requires-clause-going
arrive-requires-clause-going c =
    subst (λ (f : State). Going (nodes_of f) f.past c.args.number) (sym c.reserve.ensures.rest)
    (arrive_going c.args.code.now c.args.layout.now c.requires.sound c.args.runner.now.node.budget c.args.number c.requires.within c.args.fabric.now c.requires.laid
    c.entries-entries.ensures.of_journal c.args.runner.now c.requires.runner c.args.stores c.requires.asks)

pub returns : goal.returns
returns c =
    arrived c.args.code.now c.args.layout.now c.requires.sound c.args.runner.now.node.budget c.args.number c.requires.within c.args.fabric.now c.requires.laid
    c.entries-entries.ensures.of_journal c.args.runner.now c.requires.runner
    c.arrive.new.self c.args.stores c.go_on.new.self c.requires.asks
    (c.arrive.ensures.past ∙ ap (λ (f : State). Arrived c.args.number c.args.stores ∷ f.past) c.reserve.ensures.rest)
    (ap (λ (f : State). f.memory.layout) c.arrive.ensures.rest ∙ ap (λ (f : State). f.memory.layout) c.reserve.ensures.rest)
    (c.arrive.ensures.sites ∙ ap (λ (f : State). f.book.sites) c.reserve.ensures.rest)
    (c.in_ok-go_on.ensures (asks_of c.args.number c.args.fabric.now.past)
    (its_place c.args.code.now c.args.layout.now c.requires.sound c.args.runner.now.node.budget c.args.number c.requires.within c.args.fabric.now c.requires.laid
    c.entries-entries.ensures.of_journal c.args.runner.now c.requires.runner (event.Arrive c.args.stores) c.requires.asks)
    (arrive_fits c.args.code.now c.args.layout.now c.requires.sound c.args.runner.now.node.budget c.args.number c.requires.within c.args.fabric.now c.requires.laid
    c.entries-entries.ensures.of_journal c.args.runner.now c.requires.runner c.args.stores c.requires.asks))
