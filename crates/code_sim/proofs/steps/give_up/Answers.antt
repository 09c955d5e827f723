use Rattle.std.proofs.Common.{◌∷◌, sym, ap, ◌∙◌, subst}
use Rattle.sc_base.specs.declared.value.End.TheVariants.{Waiting}
use Rattle.sc_isa.specs.declared.journal.Entry.TheVariants.{Finished}
use Rattle.node_machine.specs.declared.node.Asked.TheVariants as event
use Rattle.fabric.specs.Wired.{WaitingWired}
use Rattle.fabric.specs.State.{State, nodes_of}
use Rattle.code_sim.specs.Asking.{asks_of}
use Rattle.code_sim.proofs.Stepped.{waiting_finish, stands_to_pass, its_place, gave_up}
use Rattle.code_sim.proofs.steps.give_up.Goals as goal

pub finish-requires-clause-wired : goal.finish-requires-clause-wired
finish-requires-clause-wired c =
    subst (λ (f : State). WaitingWired (nodes_of f) f.past c.args.number) (sym c.reserve.ensures.rest)
    (waiting_finish c.args.code.now c.args.layout.now c.requires.sound c.args.runner.now.node.budget c.args.number c.requires.within c.args.fabric.now c.requires.laid
    c.entries-entries.ensures.of_journal c.args.runner.now c.requires.runner c.requires.asks c.requires.stays c.requires.allowed)

pub returns : goal.returns
returns c =
    gave_up c.args.code.now c.args.layout.now c.requires.sound c.args.runner.now.node.budget c.args.number c.requires.within c.args.fabric.now c.requires.laid
    c.entries-entries.ensures.of_journal c.args.runner.now c.requires.runner
    c.finish.new.self c.give_up.new.self c.requires.asks c.requires.stays c.requires.allowed
    (c.finish.ensures.past ∙ ap (λ (f : State). Finished c.args.number Waiting ∷ f.past) c.reserve.ensures.rest)
    (ap (λ (f : State). f.memory.layout) c.finish.ensures.rest ∙ ap (λ (f : State). f.memory.layout) c.reserve.ensures.rest)
    (c.finish.ensures.sites ∙ ap (λ (f : State). f.book.sites) c.reserve.ensures.rest)
    (c.in_ok-give_up.ensures (asks_of c.args.number c.args.fabric.now.past)
    (its_place c.args.code.now c.args.layout.now c.requires.sound c.args.runner.now.node.budget c.args.number c.requires.within c.args.fabric.now c.requires.laid
    c.entries-entries.ensures.of_journal c.args.runner.now c.requires.runner event.Pass c.requires.asks)
    (stands_to_pass c.args.code.now c.args.layout.now c.requires.sound c.args.runner.now.node.budget c.args.number c.requires.within c.args.fabric.now c.requires.laid
    c.entries-entries.ensures.of_journal c.args.runner.now c.requires.runner c.requires.asks))
