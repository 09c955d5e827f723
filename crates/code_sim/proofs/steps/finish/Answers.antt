use Rattle.std.proofs.Common.{◌∷◌, sym, ap, ◌∙◌, subst}
use Rattle.sc_isa.specs.declared.journal.Entry.TheVariants.{Finished}
use Rattle.fabric.specs.Wired.{EntryWired}
use Rattle.fabric.specs.State.{State, start_of, nodes_of}
use Rattle.code_sim.proofs.Stepped.{finish_wired, ended}
use Rattle.code_sim.proofs.steps.finish.Goals as goal

pub finish-requires-clause-wired : goal.finish-requires-clause-wired
finish-requires-clause-wired c =
    subst (λ (f : State). EntryWired (start_of f) (nodes_of f) f.past (Finished c.args.number c.args.end)) (sym c.reserve.ensures.rest)
    (finish_wired c.args.code.now c.args.layout.now c.requires.sound c.args.runner.now.node.budget c.args.number c.requires.within c.args.fabric.now c.requires.laid
    c.entries-entries.ensures.of_journal c.args.runner.now c.requires.runner c.args.end c.requires.asks)

pub returns : goal.returns
returns c =
    ended c.args.code.now c.args.layout.now c.requires.sound c.args.runner.now.node.budget c.args.number c.requires.within c.args.fabric.now c.requires.laid
    c.entries-entries.ensures.of_journal c.args.runner.now c.requires.runner
    c.finish.new.self c.args.end c.finish-2.new.self c.requires.asks
    (c.finish.ensures.past ∙ ap (λ (f : State). Finished c.args.number c.args.end ∷ f.past) c.reserve.ensures.rest)
    (ap (λ (f : State). f.memory.layout) c.finish.ensures.rest ∙ ap (λ (f : State). f.memory.layout) c.reserve.ensures.rest)
    (c.finish.ensures.sites ∙ ap (λ (f : State). f.book.sites) c.reserve.ensures.rest)
    c.finish-2.ensures.asks c.finish-2.ensures.node
