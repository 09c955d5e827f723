use Rattle.std.proofs.Common.{◌∷◌, sym, ap, ◌∙◌, subst}
use Rattle.sc_isa.specs.declared.journal.Entry.TheVariants.{Issued}
use Rattle.node_machine.specs.declared.node.Asked.TheVariants as event
use Rattle.fabric.specs.Effects.{issues}
use Rattle.fabric.specs.Wired.{Going}
use Rattle.fabric.specs.State.{State, nodes_of, IsAccess}
use Rattle.code_sim.specs.Asking.{asks_of}
use Rattle.code_sim.proofs.Placing.{few_cells_of}
use Rattle.code_sim.proofs.Stepped.{issue_access, issue_going, issue_there, issue_fits, its_place, issued}
use Rattle.code_sim.proofs.steps.issue.Goals as goal

pub need-requires : goal.need-requires
need-requires c =
    few_cells_of c.args.layout.now c.args.access
    (issue_access c.args.code.now c.args.layout.now c.requires.sound c.args.runner.now.node.budget c.args.number c.requires.within c.args.fabric.now c.requires.laid
    c.entries-entries.ensures.of_journal c.args.runner.now c.requires.runner c.count-count.ensures.lawful c.args.access c.requires.asks).placed

pub issue-requires-clause-going : goal.issue-requires-clause-going
issue-requires-clause-going c =
    subst (λ (f : State). Going (nodes_of f) f.past c.args.number) (sym c.reserve.ensures.rest)
    (issue_going c.args.code.now c.args.layout.now c.requires.sound c.args.runner.now.node.budget c.args.number c.requires.within c.args.fabric.now c.requires.laid
    c.entries-entries.ensures.of_journal c.args.runner.now c.requires.runner c.args.access c.requires.asks)

pub issue-requires-clause-access : goal.issue-requires-clause-access
issue-requires-clause-access c =
    subst (λ (f : State). IsAccess f.memory.layout f.book.sites c.args.access) (sym c.reserve.ensures.rest)
    (issue_there c.args.code.now c.args.layout.now c.requires.sound c.args.runner.now.node.budget c.args.number c.requires.within c.args.fabric.now c.requires.laid
    c.entries-entries.ensures.of_journal c.args.runner.now c.requires.runner c.count-count.ensures.lawful c.args.access c.requires.asks)

pub returns : goal.returns
returns c =
    issued c.args.code.now c.args.layout.now c.requires.sound c.args.runner.now.node.budget c.args.number c.requires.within c.args.fabric.now c.requires.laid
    c.entries-entries.ensures.of_journal c.args.runner.now c.requires.runner
    c.issue.new.self c.issue.result.number c.args.access c.go_on.new.self c.requires.asks
    (c.issue.ensures.number ∙ ap (λ (f : State). issues c.args.number f.past) c.reserve.ensures.rest)
    c.count-count.ensures.lawful
    (c.issue.ensures.past ∙ ap (λ (f : State). Issued c.args.number c.issue.result.number c.args.access ∷ f.past) c.reserve.ensures.rest)
    (c.issue.ensures.layout ∙ ap (λ (f : State). f.memory.layout) c.reserve.ensures.rest)
    (c.issue.ensures.sites ∙ ap (λ (f : State). f.book.sites) c.reserve.ensures.rest)
    (c.in_ok-go_on.ensures (asks_of c.args.number c.args.fabric.now.past)
    (its_place c.args.code.now c.args.layout.now c.requires.sound c.args.runner.now.node.budget c.args.number c.requires.within c.args.fabric.now c.requires.laid
    c.entries-entries.ensures.of_journal c.args.runner.now c.requires.runner (event.Issue c.args.access) c.requires.asks)
    (issue_fits c.args.code.now c.args.layout.now c.requires.sound c.args.runner.now.node.budget c.args.number c.requires.within c.args.fabric.now c.requires.laid
    c.entries-entries.ensures.of_journal c.args.runner.now c.requires.runner c.args.access c.requires.asks))
