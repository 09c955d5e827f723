use Rattle.std.proofs.Common.{◌≡◌, ◌<◌, Bool, ◌∷◌, sym, ap, ◌∙◌, subst, arith}
use Rattle.std.specs.Prelude.{if◌then◌else◌}
use Rattle.sc_isa.specs.declared.journal.Entry.TheVariants.{Passed}
use Rattle.node_machine.specs.declared.node.Asked.TheVariants as event
use Rattle.sync_book.specs.Book.{broken_by, gap_of}
use Rattle.fabric.specs.declared.answers.Passed.TheVariants.{Yes}
use Rattle.fabric.specs.Barriers.{arrivals, passes}
use Rattle.fabric.specs.Causes.{may_pass, not_passed}
use Rattle.fabric.specs.State.{State}
use Rattle.code_sim.specs.Asking.{asks_of}
use Rattle.code_sim.proofs.Stepped.{pass_at, pass_fits, its_place, passed}
use Rattle.code_sim.proofs.steps.pass.Goals as goal

pub try_pass-requires-clause-arrived : goal.try_pass-requires-clause-arrived
try_pass-requires-clause-arrived c =
    subst (λ (f : State). passes c.args.number f.past < arrivals c.args.number f.past) (sym c.reserve.ensures.rest)
    (let at = pass_at c.args.code.now c.args.layout.now c.requires.sound c.args.runner.now.node.budget c.args.number c.requires.within c.args.fabric.now c.requires.laid
    c.entries-entries.ensures.of_journal c.args.runner.now c.requires.runner c.requires.asks in omega (arith, at))

pub returns : goal.returns
returns c =
    let yes : c.try_pass.result ≡ Yes =
    c.try_pass.ensures.answer
    ∙ ap (λ (b : Bool). if b then Yes else not_passed (broken_by c.reserve.new.self.book) (gap_of c.reserve.new.self.book))
    (ap (λ (f : State). may_pass f.book c.args.number) c.reserve.ensures.rest ∙ c.requires.allowed) in
    passed c.args.code.now c.args.layout.now c.requires.sound c.args.runner.now.node.budget c.args.number c.requires.within c.args.fabric.now c.requires.laid
    c.entries-entries.ensures.of_journal c.args.runner.now c.requires.runner
    c.try_pass.new.self c.go_on.new.self c.requires.asks c.requires.allowed
    (c.try_pass.ensures.past yes ∙ ap (λ (f : State). Passed c.args.number ∷ f.past) c.reserve.ensures.rest)
    (ap (λ (f : State). f.memory.layout) (c.try_pass.ensures.rest yes) ∙ ap (λ (f : State). f.memory.layout) c.reserve.ensures.rest)
    (c.try_pass.ensures.sites ∙ ap (λ (f : State). f.book.sites) c.reserve.ensures.rest)
    (c.in_ok-go_on.ensures (asks_of c.args.number c.args.fabric.now.past)
    (its_place c.args.code.now c.args.layout.now c.requires.sound c.args.runner.now.node.budget c.args.number c.requires.within c.args.fabric.now c.requires.laid
    c.entries-entries.ensures.of_journal c.args.runner.now c.requires.runner event.Pass c.requires.asks)
    (pass_fits c.args.code.now c.args.layout.now c.requires.sound c.args.runner.now.node.budget c.args.number c.requires.within c.args.fabric.now c.requires.laid
    c.entries-entries.ensures.of_journal c.args.runner.now c.requires.runner c.requires.asks))
