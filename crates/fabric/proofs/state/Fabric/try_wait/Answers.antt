use Rattle.std.proofs.Common.{◌≡◌, ◌==◌, ◌∙◌, refl, sym, subst}
use Rattle.std.proofs.lemmas.Bool.{ne_eqb}
use Rattle.fabric.specs.Access.{is_counter}
use Rattle.fabric.specs.Outstanding.{outstanding}
use Rattle.fabric.specs.State.{State, start_of}
use Rattle.fabric.proofs.Landing.{book_counts}
use Rattle.fabric.proofs.state.Fabric.try_wait.Goals as goal

pub returns-then-outstanding-ne0-clause-answer : goal.returns-then-outstanding-ne0-clause-answer
returns-then-outstanding-ne0-clause-answer c =
    let s : State = record { memory = c.self.inside.memory; pool = c.self.inside.pool; book = c.self.inside.book; past = c.self.inside.log.past; spare = c.self.inside.spare } in
    let e : outstanding (start_of s) (λ other. other == c.args.node) (is_counter c.args.counter) s.past ≡ c.outstanding-outstanding.result =
    book_counts s c.self.invariant.of_journal c.args.node c.args.counter (rw (← c.self.view_is) at c.requires.going).running.node_within (rw (← c.self.view_is) at c.requires.counter)
    ∙ sym c.outstanding-outstanding.ensures in
    rw (← c.self.view_is, e, ne_eqb c.outstanding-outstanding.result 0 c.if-outstanding-ne0.true) refl

pub land-requires-clause-none : goal.land-requires-clause-none
land-requires-clause-none c =
    let s : State = record { memory = c.self.inside.memory; pool = c.self.inside.pool; book = c.self.inside.book; past = c.self.inside.log.past; spare = c.self.inside.spare } in
    subst (λ (v : State). outstanding (start_of v) (λ other. other == c.args.node) (is_counter c.args.counter) v.past ≡ 0) c.self.view_is
    (book_counts s c.self.invariant.of_journal c.args.node c.args.counter (rw (← c.self.view_is) at c.requires.going).running.node_within (rw (← c.self.view_is) at c.requires.counter)
    ∙ sym c.outstanding-outstanding.ensures ∙ c.if-outstanding-ne0.false)

pub returns-clause-answer : goal.returns-clause-answer
returns-clause-answer c =
    let s : State = record { memory = c.self.inside.memory; pool = c.self.inside.pool; book = c.self.inside.book; past = c.self.inside.log.past; spare = c.self.inside.spare } in
    let e : outstanding (start_of s) (λ other. other == c.args.node) (is_counter c.args.counter) s.past ≡ 0 =
    book_counts s c.self.invariant.of_journal c.args.node c.args.counter (rw (← c.self.view_is) at c.requires.going).running.node_within (rw (← c.self.view_is) at c.requires.counter)
    ∙ sym c.outstanding-outstanding.ensures ∙ c.if-outstanding-ne0.false in
    rw (← c.self.view_is, e) refl
