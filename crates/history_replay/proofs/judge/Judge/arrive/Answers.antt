use Rattle.std.proofs.Common.{refl, sym, ◌∙◌, subst, None, Some}
use Rattle.sc_meaning.specs.Test.{is_barrier}
use Rattle.history_replay.specs.Reached.{NextAt}
use Rattle.history_replay.proofs.Taking.{turned_down, none_comes, fails_it, arrives}
use Rattle.history_replay.proofs.judge.Judge.arrive.Goals as goal

pub returns-in_default-clause-taken : goal.returns-in_default-clause-taken
returns-in_default-clause-taken c = λ processes past reached.
    let n : NextAt processes past c.args.node c.args.number c.next_request.new.self None =
    subst (NextAt processes past c.args.node c.args.number c.next_request.new.self) c.in_default.is (c.in_ok-request.ensures.next processes past reached) in
    turned_down processes past _ c.next_request.new.self _ n.reached (none_comes (is_barrier c.args.stores) _ n.next)

pub returns-then-not-is_barrier-clause-taken : goal.returns-then-not-is_barrier-clause-taken
returns-then-not-is_barrier-clause-taken c = λ processes past reached.
    let n : NextAt processes past c.args.node c.args.number c.next_request.new.self (Some c.in-Some.request) =
    subst (NextAt processes past c.args.node c.args.number c.next_request.new.self) c.in-Some.is (c.in_ok-request.ensures.next processes past reached) in
    turned_down processes past _ c.next_request.new.self _ n.reached
    (fails_it (is_barrier c.args.stores) c.in-Some.request _ n.next (sym c.is_barrier.ensures ∙ c.if-not-is_barrier.true))

pub returns-clause-taken : goal.returns-clause-taken
returns-clause-taken c = λ processes past reached.
    let n : NextAt processes past c.args.node c.args.number c.next_request.new.self (Some c.in-Some.request) =
    subst (NextAt processes past c.args.node c.args.number c.next_request.new.self) c.in-Some.is (c.in_ok-request.ensures.next processes past reached) in
    arrives processes past c.next_request.new.self _ c.args.node c.args.number c.in-Some.request n c.args.stores
    (sym c.is_barrier.ensures ∙ c.if-not-is_barrier.false)
    (record { as_tables = c.in_ok-arrive.ensures; as_cells = refl; as_layout = refl; as_many = refl }) refl
