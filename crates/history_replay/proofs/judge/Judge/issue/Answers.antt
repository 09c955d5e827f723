use Rattle.std.proofs.Common.{refl, sym, ◌∙◌, subst, None, Some}
use Rattle.sc_meaning.specs.Parts.{is_issued}
use Rattle.history_replay.specs.Reached.{NextAt}
use Rattle.history_replay.proofs.Taking.{turned_down, none_comes, fails_it, issues}
use Rattle.history_replay.proofs.judge.Judge.issue.Goals as goal

pub returns-in_default-clause-taken : goal.returns-in_default-clause-taken
returns-in_default-clause-taken c = λ processes past reached.
    let n : NextAt processes past c.args.node c.args.number c.next_request.new.self None =
    subst (NextAt processes past c.args.node c.args.number c.next_request.new.self) c.in_default.is (c.in_ok-request.ensures.next processes past reached) in
    turned_down processes past _ c.next_request.new.self _ n.reached (none_comes is_issued _ n.next)

pub returns-then-not-is_issued-clause-taken : goal.returns-then-not-is_issued-clause-taken
returns-then-not-is_issued-clause-taken c = λ processes past reached.
    let n : NextAt processes past c.args.node c.args.number c.next_request.new.self (Some c.in-Some.request) =
    subst (NextAt processes past c.args.node c.args.number c.next_request.new.self) c.in-Some.is (c.in_ok-request.ensures.next processes past reached) in
    turned_down processes past _ c.next_request.new.self _ n.reached
    (fails_it is_issued c.in-Some.request _ n.next (sym c.is_issued.ensures ∙ c.if-not-is_issued.true))

pub returns-clause-taken : goal.returns-clause-taken
returns-clause-taken c = λ processes past reached.
    let n : NextAt processes past c.args.node c.args.number c.next_request.new.self (Some c.in-Some.request) =
    subst (NextAt processes past c.args.node c.args.number c.next_request.new.self) c.in-Some.is (c.in_ok-request.ensures.next processes past reached) in
    issues processes past c.next_request.new.self _ c.args.node c.args.number c.in-Some.request n
    (sym c.is_issued.ensures ∙ c.if-not-is_issued.false)
    (record { as_tables = c.in_ok-make.ensures; as_cells = refl; as_layout = refl; as_many = c.in_ok-pass.ensures.many })
    c.in_ok-pass.ensures.goes
