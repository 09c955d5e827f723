use Rattle.std.proofs.Common.{refl, sym, ◌∙◌, subst, None, Some}
use Rattle.sc_meaning.specs.Test.{is_write_of}
use Rattle.history_replay.specs.Reached.{NextAt}
use Rattle.history_replay.proofs.Taking.{turned_down, none_comes, fails_it, writes}
use Rattle.history_replay.proofs.judge.Judge.write.Goals as goal

pub returns-in_default-clause-taken : goal.returns-in_default-clause-taken
returns-in_default-clause-taken c = λ processes past reached.
    let n : NextAt processes past c.args.node c.args.number c.next_request.new.self None =
    subst (NextAt processes past c.args.node c.args.number c.next_request.new.self) c.in_default.is (c.in_ok-request.ensures.next processes past reached) in
    turned_down processes past _ c.next_request.new.self _ n.reached (none_comes (is_write_of c.args.place c.args.value) _ n.next)

pub returns-then-not-is_write_of-clause-taken : goal.returns-then-not-is_write_of-clause-taken
returns-then-not-is_write_of-clause-taken c = λ processes past reached.
    let n : NextAt processes past c.args.node c.args.number c.next_request.new.self (Some c.in-Some.request) =
    subst (NextAt processes past c.args.node c.args.number c.next_request.new.self) c.in-Some.is (c.in_ok-request.ensures.next processes past reached) in
    turned_down processes past _ c.next_request.new.self _ n.reached
    (fails_it (is_write_of c.args.place c.args.value) c.in-Some.request _ n.next (sym c.is_write_of.ensures ∙ c.if-not-is_write_of.true))

pub returns-clause-taken : goal.returns-clause-taken
returns-clause-taken c = λ processes past reached.
    let n : NextAt processes past c.args.node c.args.number c.next_request.new.self (Some c.in-Some.request) =
    subst (NextAt processes past c.args.node c.args.number c.next_request.new.self) c.in-Some.is (c.in_ok-request.ensures.next processes past reached) in
    writes processes past c.next_request.new.self _ c.args.node c.args.number c.in-Some.request n c.args.place c.args.value
    (sym c.is_write_of.ensures ∙ c.if-not-is_write_of.false)
    (record { as_tables = c.in_ok-make.ensures; as_cells = c.in_ok-write.ensures; as_layout = refl; as_many = c.in_ok-pass.ensures.many })
    c.in_ok-pass.ensures.goes
