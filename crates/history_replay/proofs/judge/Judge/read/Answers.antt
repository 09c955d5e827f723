use Rattle.std.proofs.Common.{refl, sym, ◌∙◌, subst, None, Some}
use Rattle.replay_stages.specs.Laws.{is_read_now}
use Rattle.replay_tables.specs.Cells.{holds}
use Rattle.history_replay.specs.Reached.{NextAt}
use Rattle.history_replay.proofs.Taking.{turned_down, none_comes, fails_it, reads}
use Rattle.history_replay.proofs.judge.Judge.read.Goals as goal

pub returns-in_default-clause-taken : goal.returns-in_default-clause-taken
returns-in_default-clause-taken c = λ processes past reached.
    let n : NextAt processes past c.args.node c.args.number c.next_request.new.self None =
    subst (NextAt processes past c.args.node c.args.number c.next_request.new.self) c.in_default.is (c.in_ok-request.ensures.next processes past reached) in
    turned_down processes past _ c.next_request.new.self _ n.reached (none_comes
    (is_read_now (holds c.next_request.new.self.layout.now c.next_request.new.self.cells) c.args.place c.args.value) _ n.next)

pub returns-then-not-is_read_now-clause-taken : goal.returns-then-not-is_read_now-clause-taken
returns-then-not-is_read_now-clause-taken c = λ processes past reached.
    let n : NextAt processes past c.args.node c.args.number c.next_request.new.self (Some c.in-Some.request) =
    subst (NextAt processes past c.args.node c.args.number c.next_request.new.self) c.in-Some.is (c.in_ok-request.ensures.next processes past reached) in
    turned_down processes past _ c.next_request.new.self _ n.reached
    (fails_it (is_read_now (holds c.next_request.new.self.layout.now c.next_request.new.self.cells) c.args.place c.args.value)
    c.in-Some.request _ n.next (sym c.is_read_now.ensures ∙ c.if-not-is_read_now.true))

pub returns-clause-taken : goal.returns-clause-taken
returns-clause-taken c = λ processes past reached.
    let n : NextAt processes past c.args.node c.args.number c.next_request.new.self (Some c.in-Some.request) =
    subst (NextAt processes past c.args.node c.args.number c.next_request.new.self) c.in-Some.is (c.in_ok-request.ensures.next processes past reached) in
    reads processes past c.next_request.new.self _ c.args.node c.args.number c.in-Some.request n c.answer.result
    c.args.place c.args.value (sym c.is_read_now.ensures ∙ c.if-not-is_read_now.false)
    c.in_ok-make.ensures refl refl c.answer.ensures.many c.answer.ensures.taken c.answer.ensures.refused
