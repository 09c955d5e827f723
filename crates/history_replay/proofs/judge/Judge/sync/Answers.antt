use Rattle.std.proofs.Common.{refl, sym, ◌∙◌, subst, None, Some}
use Rattle.sc_meaning.specs.Test.{is_sync}
use Rattle.history_replay.specs.Reached.{NextAt}
use Rattle.history_replay.proofs.Stopping.{not_first, not_second}
use Rattle.history_replay.proofs.Taking.{turned_down, none_comes, fails_it, syncs}
use Rattle.history_replay.proofs.judge.Judge.sync.Goals as goal

pub returns-in_default-clause-taken : goal.returns-in_default-clause-taken
returns-in_default-clause-taken c = λ processes past reached.
    let n : NextAt processes past c.args.node c.args.number c.next_request.new.self None =
    subst (NextAt processes past c.args.node c.args.number c.next_request.new.self) c.in_default.is (c.in_ok-request.ensures.next processes past reached) in
    turned_down processes past _ c.next_request.new.self _ n.reached (not_first _ _ (none_comes is_sync _ n.next))

pub returns-then-not-is_sync-clause-taken : goal.returns-then-not-is_sync-clause-taken
returns-then-not-is_sync-clause-taken c = λ processes past reached.
    let n : NextAt processes past c.args.node c.args.number c.next_request.new.self (Some c.in-Some.request) =
    subst (NextAt processes past c.args.node c.args.number c.next_request.new.self) c.in-Some.is (c.in_ok-request.ensures.next processes past reached) in
    turned_down processes past _ c.next_request.new.self _ n.reached
    (not_first _ _ (fails_it is_sync c.in-Some.request _ n.next (sym c.is_sync.ensures ∙ c.if-not-is_sync.true)))

pub returns-then-not-split_over-clause-taken : goal.returns-then-not-split_over-clause-taken
returns-then-not-split_over-clause-taken c = λ processes past reached.
    let n : NextAt processes past c.args.node c.args.number c.next_request.new.self (Some c.in-Some.request) =
    subst (NextAt processes past c.args.node c.args.number c.next_request.new.self) c.in-Some.is (c.in_ok-request.ensures.next processes past reached) in
    turned_down processes past _ c.next_request.new.self _ n.reached
    (not_second _ _ (sym c.split_over.ensures ∙ c.if-not-split_over.true))

pub returns-clause-taken : goal.returns-clause-taken
returns-clause-taken c = λ processes past reached.
    let n : NextAt processes past c.args.node c.args.number c.next_request.new.self (Some c.in-Some.request) =
    subst (NextAt processes past c.args.node c.args.number c.next_request.new.self) c.in-Some.is (c.in_ok-request.ensures.next processes past reached) in
    syncs processes past c.next_request.new.self _ c.args.node c.args.number c.in-Some.request n c.answer.result
    c.as_slice.result.now (sym c.is_sync.ensures ∙ c.if-not-is_sync.false) (sym c.split_over.ensures ∙ c.if-not-split_over.false)
    (c.as_slice.ensures.value ∙ c.in_ok-values.ensures)
    c.in_ok-sync.ensures refl refl c.answer.ensures.many c.answer.ensures.taken c.answer.ensures.refused
