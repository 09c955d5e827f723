use Rattle.std.proofs.Common.{refl, sym, ◌∙◌}
use Rattle.history_replay.proofs.Releasing.{no_release, released, all_wait, given, made}
use Rattle.history_replay.proofs.judge.Judge.release.Goals as goal

pub returns-then-not-may_release-clause-taken : goal.returns-then-not-may_release-clause-taken
returns-then-not-may_release-clause-taken c = λ processes past reached.
    no_release processes past c.args.self.now _ reached c.args.number processes.nodes refl
    (sym c.may_release.ensures ∙ c.if-not-may_release.true)

pub returns-clause-taken : goal.returns-clause-taken
returns-clause-taken c = λ processes past reached.
    let old = c.args.self.now in
    let e = sym c.may_release.ensures ∙ c.if-not-may_release.false in
    let counted = reached.counted ∙ sym c.nodes.ensures in
    let waits = all_wait processes past old old reached c.args.number c.nodes.result counted e in
    released processes past old _ reached c.args.number c.nodes.result counted e c.pass_barrier.result
    c.in_ok-release.ensures refl refl c.pass_barrier.ensures.many
    (c.pass_barrier.ensures.passes processes.starts (given processes past old old reached c.args.number c.nodes.result counted)
    (made processes past old old reached c.args.number c.nodes.result counted) reached.fronts waits)
    (c.pass_barrier.ensures.refused processes.starts (given processes past old old reached c.args.number c.nodes.result counted)
    (made processes past old old reached c.args.number c.nodes.result counted) reached.fronts waits)
