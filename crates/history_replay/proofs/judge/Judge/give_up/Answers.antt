use Rattle.std.proofs.Common.{refl, sym, ◌∙◌, ◌<◌, subst}
use Rattle.replay_stages.specs.Laws.{with_front}
use Rattle.sc_meaning.specs.Past.{answers}
use Rattle.history_replay.proofs.Stopping.{not_standing, stuck, waits, here, gives_up, stops_not}
use Rattle.history_replay.proofs.judge.Judge.give_up.Goals as goal

pub returns-then-not-stands-clause-taken : goal.returns-then-not-stands-clause-taken
returns-then-not-stands-clause-taken c = λ processes past reached.
    not_standing processes past c.args.self.now _ reached c.args.node (sym c.stands.ensures.answer ∙ c.if-not-stands.true)

pub returns-then-not-branch-clause-taken : goal.returns-then-not-branch-clause-taken
returns-then-not-branch-clause-taken c = λ processes past reached.
    let old = c.args.self.now in
    let on = sym c.stands.ensures.answer ∙ c.if-not-stands.false in
    let w = waits processes past old old reached c.args.node on in
    stuck processes past old _ reached c.args.node on
    (c.in_ok-answer.ensures.refused (processes.starts c.args.node) (answers processes c.args.node past) w.before reached.fronts w.last
    reached.all (here processes past old old reached c.args.node on) w.course w.next w.answered c.if-not-branch.true)

pub returns-then-not-branch-2-clause-taken : goal.returns-then-not-branch-2-clause-taken
returns-then-not-branch-2-clause-taken c = λ processes past reached.
    let old = c.args.self.now in
    let on = sym c.stands.ensures.answer ∙ c.if-not-stands.false in
    let w = waits processes past old old reached c.args.node on in
    let lt = here processes past old old reached c.args.node on in
    let go = c.in_ok-answer.ensures.taken (processes.starts c.args.node) (answers processes c.args.node past) w.before reached.fronts w.last
    reached.all lt w.course w.next w.answered c.if-not-branch.false in
    let lt2 = subst (λ n. c.args.node < n) (sym c.in_ok-answer.ensures.many) lt in
    stops_not processes past old _ reached c.args.node on c.answer.new.self.runners.items go
    (sym (c.in_ok-ends_as.ensures.so (with_front reached.fronts c.args.node go.front) go.all lt2) ∙ c.if-not-branch-2.true)

pub returns-clause-taken : goal.returns-clause-taken
returns-clause-taken c = λ processes past reached.
    let old = c.args.self.now in
    let on = sym c.stands.ensures.answer ∙ c.if-not-stands.false in
    let w = waits processes past old old reached c.args.node on in
    let lt = here processes past old old reached c.args.node on in
    let go = c.in_ok-answer.ensures.taken (processes.starts c.args.node) (answers processes c.args.node past) w.before reached.fronts w.last
    reached.all lt w.course w.next w.answered c.if-not-branch.false in
    let lt2 = subst (λ n. c.args.node < n) (sym c.in_ok-answer.ensures.many) lt in
    gives_up processes past old _ reached c.args.node on c.answer.new.self.runners.items go
    (sym (c.in_ok-ends_as.ensures.so (with_front reached.fronts c.args.node go.front) go.all lt2) ∙ c.if-not-branch-2.false)
    (record {
      as_tables = c.end.ensures;
      as_cells = refl;
      as_layout = refl;
      as_many = c.in_ok-ends_as.ensures.many ∙ c.in_ok-answer.ensures.many;
    })
    (c.in_ok-ends_as.ensures.stands (with_front reached.fronts c.args.node go.front) go.all lt2)
