use Rattle.std.proofs.Common.{refl, sym, ◌∙◌}
use Rattle.history_replay.proofs.Stopping.{finishes, not_on, not_so, there}
use Rattle.history_replay.proofs.judge.Judge.finish.Goals as goal

pub returns-then-not-goes_on-clause-taken : goal.returns-then-not-goes_on-clause-taken
returns-then-not-goes_on-clause-taken c = λ processes past reached unlike.
    not_on processes past c.args.self.now _ reached c.args.node c.args.end unlike
    (sym c.goes_on.ensures.answer ∙ c.if-not-goes_on.true)

pub returns-then-not-branch-clause-taken : goal.returns-then-not-branch-clause-taken
returns-then-not-branch-clause-taken c = λ processes past reached unlike.
    let on = sym c.goes_on.ensures.answer ∙ c.if-not-goes_on.false in
    not_so processes past c.args.self.now _ reached c.args.node c.args.end unlike
    (sym (c.in_ok-ends_as.ensures.so reached.fronts reached.all (there processes past c.args.self.now reached c.args.node on)) ∙ c.if-not-branch.true)

pub returns-clause-taken : goal.returns-clause-taken
returns-clause-taken c = λ processes past reached unlike.
    let on = sym c.goes_on.ensures.answer ∙ c.if-not-goes_on.false in
    let lt = there processes past c.args.self.now reached c.args.node on in
    finishes processes past c.args.self.now _ reached c.args.node c.args.end unlike on
    (sym (c.in_ok-ends_as.ensures.so reached.fronts reached.all lt) ∙ c.if-not-branch.false)
    (record { as_tables = c.end.ensures; as_cells = refl; as_layout = refl; as_many = c.in_ok-ends_as.ensures.many })
    (c.in_ok-ends_as.ensures.stands reached.fronts reached.all lt)
