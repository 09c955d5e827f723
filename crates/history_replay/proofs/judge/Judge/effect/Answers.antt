use Rattle.std.proofs.Common.{refl, sym, ap, ◌∙◌, if◌then◌else◌}
use Rattle.replay_books.specs.Tables.{may_occur_in_tables}
use Rattle.replay_tables.specs.Cells.{with_cell}
use Rattle.history_replay.proofs.Taking.{turned_down, occurs}
use Rattle.history_replay.proofs.judge.Judge.effect.Goals as goal

pub returns-then-not-may_occur-clause-taken : goal.returns-then-not-may_occur-clause-taken
returns-then-not-may_occur-clause-taken c = λ processes past reached.
    turned_down processes past _ c.args.self.now _ reached
    (ap (may_occur_in_tables c.args.self.now.tables c.args.node c.args.number c.args.cell c.args.wrote c.args.place c.args.value)
    (sym c.read-shown.ensures) ∙ sym c.may_occur.ensures.answer ∙ c.if-not-may_occur.true)

pub returns-in_ok-write-clause-taken : goal.returns-in_ok-write-clause-taken
returns-in_ok-write-clause-taken c = λ processes past reached.
    occurs processes past c.args.self.now _ reached c.args.node c.args.number c.args.cell c.args.wrote c.args.place c.args.value c.write.new.self
    (ap (may_occur_in_tables c.args.self.now.tables c.args.node c.args.number c.args.cell c.args.wrote c.args.place c.args.value)
    (sym c.read-shown.ensures) ∙ sym c.may_occur.ensures.answer ∙ c.if-not-may_occur.false)
    (c.in_ok-write.ensures ∙ sym (ap (λ b. if b then with_cell c.args.self.now.cells c.args.place c.args.value else c.args.self.now.cells) c.if-wrote.true))
    (record { as_tables = c.occur.ensures; as_cells = refl; as_layout = refl; as_many = refl }) refl

pub returns-else-wrote-clause-taken : goal.returns-else-wrote-clause-taken
returns-else-wrote-clause-taken c = λ processes past reached.
    occurs processes past c.args.self.now _ reached c.args.node c.args.number c.args.cell c.args.wrote c.args.place c.args.value c.args.self.now.cells
    (ap (may_occur_in_tables c.args.self.now.tables c.args.node c.args.number c.args.cell c.args.wrote c.args.place c.args.value)
    (sym c.read-shown.ensures) ∙ sym c.may_occur.ensures.answer ∙ c.if-not-may_occur.false)
    (sym (ap (λ b. if b then with_cell c.args.self.now.cells c.args.place c.args.value else c.args.self.now.cells) c.if-wrote.false))
    (record { as_tables = c.occur.ensures; as_cells = refl; as_layout = refl; as_many = refl }) refl
