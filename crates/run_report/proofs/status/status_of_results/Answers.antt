use Rattle.std.proofs.Common.{refl, sym, ◌∙◌}
use Rattle.run_report.proofs.Ends.{status_found}
use Rattle.run_report.proofs.status.status_of_results.Goals as goal

pub returns-then-some_fault : goal.returns-then-some_fault
returns-then-some_fault c = sym
    (status_found c.args.nodes.now _ _ _ (sym c.if-some_fault.true ∙ c.some_fault.ensures) refl refl)

pub returns-then-some_cut : goal.returns-then-some_cut
returns-then-some_cut c =
    sym (status_found c.args.nodes.now _ _ _ (sym c.if-some_fault.false ∙ c.some_fault.ensures)
    (sym c.if-some_cut.true ∙ c.some_cut.ensures) refl)

pub returns-then-some_waiting : goal.returns-then-some_waiting
returns-then-some_waiting c =
    sym (status_found c.args.nodes.now _ _ _ (sym c.if-some_fault.false ∙ c.some_fault.ensures)
    (sym c.if-some_cut.false ∙ c.some_cut.ensures) (sym c.if-some_waiting.true ∙ c.some_waiting.ensures))

pub returns-else-some_waiting : goal.returns-else-some_waiting
returns-else-some_waiting c =
    sym (status_found c.args.nodes.now _ _ _ (sym c.if-some_fault.false ∙ c.some_fault.ensures)
    (sym c.if-some_cut.false ∙ c.some_cut.ensures) (sym c.if-some_waiting.false ∙ c.some_waiting.ensures))
