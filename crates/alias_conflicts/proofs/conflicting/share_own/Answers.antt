use Rattle.std.proofs.Common.{◌≡◌, true, ◌∙◌, sym}
use Rattle.std.proofs.lemmas.Bool.{both_ways}
use Rattle.alias_conflicts.proofs.TwoNodes.{own_by_both, own_by_first, own_by_second, own_cases}
use Rattle.alias_conflicts.proofs.conflicting.share_own.Goals as goal
use Rattle.alias_conflicts.proofs.conflicting.share_own.Goals.{then-forms_own, else-forms_own}

pub returns-then-forms_own-2 : goal.returns-then-forms_own-2
returns-then-forms_own-2 c = (
  λ e. elim c.if-forms_own.branch [
    | then-forms_own w ↦ own_by_both c.args.layout.now c.args.flow.now c.args.a.now c.args.b.now (c.forms_own.ensures.0 w.if-forms_own.true)
    | else-forms_own w ↦ own_by_first c.args.layout.now c.args.flow.now c.args.a.now c.args.b.now (w.forms_own-else-forms_own.ensures.0 (sym w.value-is ∙ e))
  ],
  λ s. c.if-forms_own-2.true,
)

pub returns-else-forms_own-2 : goal.returns-else-forms_own-2
returns-else-forms_own-2 c = (
  λ e. own_by_second c.args.layout.now c.args.flow.now c.args.a.now c.args.b.now (c.forms_own-else-forms_own-2.ensures.0 e),
  λ s. own_cases c.args.layout.now c.args.flow.now c.args.a.now c.args.b.now (c.forms_own-else-forms_own-2.result ≡ true)
      (λ x. absurd (elim c.if-forms_own.branch [
        | then-forms_own w ↦ both_ways _ c.if-forms_own-2.false (w.value-is ∙ w.if-forms_own.true)
        | else-forms_own w ↦ both_ways _ w.if-forms_own.false (c.forms_own.ensures.1 x)
      ]))
      (λ x. absurd (elim c.if-forms_own.branch [
        | then-forms_own w ↦ both_ways _ c.if-forms_own-2.false (w.value-is ∙ w.if-forms_own.true)
        | else-forms_own w ↦ both_ways _ c.if-forms_own-2.false (w.value-is ∙ w.forms_own-else-forms_own.ensures.1 x)
      ]))
      (λ x. c.forms_own-else-forms_own-2.ensures.1 x)
      s,
)
