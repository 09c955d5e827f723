use Rattle.std.proofs.Common.{◌≡◌, true, ◌∙◌, sym}
use Rattle.std.proofs.lemmas.Bool.{both_ways}
use Rattle.alias_conflicts.proofs.TwoNodes.{across_by_both, across_by_first, across_by_second, across_cases}
use Rattle.alias_conflicts.proofs.conflicting.share_across.Goals as goal
use Rattle.alias_conflicts.proofs.conflicting.share_across.Goals.{then-forms_across, else-forms_across}

pub returns-then-forms_across-2 : goal.returns-then-forms_across-2
returns-then-forms_across-2 c = (
  λ e. elim c.if-forms_across.branch [
    | then-forms_across w ↦ across_by_both c.args.layout.now c.args.flow.now c.args.a.now c.args.b.now (c.forms_across.ensures.0 w.if-forms_across.true)
    | else-forms_across w ↦ across_by_first c.args.layout.now c.args.flow.now c.args.a.now c.args.b.now (w.forms_across-else-forms_across.ensures.0 (sym w.value-is ∙ e))
  ],
  λ s. c.if-forms_across-2.true,
)

pub returns-else-forms_across-2 : goal.returns-else-forms_across-2
returns-else-forms_across-2 c = (
  λ e. across_by_second c.args.layout.now c.args.flow.now c.args.a.now c.args.b.now (c.forms_across-else-forms_across-2.ensures.0 e),
  λ s. across_cases c.args.layout.now c.args.flow.now c.args.a.now c.args.b.now (c.forms_across-else-forms_across-2.result ≡ true)
      (λ x. absurd (elim c.if-forms_across.branch [
        | then-forms_across w ↦ both_ways _ c.if-forms_across-2.false (w.value-is ∙ w.if-forms_across.true)
        | else-forms_across w ↦ both_ways _ w.if-forms_across.false (c.forms_across.ensures.1 x)
      ]))
      (λ x. absurd (elim c.if-forms_across.branch [
        | then-forms_across w ↦ both_ways _ c.if-forms_across-2.false (w.value-is ∙ w.if-forms_across.true)
        | else-forms_across w ↦ both_ways _ c.if-forms_across-2.false (w.value-is ∙ w.forms_across-else-forms_across.ensures.1 x)
      ]))
      (λ x. c.forms_across-else-forms_across-2.ensures.1 x)
      s,
)
