use Rattle.std.proofs.Common.{Some, subst, Option}
use Rattle.std.proofs.lemmas.Bool.{both_ways}
use Rattle.site_graph.specs.declared.site.Form.{Form}
use Rattle.alias_conflicts.specs.Across.{FormsOwn}
use Rattle.alias_conflicts.proofs.TwoNodes.{none_own}
use Rattle.alias_conflicts.proofs.crossing.forms_own.Goals as goal

pub returns-else-may_meet : goal.returns-else-may_meet
returns-else-may_meet c = (
  λ e. absurd (both_ways _ c.if-may_meet.false e),
  λ w. (let v = subst (λ (x : Option Form). FormsOwn c.args.layout.now c.args.flow.now x c.args.b) c.in-Some.is w in
      let u = subst (λ (y : Option Form). FormsOwn c.args.layout.now c.args.flow.now (Some c.in-Some.first) y) c.in-Some-b.is v in
      absurd (none_own c.args.layout.now c.args.flow.now c.in-Some.first c.in-Some-b.second c.requires.lawful
      (λ m. both_ways _ c.if-may_meet.false (c.may_meet.ensures.1 m)) u)),
)
