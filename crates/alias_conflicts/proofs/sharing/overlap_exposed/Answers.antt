use Rattle.std.proofs.Common.{subst}
use Rattle.std.specs.Prelude.{All}
use Rattle.std.proofs.lemmas.Bool.{both_ways}
use Rattle.std.proofs.lemmas.List.{take_all}
use Rattle.std.proofs.lemmas.List.Elements.{All-more, All-contains}
use Rattle.alias_conflicts.specs.Regions.{HasObject, Meets}
use Rattle.alias_conflicts.proofs.sharing.overlap_exposed.Goals as goal
use Rattle.alias_conflicts.proofs.sharing.overlap_exposed.Goals.{else-has_object-via-then-has_object+else-meet, else-has_object-via-else-has_object}

pub loop-object-preserved : goal.loop-object-preserved
loop-object-preserved c =
    All-more (λ o. HasObject c.args.exposed.now c.args.b.now.object o × Meets c.args.layout.now o c.args.a.now c.args.b.now → ⊥) c.args.exposed.now c.loop-object.object-index 0 c.loop-object-test.true c.loop-object.invariant
    (λ h. elim c.else-has_object.branch [
      | else-has_object-via-then-has_object+else-meet w ↦ both_ways _ w.if-meet.false (w.meet.ensures.1 h.1)
      | else-has_object-via-else-has_object w ↦ both_ways _ w.if-has_object.false (c.has_object.ensures.1 h.0)
    ])

pub returns : goal.returns
returns c =
    let all : All (λ o. HasObject c.args.exposed.now c.args.b.now.object o × Meets c.args.layout.now o c.args.a.now c.args.b.now → ⊥) c.args.exposed.now =
    subst (All (λ o. HasObject c.args.exposed.now c.args.b.now.object o × Meets c.args.layout.now o c.args.a.now c.args.b.now → ⊥)) (take_all c.loop-object.object-index c.args.exposed.now c.loop-object-test.false) c.loop-object.invariant in
    (λ e. cc, λ w. absurd (All-contains (λ o. HasObject c.args.exposed.now c.args.b.now.object o × Meets c.args.layout.now o c.args.a.now c.args.b.now → ⊥) c.args.exposed.now w.0 all w.1 (w.2, w.3)))
