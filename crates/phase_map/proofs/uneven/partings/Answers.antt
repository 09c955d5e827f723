use Rattle.std.proofs.Common.{◌≡◌, ◌∙◌, ◌+◌, List, length, ap, sym, subst, arith}
use Rattle.std.proofs.lemmas.Bool.{both_ways}
use Rattle.site_graph.specs.declared.point.Point.{Point}
use Rattle.site_graph.specs.Graph.{Graph}
use Rattle.phase_map.specs.Noting.{ArePartings}
use Rattle.phase_map.proofs.Noted.{point_read}
use Rattle.phase_map.proofs.Partings.{parting_found, parting_left}
use Rattle.phase_map.proofs.uneven.partings.Goals as goal
use Rattle.phase_map.proofs.uneven.partings.Goals.{then-branches+then-parts+in-Ok, else-branches, else-branches-via-then-branches+else-parts, else-branches-via-else-branches}

pub loop-at-preserved : goal.loop-at-preserved
loop-at-preserved c =
    let points = c.as_slice-point-items.ensures ∙ ap (λ (g : Graph). g.points) c.flow.view_is in
    let read = point_read c.args.flow.now c.as_slice-point-items.result.now c.loop-at.at c.point-item.result points c.loop-at-test.true c.point-item.is in
    elim c.if-branches.branch [
      | then-branches+then-parts+in-Ok w ↦
          subst (ArePartings c.args.flow.now c.args.locals.now (c.loop-at.at + 1)) (sym (ap (λ v. v.items) w.all-is ∙ w.in-Ok.ensures.items))
          (parting_found c.args.flow.now c.args.locals.now c.loop-at.at c.point-item.result c.loop-at.all.items read (c.branches.ensures.0 w.if-branches.true)
          (w.parts.ensures.0 w.if-parts.true) c.loop-at.invariant)
      | else-branches w ↦
          subst (ArePartings c.args.flow.now c.args.locals.now (c.loop-at.at + 1)) (sym (ap (λ v. v.items) w.all-is))
          (parting_left c.args.flow.now c.args.locals.now c.loop-at.at c.point-item.result c.loop-at.all.items read
          (elim w.else-branches.branch [
            | else-branches-via-then-branches+else-parts w' ↦ λ two parts. both_ways _ w'.if-parts.false (w'.parts.ensures.1 parts)
            | else-branches-via-else-branches w' ↦ λ two parts. both_ways _ w'.if-branches.false (c.branches.ensures.1 two)
          ])
          c.loop-at.invariant)
    ]

pub returns : goal.returns
returns c =
    let points = c.as_slice-point-items.ensures ∙ ap (λ (g : Graph). g.points) c.flow.view_is in
    let long = ap (λ (xs : List Point). length xs) points in
    let same : c.loop-at.at ≡ length c.args.flow.now.points = omega (arith, long, c.loop-at-test.false, c.loop-at.auto.at-end) in
    subst (λ n. ArePartings c.args.flow.now c.args.locals.now n c.loop-at.all.items) same c.loop-at.invariant
