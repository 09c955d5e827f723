use Rattle.std.proofs.Common.{◌≡◌, ◌∙◌, List, length, ap, subst, sym, arith, ◌+◌}
use Rattle.std.proofs.lemmas.Bool.{both_ways}
use Rattle.site_graph.specs.declared.point.Point.{Point}
use Rattle.site_graph.specs.Graph.{Graph}
use Rattle.site_graph.specs.Order.{is_sync}
use Rattle.site_graph.proofs.PointKinds.{kind_of}
use Rattle.delay_sets.specs.Preceding.{AreSyncsIn}
use Rattle.delay_sets.proofs.Before.{from_sync, sync_found, sync_left}
use Rattle.delay_sets.proofs.preceding.syncs_in.Goals.{then-is_sync+then-get+in-Ok, else-is_sync, else-is_sync-via-then-is_sync+else-get, else-is_sync-via-else-is_sync}
use Rattle.delay_sets.proofs.preceding.syncs_in.Goals as goal

pub loop-at-preserved : goal.loop-at-preserved
loop-at-preserved c =
    let points = c.as_slice-point-items.ensures ∙ ap (λ (g : Graph). g.points) c.flow.view_is in
    let kind = kind_of c.args.flow.now c.as_slice-point-items.result.now c.loop-at.at c.point-item.result points c.loop-at-test.true c.point-item.is in
    elim c.if-is_sync.branch [
      | then-is_sync+then-get+in-Ok w ↦
          subst (AreSyncsIn c.args.flow.now c.args.reached.now (c.loop-at.at + 1)) (sym (ap (λ v. v.items) w.syncs-is ∙ w.in-Ok.ensures.items))
          (sync_found c.args.flow.now c.args.reached.now c.loop-at.at c.loop-at.syncs.items (from_sync _ (ap is_sync kind ∙ (sym c.is_sync.ensures ∙ w.if-is_sync.true))) (w.get.ensures.0 w.if-get.true)
          c.loop-at.invariant)
      | else-is_sync w ↦
          subst (AreSyncsIn c.args.flow.now c.args.reached.now (c.loop-at.at + 1)) (sym (ap (λ v. v.items) w.syncs-is))
          (sync_left c.args.flow.now c.args.reached.now c.loop-at.at c.loop-at.syncs.items
          (elim w.else-is_sync.branch [
            | else-is_sync-via-then-is_sync+else-get w' ↦ λ is s. both_ways _ w'.if-get.false (w'.get.ensures.1 s)
            | else-is_sync-via-else-is_sync w' ↦ λ is s. both_ways _ w'.if-is_sync.false (c.is_sync.ensures ∙ ap is_sync (sym kind ∙ is))
          ])
          c.loop-at.invariant)
    ]

pub returns : goal.returns
returns c =
    let points = c.as_slice-point-items.ensures ∙ ap (λ (g : Graph). g.points) c.flow.view_is in
    let long = ap (λ (xs : List Point). length xs) points in
    let same : c.loop-at.at ≡ length c.args.flow.now.points = omega (arith, long, c.loop-at-test.false, c.loop-at.auto.at-end) in
    subst (λ n. AreSyncsIn c.args.flow.now c.args.reached.now n c.loop-at.syncs.items) same c.loop-at.invariant
