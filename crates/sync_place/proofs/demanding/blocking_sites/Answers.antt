use Rattle.std.proofs.Common.{◌+◌, ◌∙◌, sym, ap, subst}
use Rattle.site_graph.specs.Graph.{Graph}
use Rattle.sync_place.specs.Demanding.{AreBlocking}
use Rattle.sync_place.proofs.Demands.{point_read, no_more_blocking, more_blocking}
use Rattle.sync_place.proofs.demanding.blocking_sites.Goals as goal
use Rattle.sync_place.proofs.demanding.blocking_sites.Goals.{in-Some+in-Ok, in_default}

pub loop-point-preserved : goal.loop-point-preserved
loop-point-preserved c =
    let points = c.as_slice-point-items.ensures ∙ ap (λ (g : Graph). g.points) c.flow.view_is in
    let read = point_read c.args.flow.now c.as_slice-point-items.result.now c.loop-point.point-index c.point-item.result points c.loop-point-test.true c.point-item.is in
    elim c.match-blocking_at.branch [
      | in-Some+in-Ok w ↦
          more_blocking c.args.flow.now c.loop-point.point-index c.point-item.result w.in-Some.site c.loop-point.sites.items c.match-blocking_at.sites.items read
          w.in-Some.ensures (ap (λ v. v.items) w.sites-is ∙ w.in-Ok.ensures.items) c.loop-point.invariant
      | in_default w ↦
          subst (λ v. AreBlocking c.args.flow.now (c.loop-point.point-index + 1) v.items) (sym w.sites-is)
          (no_more_blocking c.args.flow.now c.loop-point.point-index c.point-item.result c.loop-point.sites.items read w.in_default.ensures c.loop-point.invariant)
    ]
