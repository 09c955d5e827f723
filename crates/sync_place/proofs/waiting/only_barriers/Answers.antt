use Rattle.std.proofs.Common.{◌∙◌, sym, ap}
use Rattle.std.proofs.lemmas.Bool.{both_ways}
use Rattle.site_graph.specs.Graph.{Graph, is_barrier}
use Rattle.sync_place.proofs.Demands.{point_read, kind_from}
use Rattle.sync_place.proofs.Waits.{more_barriers}
use Rattle.sync_place.proofs.waiting.only_barriers.Goals as goal
use Rattle.sync_place.proofs.waiting.only_barriers.Goals.{else-not-is_barrier-via-then-not-is_barrier+else-get, else-not-is_barrier-via-else-not-is_barrier}

pub loop-at-preserved : goal.loop-at-preserved
loop-at-preserved c =
    let points = c.as_slice-point-items.ensures ∙ ap (λ (g : Graph). g.points) c.flow.view_is in
    let kind = kind_from c.args.flow.now c.loop-at.at c.point-item.result
    (point_read c.args.flow.now c.as_slice-point-items.result.now c.loop-at.at c.point-item.result points c.loop-at-test.true c.point-item.is) in
    more_barriers c.args.flow.now c.args.first.now c.args.number c.loop-at.at
    (λ s. elim c.else-not-is_barrier.branch [
      | else-not-is_barrier-via-then-not-is_barrier+else-get w ↦ absurd (both_ways _ w.if-get.false (w.get.ensures.1 s))
      | else-not-is_barrier-via-else-not-is_barrier w ↦ ap is_barrier kind ∙ (sym c.is_barrier.ensures ∙ w.if-not-is_barrier.false)
    ])
    c.loop-at.invariant
