use Rattle.std.proofs.Common.{◌∙◌, List, length, ap, subst, sym, arith, ◌+◌}
use Rattle.site_graph.specs.declared.point.Point.{Point}
use Rattle.site_graph.specs.Graph.{Graph, is_barrier}
use Rattle.site_graph.proofs.PointKinds.{kind_of}
use Rattle.phase_map.proofs.Partings.{BarriersBelow, barrier_set, barrier_left, barriers_all}
use Rattle.phase_map.proofs.uneven.barriers.Goals.{then-is_barrier, else-is_barrier}
use Rattle.phase_map.proofs.uneven.barriers.Goals as goal

pub loop-at-preserved : goal.loop-at-preserved
loop-at-preserved c =
    let points = c.as_slice-points.ensures ∙ ap (λ (g : Graph). g.points) c.flow.view_is in
    let long = ap (λ (xs : List Point). length xs) points in
    let kind = kind_of c.args.flow.now c.as_slice-points.result.now c.loop-at.at c.index-points-at.result points c.loop-at-test.true c.index-points-at.is in
    elim c.if-is_barrier.branch [
      | then-is_barrier w ↦
          subst (BarriersBelow c.args.flow.now (c.loop-at.at + 1)) (sym w.row-is)
          (barrier_set c.args.flow.now c.loop-at.row _ c.loop-at.at (omega (arith, long, c.loop-at-test.true))
          (ap is_barrier kind ∙ (sym c.is_barrier.ensures ∙ w.if-is_barrier.true)) c.loop-at.invariant w.set.ensures)
      | else-is_barrier w ↦
          subst (BarriersBelow c.args.flow.now (c.loop-at.at + 1)) (sym w.row-is)
          (barrier_left c.args.flow.now c.loop-at.row c.loop-at.at (ap is_barrier kind ∙ (sym c.is_barrier.ensures ∙ w.if-is_barrier.false)) c.loop-at.invariant)
    ]

pub returns : goal.returns
returns c =
    let points = c.as_slice-points.ensures ∙ ap (λ (g : Graph). g.points) c.flow.view_is in
    let long = ap (λ (xs : List Point). length xs) points in
    barriers_all c.args.flow.now c.loop-at.row c.loop-at.at (omega (arith, long, c.loop-at-test.false)) c.loop-at.invariant
