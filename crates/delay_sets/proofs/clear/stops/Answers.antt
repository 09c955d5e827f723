use Rattle.std.proofs.Common.{◌∙◌, List, length, ap, subst, sym, arith, ◌+◌}
use Rattle.site_graph.specs.declared.point.Point.{Point}
use Rattle.site_graph.specs.Graph.{Graph}
use Rattle.site_graph.proofs.PointKinds.{kind_of}
use Rattle.delay_sets.specs.ClearSites.{is_stop}
use Rattle.delay_sets.proofs.SiteRows.{StopsBelow, stop_set, stop_left, stops_all}
use Rattle.delay_sets.proofs.clear.stops.Goals.{then-stops_ways, else-stops_ways}
use Rattle.delay_sets.proofs.clear.stops.Goals as goal

pub loop-at-preserved : goal.loop-at-preserved
loop-at-preserved c =
    let points = c.as_slice-points.ensures ∙ ap (λ (g : Graph). g.points) c.flow.view_is in
    let long = ap (λ (xs : List Point). length xs) points in
    let kind = kind_of c.args.flow.now c.as_slice-points.result.now c.loop-at.at c.index-points-at.result points c.loop-at-test.true c.index-points-at.is in
    elim c.if-stops_ways.branch [
      | then-stops_ways w ↦
          subst (StopsBelow c.args.flow.now (c.loop-at.at + 1)) (sym w.rows-is)
          (stop_set c.args.flow.now c.loop-at.rows _ c.loop-at.at (omega (arith, long, c.loop-at-test.true))
          (ap is_stop kind ∙ (sym c.stops_ways.ensures ∙ w.if-stops_ways.true)) c.loop-at.invariant w.set.ensures)
      | else-stops_ways w ↦
          subst (StopsBelow c.args.flow.now (c.loop-at.at + 1)) (sym w.rows-is)
          (stop_left c.args.flow.now c.loop-at.rows c.loop-at.at (ap is_stop kind ∙ (sym c.stops_ways.ensures ∙ w.if-stops_ways.false)) c.loop-at.invariant)
    ]

pub returns : goal.returns
returns c =
    let points = c.as_slice-points.ensures ∙ ap (λ (g : Graph). g.points) c.flow.view_is in
    let long = ap (λ (xs : List Point). length xs) points in
    stops_all c.args.flow.now c.loop-at.rows c.loop-at.at (omega (arith, long, c.loop-at-test.false)) c.loop-at.invariant
