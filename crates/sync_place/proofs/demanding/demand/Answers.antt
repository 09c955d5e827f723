use Rattle.std.proofs.Common.{◌∙◌, List, length, ap, subst, arith}
use Rattle.site_graph.specs.declared.point.Point.{Point}
use Rattle.site_graph.specs.Graph.{Graph}
use Rattle.site_graph.specs.Kept.{IsFlow}
use Rattle.sync_place.specs.declared.demanding.Blocking.{Blocking}
use Rattle.sync_place.specs.Demanding.{IsMarked}
use Rattle.sync_place.proofs.Demands.{point_read, sites_within, more_demanded, all_demanded}
use Rattle.sync_place.proofs.demanding.demand.Goals as goal

pub mark_demands-requires-clause-sites : goal.mark_demands-requires-clause-sites
mark_demands-requires-clause-sites c =
    sites_within c.args.flow.now c.args.delays.now.rows (length c.args.flow.now.points) c.in_ok-sites.sites.items c.deref.result.now
    (subst IsFlow c.flow.view_is c.flow.invariant) c.requires.rows c.deref.ensures.value c.in_ok-sites.ensures

pub loop-at-preserved : goal.loop-at-preserved
loop-at-preserved c =
    let points = c.as_slice-points.ensures ∙ ap (λ (g : Graph). g.points) c.flow.view_is in
    let read = point_read c.args.flow.now c.as_slice-points.result.now c.loop-at.at c.index-points-at.result points c.loop-at-test.true c.index-points-at.is in
    more_demanded c.args.flow.now c.args.delays.now c.loop-at.demand c.mark_demands.new.demand c.loop-at.at c.index-points-at.result c.in_ok-sites.sites.items
    (subst IsFlow c.flow.view_is c.flow.invariant) read c.in_ok-sites.ensures
    (subst
    (λ (bs : List Blocking). IsMarked c.index-points-at.result c.loop-at.at bs (length bs) c.args.delays.now c.loop-at.demand c.mark_demands.new.demand)
    c.deref.ensures.value c.mark_demands.ensures)
    c.loop-at.invariant

pub returns : goal.returns
returns c =
    let points = c.as_slice-points.ensures ∙ ap (λ (g : Graph). g.points) c.flow.view_is in
    let long = ap (λ (xs : List Point). length xs) points in
    all_demanded c.args.flow.now c.args.delays.now c.loop-at.demand c.loop-at.at (omega (arith, long, c.loop-at-test.false)) c.loop-at.invariant
