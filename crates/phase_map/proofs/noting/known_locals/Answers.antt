use Rattle.std.proofs.Common.{◌<◌, ◌∙◌, List, length, ap, subst, arith}
use Rattle.site_graph.specs.declared.point.Point.{Point}
use Rattle.site_graph.specs.Graph.{Graph}
use Rattle.site_graph.specs.Kept.{IsFlow}
use Rattle.phase_map.proofs.Noted.{point_read, known_first}
use Rattle.phase_map.proofs.noting.known_locals.Goals as goal

pub returns : goal.returns
returns c =
    let points = c.as_slice.ensures ∙ ap (λ (g : Graph). g.points) c.flow.view_is in
    let kept = subst IsFlow c.flow.view_is c.flow.invariant in
    let long = ap (λ (xs : List Point). length xs) points in
    let some : 0 < length c.as_slice.result.now = omega (arith, long, kept.some_point) in
    known_first c.args.flow.now _ _ c.main_is_called.result c.in_ok-noted.noted c.index-as_slice-0.result
    (point_read c.args.flow.now c.as_slice.result.now 0 c.index-as_slice-0.result points some c.index-as_slice-0.is)
    (ap (λ (p : Point). p.function) c.index-as_slice-0.is) c.main_is_called.ensures c.written_end.ensures c.in_ok-noted.ensures
