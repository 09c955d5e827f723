use Rattle.std.proofs.Common.{◌<◌, ◌∙◌, List, length, ap, arith}
use Rattle.site_graph.specs.declared.point.Point.{Point}
use Rattle.site_graph.specs.Graph.{Graph}
use Rattle.sync_place.proofs.Behind.{behind_with, behind_none}
use Rattle.sync_place.proofs.Demands.{point_read}
use Rattle.sync_place.proofs.plain.mark_behind.Goals as goal

pub returns-in-Some : goal.returns-in-Some
returns-in-Some c =
    let points = c.as_slice.ensures ∙ ap (λ (g : Graph). g.points) c.flow.view_is in
    let long = ap (λ (xs : List Point). length xs) points in
    let within : c.args.edge.from < length c.as_slice.result.now = omega (arith, long, c.requires.from) in
    let read = point_read c.args.flow.now c.as_slice.result.now c.args.edge.from c.index-as_slice-edge.result points within c.index-as_slice-edge.is in
    behind_with c.args.flow.now c.args.edge c.index-as_slice-edge.result c.in-Some.blocking c.args.behind.now c.set.new.self read c.in-Some.ensures c.set.ensures

pub returns-in_default : goal.returns-in_default
returns-in_default c =
    let points = c.as_slice.ensures ∙ ap (λ (g : Graph). g.points) c.flow.view_is in
    let long = ap (λ (xs : List Point). length xs) points in
    let within : c.args.edge.from < length c.as_slice.result.now = omega (arith, long, c.requires.from) in
    let read = point_read c.args.flow.now c.as_slice.result.now c.args.edge.from c.index-as_slice-edge.result points within c.index-as_slice-edge.is in
    behind_none c.args.flow.now c.args.edge c.index-as_slice-edge.result c.args.behind.now read c.in_default.ensures
