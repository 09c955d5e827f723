use Rattle.std.proofs.Common.{◌∙◌, List, length, ap, arith}
use Rattle.site_graph.specs.declared.point.Point.{Point}
use Rattle.site_graph.specs.Graph.{Graph}
use Rattle.phase_map.proofs.Noted.{point_read, note_more}
use Rattle.phase_map.proofs.noting.note_writes.Goals as goal

pub note_write-gains-requires-clause-room : goal.note_write-gains-requires-clause-room
note_write-gains-requires-clause-room c =
    let points = c.as_slice-point-items.ensures ∙ ap (λ (g : Graph). g.points) c.flow.view_is in
    let long = ap (λ (xs : List Point). length xs) points in
    let read = point_read c.args.flow.now c.as_slice-point-items.result.now c.loop-at.at c.point-item.result points c.loop-at-test.true c.point-item.is in
    λ x writes other. c.loop-at.invariant.known.room c.loop-at.at x c.point-item.result (omega (arith, long, c.loop-at-test.true)) read writes other

pub loop-at-preserved : goal.loop-at-preserved
loop-at-preserved c =
    let points = c.as_slice-point-items.ensures ∙ ap (λ (g : Graph). g.points) c.flow.view_is in
    let read = point_read c.args.flow.now c.as_slice-point-items.result.now c.loop-at.at c.point-item.result points c.loop-at-test.true c.point-item.is in
    note_more c.args.flow.now c.args.behind.now c.loop-at.at c.point-item.result c.get-parted.result c.loop-at.gains c.note_write-gains.result
    c.args.locals.now c.loop-at.locals c.note_write-gains.new.locals read c.requires.behind c.get-parted.ensures c.loop-at.invariant c.note_write-gains.ensures
