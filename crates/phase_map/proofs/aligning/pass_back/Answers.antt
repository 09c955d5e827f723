use Rattle.std.proofs.Common.{◌<◌, ◌∙◌, List, length, sym, ap, subst, inl, inr, arith, true}
use Rattle.std.proofs.lemmas.Bool.{both_ways}
use Rattle.std.proofs.Math.ListN.{set}
use Rattle.site_graph.specs.declared.point.Point.{Point}
use Rattle.site_graph.specs.Graph.{Graph}
use Rattle.phase_map.specs.declared.aligning.Ahead.{Ahead}
use Rattle.phase_map.specs.Aligning.{IsPassed}
use Rattle.phase_map.proofs.Sweeping.{pass_more, pass_none, seen_by}
use Rattle.phase_map.proofs.aligning.pass_back.Goals as goal
use Rattle.phase_map.proofs.aligning.pass_back.Goals.{then-is_barrier, else-is_barrier}

pub returns-then-holds_all : goal.returns-then-holds_all
returns-then-holds_all c =
    let points = c.as_slice.ensures ∙ ap (λ (g : Graph). g.points) c.flow.view_is in
    let long = ap (λ (xs : List Point). length xs) points in
    let within : c.args.edge.to < length c.as_slice.result.now = omega (arith, long, c.requires.to) in
    pass_none c.args.flow.now c.args.edge c.args.ahead.now c.if-is_barrier.seen
    (seen_by c.args.flow.now c.as_slice.result.now c.args.ahead.now c.args.edge.to c.index-as_slice-edge.result c.is_barrier.result c.if-is_barrier.seen points within
    c.index-as_slice-edge.is c.is_barrier.ensures
    (elim c.if-is_barrier.branch [ then-is_barrier w ↦ inl (w.if-is_barrier.true, w.seen-is) | else-is_barrier w ↦ inr (w.if-is_barrier.false, w.seen-is) ]))
    (c.holds_all.ensures.0 c.if-holds_all.true)

pub returns : goal.returns
returns c =
    let points = c.as_slice.ensures ∙ ap (λ (g : Graph). g.points) c.flow.view_is in
    let long = ap (λ (xs : List Point). length xs) points in
    let within : c.args.edge.to < length c.as_slice.result.now = omega (arith, long, c.requires.to) in
    subst (λ (v : Ahead). IsPassed c.args.flow.now c.args.edge c.args.ahead.now (set c.args.ahead.now c.args.edge.from v) true) (sym c.joined.ensures)
    (pass_more c.args.flow.now c.args.edge c.args.ahead.now c.if-is_barrier.seen (omega (arith, c.requires.points, c.requires.from))
    (seen_by c.args.flow.now c.as_slice.result.now c.args.ahead.now c.args.edge.to c.index-as_slice-edge.result c.is_barrier.result c.if-is_barrier.seen points within
    c.index-as_slice-edge.is c.is_barrier.ensures
    (elim c.if-is_barrier.branch [ then-is_barrier w ↦ inl (w.if-is_barrier.true, w.seen-is) | else-is_barrier w ↦ inr (w.if-is_barrier.false, w.seen-is) ]))
    (λ e. both_ways _ c.if-holds_all.false (c.holds_all.ensures.1 e)))
