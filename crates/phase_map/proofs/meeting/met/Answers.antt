use Rattle.std.proofs.Common.{◌≡◌, ◌+◌, ◌∙◌, List, length, ap, subst, sym, refl, arith}
use Rattle.std.proofs.lemmas.Bool.{both_ways}
use Rattle.site_graph.specs.declared.point.Point.{Point}
use Rattle.site_graph.specs.Graph.{Graph}
use Rattle.site_graph.specs.Kept.{IsFlow}
use Rattle.site_graph.proofs.PointKinds.{kind_of}
use Rattle.phase_map.specs.Phasing.{Begins}
use Rattle.phase_map.proofs.Pairs.{AreMet, met_more, met_left}
use Rattle.phase_map.proofs.meeting.met.Goals.{then-begins_phase+in_ok-found+in_ok-sites, else-begins_phase}
use Rattle.phase_map.proofs.meeting.met.Goals as goal

pub loop-at-preserved : goal.loop-at-preserved
loop-at-preserved c =
    let points = c.as_slice-point-items.ensures ∙ ap (λ (g : Graph). g.points) c.flow.view_is in
    let kept = subst IsFlow c.flow.view_is c.flow.invariant in
    let kind = kind_of c.args.flow.now c.as_slice-point-items.result.now c.loop-at.at c.point-item.result points c.loop-at-test.true c.point-item.is in
    elim c.if-begins_phase.branch [
      | then-begins_phase+in_ok-found+in_ok-sites w ↦ subst (AreMet c.args.flow.now (c.loop-at.at + 1)) (sym w.meets-is)
          (met_more c.args.flow.now c.in_ok-places.places.items w.deref.result.now c.args.barriers.now w.in_ok-found.found w.in_ok-sites.sites c.loop-at.meets _ c.loop-at.at _
          kept c.in_ok-places.ensures w.deref.ensures.value c.requires.barriers (subst Begins (sym kind) (c.begins_phase.ensures.0 w.if-begins_phase.true))
          w.in_ok-found.ensures w.in_ok-sites.ensures refl c.loop-at.invariant w.add_pairs.ensures)
      | else-begins_phase w ↦ subst (AreMet c.args.flow.now (c.loop-at.at + 1)) (sym w.meets-is)
          (met_left c.args.flow.now c.loop-at.meets c.loop-at.at (λ b. both_ways _ w.if-begins_phase.false (c.begins_phase.ensures.1 (subst Begins kind b))) c.loop-at.invariant)
    ]

pub returns : goal.returns
returns c =
    let points = c.as_slice-point-items.ensures ∙ ap (λ (g : Graph). g.points) c.flow.view_is in
    let long = ap (λ (xs : List Point). length xs) points in
    let same : c.loop-at.at ≡ length c.args.flow.now.points = omega (arith, long, c.loop-at-test.false, c.loop-at.auto.at-end) in
    subst (λ n. AreMet c.args.flow.now n c.loop-at.meets) same c.loop-at.invariant
