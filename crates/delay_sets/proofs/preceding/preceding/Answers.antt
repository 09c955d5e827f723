use Rattle.std.proofs.Common.{◌∙◌, List, length, ap, subst, sym, arith, ◌+◌}
use Rattle.site_graph.specs.declared.point.Point.{Point}
use Rattle.site_graph.specs.Graph.{Graph}
use Rattle.site_graph.specs.Kept.{IsFlow}
use Rattle.site_graph.specs.Ways.{Precedes}
use Rattle.site_graph.proofs.PointKinds.{kind_of}
use Rattle.delay_sets.proofs.SiteRows.{AreBelow, point_passed, site_passed, all_passed, blocking_added, other_added, precedes_within, precedes_begins}
use Rattle.delay_sets.proofs.preceding.preceding.Goals.{in-Access+then-is_blocking, in-Access+else-is_blocking+in_ok-over, in_default}
use Rattle.delay_sets.proofs.preceding.preceding.Goals as goal

pub site-site-requires : goal.site-site-requires
site-site-requires c =
    let points = c.as_slice-point-items.ensures ∙ ap (λ (g : Graph). g.points) c.flow.view_is in
    let kind = kind_of c.args.flow.now c.as_slice-point-items.result.now c.loop-at.at c.point-item.result points c.loop-at-test.true c.point-item.is in
    let within = (subst IsFlow c.flow.view_is c.flow.invariant).access_within c.loop-at.at c.in-Access.number (kind ∙ c.in-Access.is) in
    within

pub add_common-requires-clause-row : goal.add_common-requires-clause-row
add_common-requires-clause-row c =
    let points = c.as_slice-point-items.ensures ∙ ap (λ (g : Graph). g.points) c.flow.view_is in
    let kind = kind_of c.args.flow.now c.as_slice-point-items.result.now c.loop-at.at c.point-item.result points c.loop-at-test.true c.point-item.is in
    let within = (subst IsFlow c.flow.view_is c.flow.invariant).access_within c.loop-at.at c.in-Access.number (kind ∙ c.in-Access.is) in
    omega (arith, within.1, c.loop-at.invariant.same_rows)

pub add_common-requires-clause-a_row : goal.add_common-requires-clause-a_row
add_common-requires-clause-a_row c =
    let points = c.as_slice-point-items.ensures ∙ ap (λ (g : Graph). g.points) c.flow.view_is in
    let kind = kind_of c.args.flow.now c.as_slice-point-items.result.now c.loop-at.at c.point-item.result points c.loop-at-test.true c.point-item.is in
    let within = (subst IsFlow c.flow.view_is c.flow.invariant).access_within c.loop-at.at c.in-Access.number (kind ∙ c.in-Access.is) in
    omega (arith, within.1, c.in_ok-clear.ensures.same_rows)

pub add_common-requires-clause-b_row : goal.add_common-requires-clause-b_row
add_common-requires-clause-b_row c =
    let points = c.as_slice-point-items.ensures ∙ ap (λ (g : Graph). g.points) c.flow.view_is in
    let kind = kind_of c.args.flow.now c.as_slice-point-items.result.now c.loop-at.at c.point-item.result points c.loop-at-test.true c.point-item.is in
    let within = (subst IsFlow c.flow.view_is c.flow.invariant).access_within c.loop-at.at c.in-Access.number (kind ∙ c.in-Access.is) in
    omega (arith, within.1, c.in_ok-clear.ensures.same_rows)

pub add_sites-requires-clause-row : goal.add_sites-requires-clause-row
add_sites-requires-clause-row c =
    let points = c.as_slice-point-items.ensures ∙ ap (λ (g : Graph). g.points) c.flow.view_is in
    let kind = kind_of c.args.flow.now c.as_slice-point-items.result.now c.loop-at.at c.point-item.result points c.loop-at-test.true c.point-item.is in
    let within = (subst IsFlow c.flow.view_is c.flow.invariant).access_within c.loop-at.at c.in-Access.number (kind ∙ c.in-Access.is) in
    omega (arith, within.1, c.loop-at.invariant.same_rows)

pub loop-at-preserved : goal.loop-at-preserved
loop-at-preserved c =
    let points = c.as_slice-point-items.ensures ∙ ap (λ (g : Graph). g.points) c.flow.view_is in
    let kept = subst IsFlow c.flow.view_is c.flow.invariant in
    let kind = kind_of c.args.flow.now c.as_slice-point-items.result.now c.loop-at.at c.point-item.result points c.loop-at-test.true c.point-item.is in
    elim c.match-point.branch [
      | in-Access+then-is_blocking w ↦
          subst (AreBelow c.args.flow.now (Precedes c.args.flow.now) (c.loop-at.at + 1)) (sym w.rows-is)
          (site_passed c.args.flow.now (Precedes c.args.flow.now) c.loop-at.rows w.add_common.new.self c.loop-at.at w.in-Access.number kept (kind ∙ w.in-Access.is)
          (precedes_within c.args.flow.now kept)
          (blocking_added c.args.flow.now w.site-site.result c.in_ok-clear.clear c.loop-at.rows w.add_common.new.self c.loop-at.at w.in-Access.number kept (kind ∙ w.in-Access.is)
          w.site-site.ensures (sym w.is_blocking.ensures ∙ w.if-is_blocking.true) c.in_ok-clear.ensures w.add_common.ensures) c.loop-at.invariant)
      | in-Access+else-is_blocking+in_ok-over w ↦
          subst (AreBelow c.args.flow.now (Precedes c.args.flow.now) (c.loop-at.at + 1)) (sym w.rows-is)
          (site_passed c.args.flow.now (Precedes c.args.flow.now) c.loop-at.rows w.add_sites.new.rows c.loop-at.at w.in-Access.number kept (kind ∙ w.in-Access.is)
          (precedes_within c.args.flow.now kept)
          (other_added c.args.flow.now w.site-site.result w.in_ok-over.over c.loop-at.rows w.add_sites.new.rows c.loop-at.at w.in-Access.number kept (kind ∙ w.in-Access.is)
          w.site-site.ensures w.in_ok-over.ensures w.add_sites.ensures) c.loop-at.invariant)
      | in_default w ↦
          subst (AreBelow c.args.flow.now (Precedes c.args.flow.now) (c.loop-at.at + 1)) (sym w.rows-is)
          (point_passed c.args.flow.now (Precedes c.args.flow.now) c.loop-at.rows c.loop-at.at (λ n is. w.in_default.not-Access n (sym kind ∙ is)) c.loop-at.invariant)
    ]

pub returns : goal.returns
returns c =
    let points = c.as_slice-point-items.ensures ∙ ap (λ (g : Graph). g.points) c.flow.view_is in
    let long = ap (λ (xs : List Point). length xs) points in
    all_passed c.args.flow.now (Precedes c.args.flow.now) c.loop-at.rows c.loop-at.at (omega (arith, long, c.loop-at-test.false)) (precedes_begins c.args.flow.now) c.loop-at.invariant
