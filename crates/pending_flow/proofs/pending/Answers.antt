use Rattle.std.proofs.Common.{◌+◌, List, length, sym, ap, subst, ◌∙◌, arith}
use Rattle.site_graph.specs.declared.point.Point.{Point}
use Rattle.site_graph.specs.Graph.{Graph}
use Rattle.site_graph.specs.Kept.{IsFlow}
use Rattle.pending_flow.proofs.Adding.{PendingBelow, kind_of, point_passed, access_passed, all_passed}
use Rattle.pending_flow.proofs.pending.Goals as goal
use Rattle.pending_flow.proofs.pending.Goals.{in-Access+in_ok-add_first_demands, in_default}

pub loop-at-preserved : goal.loop-at-preserved
loop-at-preserved c =
    let points = c.as_slice-point-items.ensures ∙ ap (λ (g : Graph). g.points) c.flow.view_is in
    let kind = kind_of c.args.flow.now c.as_slice-point-items.result.now c.loop-at.at c.point-item.result points c.loop-at-test.true c.point-item.is in
    elim c.match-point.branch [
      | in-Access+in_ok-add_first_demands w ↦
          subst (PendingBelow c.args.flow.now c.args.demand.now (c.loop-at.at + 1)) (sym w.pending-is)
          (access_passed c.args.flow.now c.args.demand.now c.loop-at.pending w.add_first_demands.new.pending w.in-Access.site c.loop-at.at
          (subst IsFlow c.flow.view_is c.flow.invariant) (kind ∙ w.in-Access.is) c.loop-at.invariant w.in_ok-add_first_demands.ensures)
      | in_default w ↦
          subst (PendingBelow c.args.flow.now c.args.demand.now (c.loop-at.at + 1)) (sym w.pending-is)
          (point_passed c.args.flow.now c.args.demand.now c.loop-at.pending c.loop-at.at (λ n is. w.in_default.not-Access n (sym kind ∙ is)) c.loop-at.invariant)
    ]

pub returns : goal.returns
returns c =
    let points = c.as_slice-point-items.ensures ∙ ap (λ (g : Graph). g.points) c.flow.view_is in
    let long = ap (λ (xs : List Point). length xs) points in
    all_passed c.args.flow.now c.args.demand.now c.loop-at.pending c.loop-at.at (omega (arith, long, c.loop-at-test.false)) c.loop-at.invariant
