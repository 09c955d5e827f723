use Rattle.std.proofs.Common.{subst, sym, ap, ◌∙◌}
use Rattle.site_graph.specs.Graph.{Graph}
use Rattle.site_graph.specs.Rising.{IsRising, edge_before}
use Rattle.site_graph.proofs.Firsts.{more_firsts, firsts_at_end}
use Rattle.site_graph.proofs.reaching.first_edges.Goals as goal

pub loop-point-preserved : goal.loop-point-preserved
loop-point-preserved c =
    more_firsts c.as_slice-edges.result.now c.loop-point.point c.loop-point.next c.edges_below-next.result c.loop-point.firsts.items c.push.new.self.items
    (subst (IsRising edge_before) (sym c.as_slice-edges.ensures) c.flow.invariant.edges_rise) c.loop-point.invariant c.in-Ok.ensures.items
    c.edges_below-next.ensures.least c.edges_below-next.ensures.within c.edges_below-next.ensures.below c.edges_below-next.ensures.stop

pub returns : goal.returns
returns c =
    firsts_at_end c.args.flow.now c.loop-point.point c.loop-point.next c.as_slice-edges.result.now c.as_slice.result.now c.loop-point.firsts.items
    (c.as_slice-edges.ensures ∙ ap (λ (g : Graph). g.edges) c.flow.view_is) (c.as_slice.ensures ∙ ap (λ (g : Graph). g.points) c.flow.view_is)
    c.loop-point-test.false c.loop-point.auto.point-end c.loop-point.invariant
