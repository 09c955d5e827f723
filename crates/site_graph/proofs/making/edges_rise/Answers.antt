use Rattle.std.proofs.Common.{sym, ◌∙◌}
use Rattle.site_graph.specs.Rising.{edge_before}
use Rattle.site_graph.proofs.MadeLaws.{rises_more, edges_trans, step_at}
use Rattle.site_graph.proofs.making.edges_rise.Goals as goal

pub loop-at-preserved : goal.loop-at-preserved
loop-at-preserved c =
    rises_more edge_before edges_trans c.args.edges.now c.loop-at.at c.loop-at.auto.at
    (step_at edge_before c.args.edges.now c.loop-at.at (record { from = 0; to = 0 }) c.loop-at-test.true (sym c.is_before.ensures ∙ c.if-not-is_before.false))
    c.loop-at.invariant
