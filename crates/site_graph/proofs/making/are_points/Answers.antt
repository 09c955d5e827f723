use Rattle.site_graph.proofs.MadeLaws.{points_more}
use Rattle.site_graph.proofs.making.are_points.Goals as goal

pub loop-at-preserved : goal.loop-at-preserved
loop-at-preserved c =
    points_more c.args.points.now c.loop-at.at c.args.sites c.index-points-at.result c.loop-at-test.true c.index-points-at.is
    (c.is_point.ensures.0 c.if-not-is_point.false) c.loop-at.invariant
