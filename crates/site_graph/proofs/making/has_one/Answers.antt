use Rattle.std.proofs.Common.{length, arith}
use Rattle.std.proofs.lemmas.Bool.{false≢true, both_ways, and_parts}
use Rattle.site_graph.proofs.MadeLaws.{more_found, not_one, has_one, point_read}
use Rattle.site_graph.proofs.making.has_one.Goals as goal

pub returns-then-twice : goal.returns-then-twice
returns-then-twice c =
    let read = point_read c.args.points.now c.loop-point.point-index c.point-item.result c.loop-point-test.true c.point-item.is in
    let both = and_parts c.loop-point.found c.accesses-here.result c.if-twice.true in (
      λ t. absurd (false≢true t),
      λ h. absurd (not_one c.args.points.now c.args.number c.loop-point.point-index (length c.args.points.now) c.point-item.result c.loop-point.found
          c.accesses-here.result read c.loop-point-test.true c.accesses-here.ensures both.0 both.1 c.loop-point.invariant h),
    )

pub loop-point-preserved : goal.loop-point-preserved
loop-point-preserved c =
    more_found c.args.points.now c.args.number c.loop-point.point-index c.point-item.result c.loop-point.found c.accesses-here.result
    (point_read c.args.points.now c.loop-point.point-index c.point-item.result c.loop-point-test.true c.point-item.is) c.accesses-here.ensures
    (λ t. both_ways _ c.if-twice.false t) c.loop-point.invariant

pub returns : goal.returns
returns c =
    let low = c.loop-point-test.false in
    let high = c.loop-point.auto.point-index-end in
    has_one c.args.points.now c.args.number c.loop-point.point-index c.loop-point.found (omega arith) c.loop-point.invariant
