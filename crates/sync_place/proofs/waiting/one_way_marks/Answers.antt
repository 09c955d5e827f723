use Rattle.sync_place.proofs.Waits.{more_marks}
use Rattle.sync_place.proofs.waiting.one_way_marks.Goals as goal

pub loop-number-preserved : goal.loop-number-preserved
loop-number-preserved c =
    more_marks c.args.flow.now c.args.first.now c.loop-number.number c.goes_one_way.result c.loop-number.marks.items c.push.new.self.items c.goes_one_way.ensures
    c.in-Ok.ensures.items c.loop-number.invariant
