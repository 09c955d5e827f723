use Rattle.sync_place.proofs.Waits.{more_rows}
use Rattle.sync_place.proofs.waiting.waits.Goals as goal

pub loop-at-preserved : goal.loop-at-preserved
loop-at-preserved c =
    more_rows c.args.first.now c.args.marks.now c.loop-at.at c.in_ok-row.row c.loop-at.rows c.push.new.self c.in_ok-row.ensures c.in-Ok.ensures.ok c.loop-at.invariant
