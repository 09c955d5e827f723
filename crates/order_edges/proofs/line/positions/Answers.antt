use Rattle.order_edges.proofs.Loops.{last_more}
use Rattle.order_edges.proofs.line.positions.Goals as goal

pub loop-at-preserved : goal.loop-at-preserved
loop-at-preserved c =
    let l = c.loop-at.invariant in
    record {
      size = c.note.ensures.size;
      noted = last_more c.args.line c.args.items.now c.loop-at.at _ _ _ c.loop-at-test.true c.note.ensures.noted l.noted;
    }
