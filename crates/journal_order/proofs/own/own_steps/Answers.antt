use Rattle.journal_order.proofs.Listing.{own_more, counted_more, low_more}
use Rattle.journal_order.proofs.own.own_steps.Goals as goal

pub loop-entry-preserved : goal.loop-entry-preserved
loop-entry-preserved c =
    let l = c.loop-entry.invariant in
    record {
      listed = own_more c.args.node c.args.journal.now c.loop-entry.entry-index _ _ _ _ _ c.loop-entry-test.true
          c.in_ok-add_step.ensures c.step_of.ensures l.counted l.listed;
      counted = counted_more c.args.node c.args.journal.now c.loop-entry.entry-index _ _ _ c.loop-entry-test.true
          c.requests_after-request.ensures l.counted;
      low = low_more _ _ _ _ c.requests_after-request.ensures l.low;
    }
