use Rattle.journal_order.proofs.Listing.{releases_more}
use Rattle.journal_order.proofs.listed.add_releases.Goals as goal

pub loop-number-preserved : goal.loop-number-preserved
loop-number-preserved c = releases_more c.loop-number.number _ _ _ c.in_ok-push.ensures.items c.loop-number.invariant
