use Rattle.std.proofs.Common.{reverse}
use Rattle.journal_order.proofs.Listing.{steps_more}
use Rattle.journal_order.proofs.listed.add_steps.Goals as goal

pub loop-node-preserved : goal.loop-node-preserved
loop-node-preserved c =
    steps_more c.loop-node.node (reverse c.args.journal.now) _ _ _ c.in_ok-add_own.ensures c.loop-node.invariant
