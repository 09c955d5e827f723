use Rattle.std.proofs.Common.{take, reverse}
use Rattle.journal_order.proofs.Passes.{ArePasses}
use Rattle.journal_order.proofs.passed.releases.Given as goal

abbrev pub invariant-loop-entry : goal.invariant-loop-entry
invariant-loop-entry l =
    ArePasses l.fn.nodes l.entry-index (reverse (take l.entry-index l.journal)) l.passes.items l.most
