use Rattle.std.proofs.Common.{ℕ, ◌<◌, slice_index_or}
use Rattle.sc_isa.specs.declared.journal.Entry.{Entry}
use Rattle.journal_order.specs.Listed.{IsOn}
use Rattle.run_order.proofs.of_nodes.are_on.Given as goal

abbrev pub invariant-loop-entry : goal.invariant-loop-entry
invariant-loop-entry l = (k : ℕ) (d : Entry) → k < l.entry-index → IsOn l.nodes (slice_index_or l.journal k d)
