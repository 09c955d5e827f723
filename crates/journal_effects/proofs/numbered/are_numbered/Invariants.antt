use Rattle.std.proofs.Common.{ℕ, ◌<◌, slice_index_or}
use Rattle.sc_isa.specs.declared.journal.Entry.{Entry}
use Rattle.journal_effects.specs.Numbered.{IsNumbered}
use Rattle.journal_effects.proofs.numbered.are_numbered.Given as goal

abbrev pub invariant-loop-entry : goal.invariant-loop-entry
invariant-loop-entry l = (k : ℕ) (d : Entry) → k < l.entry-index → IsNumbered (slice_index_or l.journal k d)
