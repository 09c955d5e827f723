-- The nodes of a legal journal are those of its machine.
use Rattle.std.specs.Prelude.{List, All}
use Rattle.sc_isa.specs.declared.journal.Entry.{Entry}
use Rattle.fabric.specs.Asked.{Machine}
use Rattle.fabric.specs.Legal.{IsLegalJournal}
use Rattle.journal_order.specs.Listed.{IsOn}

abbrev pub LegalJournalsAreOn : Type 0
LegalJournalsAreOn =
    (machine : Machine) (journal : List Entry) → IsLegalJournal machine journal → All (IsOn machine.nodes) journal
