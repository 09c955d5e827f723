-- Which journals have numbered cells: the legal ones whose accesses lie in a layout, as those of compiled code do.
use Rattle.std.specs.Prelude.{List, reverse}
use Rattle.sc_layout.specs.Layout.{Arrangement, IsLayout}
use Rattle.sc_isa.specs.declared.journal.Entry.{Entry}
use Rattle.fabric.specs.Asked.{Machine}
use Rattle.fabric.specs.Legal.{IsLegalJournal}
use Rattle.run_moves.specs.Placed.{AccessesArePlaced}
use Rattle.journal_effects.specs.Numbered.{AreNumbered}

abbrev pub PlacedAreNumbered : Type 0
PlacedAreNumbered =
    (machine : Machine) (layout : Arrangement) (journal : List Entry) → IsLegalJournal machine journal
    → IsLayout layout → AccessesArePlaced layout (reverse journal) → AreNumbered journal
