-- Journals whose copies can be written down cell by cell: each cell of a place has a number below 2 ^ 32.
use Rattle.std.specs.Prelude.{◌+◌, ◌≤◌, ◌^◌, List}
use Rattle.std.specs.List.{All}
use Rattle.sc_isa.specs.declared.access.Access.{Access}
use Rattle.sc_isa.specs.declared.access.Access.TheVariants.{Read, Write, Copy}
use Rattle.sc_isa.specs.declared.journal.Entry.{Entry}
use Rattle.sc_isa.specs.declared.journal.Entry.TheVariants.{Issued, Delivered, Waited, Arrived, Passed, Finished}

-- each cell of the access has a number
abbrev pub HasNumberedCells : Access → Type 0
HasNumberedCells (Read place track) = Unit {0}
HasNumberedCells (Write place value track) = Unit {0}
HasNumberedCells (Copy from to cells track) = (from.offset + cells ≤ 2 ^ 32) × (to.offset + cells ≤ 2 ^ 32)

abbrev pub IsNumbered : Entry → Type 0
IsNumbered (Issued node number access) = HasNumberedCells access
IsNumbered (Delivered node number cell value) = Unit {0}
IsNumbered (Waited node counter) = Unit {0}
IsNumbered (Arrived node stores) = Unit {0}
IsNumbered (Passed node) = Unit {0}
IsNumbered (Finished node end) = Unit {0}

-- each cell of each access of the journal has a number, as it has where it lies in a layout
abbrev pub AreNumbered : List Entry → Type 0
AreNumbered journal = All IsNumbered journal
