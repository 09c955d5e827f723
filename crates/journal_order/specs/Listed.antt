-- The items of a run as they are listed, entry by entry.
use Rattle.std.specs.Prelude.{ℕ, ◌<◌, Option, Some, None, not, ◌==◌, ◌&&◌, if◌then◌else◌}
use Rattle.sc_meaning.specs.declared.event.SourceEvent.{SourceEvent}
use Rattle.sc_meaning.specs.declared.event.SourceEvent.TheVariants.{Issue, Sync, Arrive, End as Over}
use Rattle.sc_meaning.specs.OfAccess.{is_done_at_once}
use Rattle.sc_isa.specs.declared.journal.Entry.{Entry}
use Rattle.sc_isa.specs.declared.journal.Entry.TheVariants.{Issued, Delivered, Waited, Arrived, Passed, Finished}

-- the node's own step that the entry is, where it has made so many requests before, but for blocking reads and writes
abbrev pub step_with : (node request : ℕ) → Entry → Option SourceEvent
step_with node request (Issued other number access) =
    if (other == node) && not (is_done_at_once access) then Some (Issue node request) else None
step_with node request (Waited other counter) =
    if (other == node) && (counter == 0) then Some (Sync node request) else None
step_with node request (Arrived other stores) = if other == node then Some (Arrive node request stores) else None
step_with node request (Finished other end) = if other == node then Some (Over node end) else None
step_with node request _ = None

-- the entry is of a node with a number below the bound
abbrev pub IsOn : (nodes : ℕ) → Entry → Type 0
IsOn nodes (Issued node number access) = node < nodes
IsOn nodes (Delivered node number cell value) = node < nodes
IsOn nodes (Waited node counter) = node < nodes
IsOn nodes (Arrived node stores) = node < nodes
IsOn nodes (Passed node) = node < nodes
IsOn nodes (Finished node end) = node < nodes
