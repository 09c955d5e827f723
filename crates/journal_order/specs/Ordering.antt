-- The order of a run's items as code makes it: the least one by edges between their places in the list, after the
-- processes order and the conflict order of Shasha and Snir (1988). It depends on the journal alone.
use Rattle.std.specs.Prelude.{◌≡◌, ℕ, List, map, length, reverse, slice_index_or, Option, Some, Bool}
use Rattle.std.specs.Option.{option_map}
use Rattle.sc_base.specs.declared.value.Place.{Place}
use Rattle.sc_base.specs.declared.value.Value.{Value}
use Rattle.sc_meaning.specs.declared.event.SourceEvent.{SourceEvent}
use Rattle.sc_meaning.specs.declared.event.SourceEvent.TheVariants.{Release}
use Rattle.sc_meaning.specs.Past.{Processes}
use Rattle.sc_isa.specs.declared.journal.Entry.{Entry}
use Rattle.fabric.specs.Asked.{Machine}
use Rattle.least_order.specs.declared.edge.Edge.{Edge}
use Rattle.least_order.specs.Least.{least_order}
use Rattle.least_order.specs.Ways.{AreWays}
use Rattle.sc_meaning.specs.Answering.{AllWaitForAnswers}
use Rattle.source_order.specs.Items.{items, source_order}
use Rattle.source_order.specs.Made.{IsMade}
use Rattle.source_order.specs.Needs.{before, NoCycle}
use Rattle.source_order.specs.Whole.{IsRun}

-- The journal is that of a whole run of a machine whose nodes make the requests of the processes, and what has to come
-- before what has no cycle.
pub record CanBeOrdered (processes : Processes) (machine : Machine) (journal : List Entry) : Type 0 where
  pub waits : AllWaitForAnswers processes
  pub run : IsRun machine journal
  pub made : IsMade processes machine (reverse journal)
  pub no_cycle : NoCycle processes.start processes.nodes (reverse journal)

-- the events are the source order of the journal, whatever the processes of so many nodes are that it is a run of
abbrev pub IsSourceOrder : (Place → Value) → (nodes : ℕ) → List Entry → List SourceEvent → Type 0
IsSourceOrder start nodes journal events =
    (processes : Processes) (machine : Machine) → processes.start ≡ start → processes.nodes ≡ nodes
    → CanBeOrdered processes machine journal → events ≡ source_order processes journal

-- the item with this place in the list
abbrev pub item_at : List SourceEvent → ℕ → SourceEvent
item_at all i = slice_index_or all i (Release 0)

-- the item with the first place has to come before that with the second
abbrev pub before_at : (Place → Value) → List Entry → List SourceEvent → ℕ → ℕ → Bool
before_at start past all i j = before start past (item_at all i) (item_at all j)

-- the items in their least order by these edges between their places
abbrev pub arranged : List SourceEvent → List Edge → Option (List SourceEvent)
arranged all edges = option_map (map (item_at all)) (least_order edges (length all))

-- such edges give the source order
abbrev pub OrderIsByEdges : Type 0
OrderIsByEdges =
    (processes : Processes) (machine : Machine) (journal : List Entry) (edges : List Edge)
    → CanBeOrdered processes machine journal
    → AreWays edges (length (items processes.start processes.nodes (reverse journal)))
    (before_at processes.start (reverse journal) (items processes.start processes.nodes (reverse journal)))
    → arranged (items processes.start processes.nodes (reverse journal)) edges ≡ Some
    (source_order processes journal)
