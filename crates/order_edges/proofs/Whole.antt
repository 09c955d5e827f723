-- The edges of a whole run say together what has to come before what.
use Rattle.std.proofs.Common.{◌≡◌, List, length, reverse, sym, subst}
use Rattle.sc_meaning.specs.declared.event.SourceEvent.{SourceEvent}
use Rattle.sc_meaning.specs.Past.{Processes}
use Rattle.sc_isa.specs.declared.journal.Entry.{Entry}
use Rattle.fabric.specs.Asked.{Machine}
use Rattle.least_order.specs.declared.edge.Edge.{Edge}
use Rattle.least_order.specs.Ways.{AreWays}
use Rattle.source_order.specs.Items.{items as items_of}
use Rattle.source_order.proofs.Orderable.{known_run}
use Rattle.journal_order.specs.Ordering.{CanBeOrdered, before_at}
use Rattle.order_edges.specs.Whole.{all_edges}
use Rattle.order_edges.proofs.Facts.{Facts}
use Rattle.order_edges.proofs.Settled.{facts}
use Rattle.order_edges.proofs.Ways.{ways_by}

pub ways : (processes : Processes) (machine : Machine) (journal : List Entry) (items : List SourceEvent) → CanBeOrdered processes machine journal
    → items ≡ items_of processes.start processes.nodes (reverse journal)
    → AreWays (all_edges (reverse journal) processes.nodes items) (length items) (before_at processes.start (reverse journal) items)
ways processes machine journal items can is =
    ways_by processes.start (reverse journal) processes.nodes items
    (subst (Facts processes.start (reverse journal) processes.nodes) (sym is)
    (facts processes (reverse journal) (known_run processes machine journal can.waits can.run can.made)))
