-- All edges of a run.
use Rattle.std.specs.Prelude.{ℕ, List, ◌++◌, length}
use Rattle.sc_meaning.specs.declared.event.SourceEvent.{SourceEvent}
use Rattle.sc_isa.specs.declared.journal.Entry.{Entry}
use Rattle.least_order.specs.declared.edge.Edge.{Edge}
use Rattle.order_edges.specs.declared.keyed.Pairing.TheVariants.{Copied, LastWrite, NextWrite}
use Rattle.order_edges.specs.Kinds.{release_edges}
use Rattle.order_edges.specs.Tables.{releases_of, nodes_edges}
use Rattle.order_edges.specs.Keyed.{keyed_edges}

abbrev pub all_edges : List Entry → (nodes : ℕ) → List SourceEvent → List Edge
all_edges past nodes items =
    release_edges (releases_of past items) items (length items)
    ++ (nodes_edges past items nodes ++ (keyed_edges Copied items (length items)
    ++ (keyed_edges LastWrite items (length items) ++ keyed_edges NextWrite items (length items))))
