-- The tables by which the edges of a run are made.
use Rattle.std.specs.Prelude.{ℕ, suc, List, length, Option, None, if◌then◌else◌}
use Rattle.sc_meaning.specs.declared.event.SourceEvent.{SourceEvent}
use Rattle.sc_isa.specs.declared.journal.Entry.{Entry}
use Rattle.fabric.specs.Barriers.{released, stores_at}
use Rattle.source_order.specs.Steps.{requested}
use Rattle.least_order.specs.declared.edge.Edge.{Edge}
use Rattle.order_edges.specs.declared.line.Kind.TheVariants.{Own, Issues, Syncs, Releases}
use Rattle.order_edges.specs.declared.line.Kind.{Kind}
use Rattle.order_edges.specs.declared.line.Line.{Line}
use Rattle.order_edges.specs.declared.tables.Node.{Node}
use Rattle.order_edges.specs.declared.tables.Releases as code
use Rattle.order_edges.specs.Lines.{position, look, next_from, edges_upto}
use Rattle.order_edges.specs.Steps.{steps_of}
use Rattle.order_edges.specs.Kinds.{ReleasesAt, NodeAt, node_edges}

-- those in memory
abbrev pub releases_in : code.Releases → ReleasesAt
releases_in r = record { last = r.last; items = look r.items.items; stores = look r.stores.items }

abbrev pub node_in : Node → NodeAt
node_in n = record {
  node = n.node;
  last = n.last;
  steps = n.steps.items;
  own = look n.own.items;
  issues = look n.issues.items;
  syncs = look n.syncs.items;
}

-- something under the number, if some node waits for stores at the barrier with it
abbrev pub stored : List Entry → (ℕ → Option ℕ) → ℕ → Option ℕ
stored past f m = if stores_at m past then f m else None

abbrev pub line_in : List Entry → (node : ℕ) → Kind → Line
line_in past node kind = record { kind = kind; node = node; last = requested node past }

abbrev pub all_releases_line : List Entry → Line
all_releases_line past = record { kind = Releases; node = 0; last = released past }

module _ (past : List Entry) (items : List SourceEvent) where
  abbrev pub releases_of : ReleasesAt
  releases_of = record {
    last = released past;
    items = position (all_releases_line past) items;
    stores = next_from (stored past (position (all_releases_line past) items)) (suc (released past));
  }

  abbrev pub node_at : ℕ → NodeAt
  node_at node = record {
    node = node;
    last = requested node past;
    steps = steps_of node past;
    own = position (line_in past node Own) items;
    issues = position (line_in past node Issues) items;
    syncs = next_from (position (line_in past node Syncs) items) (suc (requested node past));
  }

  -- those of the first nodes
  abbrev pub nodes_edges : (nodes : ℕ) → List Edge
  nodes_edges = edges_upto (λ node. node_edges releases_of (node_at node) items (length items))
