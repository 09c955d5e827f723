-- Edges made as they are from what is known of the items are ways.
use Rattle.std.proofs.Common.{ℕ, List, length}
use Rattle.sc_base.specs.declared.value.Place.{Place}
use Rattle.sc_base.specs.declared.value.Value.{Value}
use Rattle.sc_meaning.specs.declared.event.SourceEvent.{SourceEvent}
use Rattle.sc_isa.specs.declared.journal.Entry.{Entry}
use Rattle.least_order.specs.Ways.{AreWays}
use Rattle.journal_order.specs.Ordering.{before_at}
use Rattle.order_edges.specs.Whole.{all_edges}
use Rattle.order_edges.proofs.Facts.{Facts}
use Rattle.order_edges.proofs.Each.{each_before}
use Rattle.order_edges.proofs.Found.{way_found}

pub ways_by : (start : Place → Value) (past : List Entry) (nodes : ℕ) (items : List SourceEvent) → Facts start past nodes items
    → AreWays (all_edges past nodes items) (length items) (before_at start past items)
ways_by start past nodes items f = record {
  each = λ i j w v h. each_before start past nodes items f i j h;
  found = λ i j w v h. way_found start past nodes items f i j w v h;
}
