-- Journals that have a source order: whole runs of machines whose nodes make the requests of a source.
use Rattle.std.specs.Prelude.{◌≡◌, ℕ, List, Option, Some}
use Rattle.sc_base.specs.declared.value.Place.{Place}
use Rattle.sc_base.specs.declared.value.Value.{Value}
use Rattle.sc_isa.specs.declared.journal.Entry.{Entry}
use Rattle.sc_meaning.specs.declared.event.SourceEvent.{SourceEvent}
use Rattle.sc_meaning.specs.Past.{Processes}
use Rattle.fabric.specs.Asked.{Machine}
use Rattle.source_order.specs.Items.{source_order}
use Rattle.journal_order.specs.Ordering.{CanBeOrdered}

-- The journal can be ordered as the whole run of some machine for some processes, of so many nodes and over cells that
-- begin so. Which they are makes no difference to the order.
pub record IsOrderable (start : Place → Value) (nodes : ℕ) (journal : List Entry) : Type 0 where
  pub processes : Processes
  pub machine : Machine
  pub start_is : processes.start ≡ start
  pub nodes_are : processes.nodes ≡ nodes
  pub can : CanBeOrdered processes machine journal

-- what was found is the source order, if the journal can be ordered
abbrev pub IsOrderIfAny : (Place → Value) → (nodes : ℕ) → List Entry → Option (List SourceEvent) → Type 0
IsOrderIfAny start nodes journal found =
    (processes : Processes) (machine : Machine) → processes.start ≡ start → processes.nodes ≡ nodes
    → CanBeOrdered processes machine journal → found ≡ Some (source_order processes journal)
