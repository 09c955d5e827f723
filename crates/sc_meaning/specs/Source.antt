-- The histories of a source: those of the processes that its nodes are.
use Rattle.std.specs.Prelude.{ℕ, List}
use Rattle.sc_layout.specs.Layout.{Arrangement}
use Rattle.sc_layout.specs.Start.{start}
use Rattle.sc_core.specs.Core.{Program}
use Rattle.sc_meaning.specs.declared.event.SourceEvent.{SourceEvent}
use Rattle.sc_meaning.specs.Past.{Processes}
use Rattle.sc_meaning.specs.Meaning.{meaning}
use Rattle.sc_meaning.specs.Whole.{IsHistory}

-- each node of the layout does what the source makes it do under the budget, over cells that begin as 0 or null
abbrev pub processes_of : Arrangement → Program → (budget : ℕ) → Processes
processes_of layout program budget = record {
  nodes = layout.nodes;
  start = start layout;
  starts = λ node. meaning (record { layout = layout; node = node; program = program }) budget;
}

-- a legal and complete history of the source
abbrev pub IsSourceHistory : Arrangement → Program → (budget : ℕ) → List SourceEvent → Type 0
IsSourceHistory layout program budget history = IsHistory (processes_of layout program budget) history
