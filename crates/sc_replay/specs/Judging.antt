-- Whether a list of events is a legal and complete history of a source, and what it shows in the end: the result of an
-- execution of Lamport's "How to make a multiprocessor computer that correctly executes multiprocess programs" (1979).
use Rattle.std.specs.Prelude.{◌≡◌, ℕ, ◌<◌, List, Option, Some, None, length, slice_get}
use Rattle.std.specs.Option.{option_and_then}
use Rattle.sc_base.specs.declared.value.Place.{Place}
use Rattle.sc_base.specs.declared.value.Value.{Value}
use Rattle.sc_layout.specs.Layout.{Arrangement}
use Rattle.sc_layout.specs.Place.{IsPlace, extent_of}
use Rattle.sc_core.specs.Core.{Program}
use Rattle.sc_meaning.specs.declared.event.SourceEvent.{SourceEvent}
use Rattle.sc_meaning.specs.declared.outcome.Outcome.{Outcome}
use Rattle.sc_meaning.specs.Source.{processes_of}
use Rattle.sc_meaning.specs.Whole as whole
use Rattle.sc_meaning.specs.Whole.{IsHistory, outcome}

-- the cell of the place
abbrev pub cell_in : List (List (List Value)) → Place → Option Value
cell_in cells place =
    option_and_then (λ values. slice_get values place.offset)
    (option_and_then (λ objects. slice_get objects place.object) (slice_get cells place.node))

-- cells by node, object and offset: a list for each node, in it one for each object, in that all its cells on the node
pub record AreCellsOf (layout : Arrangement) (cells : List (List (List Value))) : Type 0 where
  pub nodes : length cells ≡ layout.nodes
  pub objects : (node : ℕ) (of_node : List (List Value)) → slice_get cells node ≡ Some of_node →
      length of_node ≡ length layout.objects
  pub extents : (node object : ℕ) (of_node : List (List Value)) (values : List Value) →
      slice_get cells node ≡ Some of_node → slice_get of_node object ≡ Some values →
      length values ≡ extent_of layout node object

-- the code's outcome tells, of each node, its end and its text, and of each place of the layout what it holds
pub record Tells (layout : Arrangement) (shown : whole.Outcome) (told : Outcome) : Type 0 where
  pub all_ends : length told.ends ≡ layout.nodes
  pub ends : (node : ℕ) → node < layout.nodes → slice_get told.ends node ≡ shown.ends node
  pub all_texts : length told.printed ≡ layout.nodes
  pub texts : (node : ℕ) → node < layout.nodes → slice_get told.printed node ≡ Some (shown.texts node)
  pub cells : AreCellsOf layout told.memory
  pub memory : (place : Place) → IsPlace layout place → cell_in told.memory place ≡ Some (shown.memory place)

-- Some exactly for a legal and complete history, with what it shows; None exactly for any other list of events
abbrev pub Judges : Arrangement → Program → (budget : ℕ) → List SourceEvent → Option Outcome → Type 0
Judges layout program budget history None = IsHistory (processes_of layout program budget) history → ⊥
Judges layout program budget history (Some told) =
    IsHistory (processes_of layout program budget) history
    × Tells layout (outcome (processes_of layout program budget) history) told

-- a list of events is judged in one way
abbrev pub JudgesInOneWay : Type 0
JudgesInOneWay =
    (layout : Arrangement) (program : Program) (budget : ℕ) (history : List SourceEvent) (a b : Option Outcome)
    → Judges layout program budget history a → Judges layout program budget history b → a ≡ b
