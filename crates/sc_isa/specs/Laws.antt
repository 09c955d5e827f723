-- Laws of the code's run.
use Rattle.std.specs.Prelude.{◌≡◌, ◌≢◌, ◌↔◌, ℕ, ◌<◌, ◌≤◌, true, List}
use Rattle.std.specs.List.{All}
use Rattle.resumption.specs.Resumption.{Ends, RunOf, run_of}
use Rattle.sc_base.specs.declared.value.Place.{Place}
use Rattle.sc_base.specs.declared.value.Value.{Value}
use Rattle.sc_layout.specs.Layout.{Arrangement}
use Rattle.sc_layout.specs.Place.{Fits}
use Rattle.sc_isa.specs.declared.access.Access.{Access}
use Rattle.sc_isa.specs.declared.access.Access.TheVariants.{Read, Write, Copy}
use Rattle.sc_isa.specs.declared.access.Track.{Track}
use Rattle.sc_isa.specs.declared.access.Track.TheVariants.{Counter}
use Rattle.sc_isa.specs.declared.code.Code.{Code}
use Rattle.sc_isa.specs.Fitting.{fits}
use Rattle.sc_isa.specs.State.{State}
use Rattle.sc_isa.specs.Run.{Ask, Issue, Wait, Answer, Halt, Stuck, UsedUp, asks_from, code_run}
use Rattle.sc_isa.specs.Sound.{IsPlaced, IsSound}

-- a run that has not used up its instructions does the same with more of them
abbrev pub MoreChangesNothing : Type 0
MoreChangesNothing =
    (code : Code) (layout : Arrangement) (node few many : ℕ) (s : State) (answers : List Answer)
    → few ≤ many → (run_of (asks_from code layout node few s) answers).end ≢ Ends UsedUp
    → run_of (asks_from code layout node many s) answers ≡ run_of (asks_from code layout node few s) answers

-- there is a number of instructions from which nothing changes, whatever is answered
pub record Settles (code : Code) (layout : Arrangement) (node budget : ℕ) : Type 0 where
  pub many : ℕ
  pub known : (answers : List Answer) → (code_run code layout node budget many answers).end ≢ Ends UsedUp
  pub same : (more : ℕ) (answers : List Answer) → many ≤ more → code_run code layout node budget more answers
      ≡ code_run code layout node budget many answers

abbrev pub SoundCodeSettles : Type 0
SoundCodeSettles =
    (code : Code) (layout : Arrangement) (node budget : ℕ) → IsSound code layout → node < layout.nodes
    → Settles code layout node budget

abbrev pub IsPlacedAsk : Arrangement → Ask → Type 0
IsPlacedAsk layout (Issue access) = IsPlaced layout access
IsPlacedAsk layout _ = Unit {0}

-- never stuck, and each access that is asked lies in the layout
pub record RunsSoundly (layout : Arrangement) (run : RunOf Ask Halt) : Type 0 where
  pub not_stuck : run.end ≢ Ends Stuck
  pub placed : All (IsPlacedAsk layout) run.events

abbrev pub SoundCodeRunsSoundly : Type 0
SoundCodeRunsSoundly =
    (code : Code) (layout : Arrangement) (node budget many : ℕ) (answers : List Answer)
    → IsSound code layout → node < layout.nodes →
    RunsSoundly layout (code_run code layout node budget many answers)

abbrev pub HasCounter : Code → Track → Type 0
HasCounter code (Counter counter) = counter ≤ code.sites
HasCounter code _ = Unit {0}

abbrev pub track_of : Access → Track
track_of (Read place track) = track
track_of (Write place value track) = track
track_of (Copy from to cells track) = track

-- the ask names no counter that the code does not have
abbrev pub IsOfCode : Code → Ask → Type 0
IsOfCode code (Issue access) = HasCounter code (track_of access)
IsOfCode code (Wait counter) = counter ≤ code.sites
IsOfCode code _ = Unit {0}

abbrev pub AsksForItsCounters : Type 0
AsksForItsCounters =
    (code : Code) (layout : Arrangement) (node budget many : ℕ) (answers : List Answer)
    → All (IsOfCode code) (code_run code layout node budget many answers).events

-- the test of a value is exact
abbrev pub FitsIsExact : Type 0
FitsIsExact = (layout : Arrangement) (place : Place) (value : Value)
    → (fits layout place value ≡ true) ↔ Fits layout place value
