-- What is kept answers each question that a legal history asks of the events before it, and goes on with each event.
use Rattle.std.specs.Prelude.{◌≡◌, ℕ, ◌+◌, ◌<◌, ◌≤◌, List, [], ◌∷◌, None, Bool, true, false}
use Rattle.std.specs.Bool.{Decides}
use Rattle.sc_base.specs.declared.value.CopyMode.{CopyMode}
use Rattle.sc_base.specs.declared.value.End.{End}
use Rattle.sc_base.specs.declared.value.Place.{Place}
use Rattle.sc_base.specs.declared.value.Value.{Value}
use Rattle.sc_meaning.specs.declared.request.Request.{Request}
use Rattle.sc_meaning.specs.declared.event.SourceEvent.{SourceEvent}
use Rattle.sc_meaning.specs.declared.event.SourceEvent.TheVariants.{Do, Issue, Effect, Sync, Arrive, Release, End as Over}
use Rattle.sc_meaning.specs.Parts.{is_issued}
use Rattle.sc_meaning.specs.Past.{Processes, effects, releases, arrivals, made, ended, issued_since, shown, got, gets_among}
use Rattle.sc_meaning.specs.History.{AllDone, GoesOn, EffectAllowed, ReleaseAllowed}
use Rattle.sc_meaning.specs.Whole.{Complete}
use Rattle.replay_books.specs.Row.{all_over, is_of, landing}
use Rattle.replay_books.specs.Tables.{TablesBook, fresh_tables, row_at, goes_on_at, may_release_in, stands_at}
use Rattle.replay_books.specs.Tables.{may_occur_in_tables, is_complete_in, with_made, with_occurred, with_sync}
use Rattle.replay_books.specs.Tables.{with_arrival, with_release, with_end}
use Rattle.replay_laws.specs.Keeps.{Keeps, KnowsAll, requests_of}

-- the node stands at a barrier that was not released
pub record Stands (nodes : ℕ) (past : List SourceEvent) (node : ℕ) : Type 0 where
  pub within : node < nodes
  pub running : ended node past ≡ None
  pub at_barrier : arrivals node past ≡ releases past + 1

module _ (processes : Processes) (past : List SourceEvent) (t : TablesBook) where
  pub record Answers : Type 0 where
    pub goes_on : (node : ℕ) → Decides (goes_on_at t node) (GoesOn processes past node)
    pub over : (mode : CopyMode) (node : ℕ) → node < processes.nodes
        → Decides (all_over mode (row_at t node)) (AllDone processes (is_of mode) node past)
    pub occurs : (node number cell : ℕ) (wrote : Bool) (place : Place) (value : Value)
        → Decides (may_occur_in_tables t node number cell wrote place value (shown processes.start place past))
        (EffectAllowed processes past node number cell wrote place value)
    pub lands : (node : ℕ) → node < processes.nodes
        → landing (row_at t node) ≡ got node (effects past)
        (gets_among (requests_of (row_at t node)) (issued_since node past))
    pub releases : (number : ℕ) → Decides (may_release_in t number) (ReleaseAllowed processes past number)
    pub stands : (node : ℕ) → Decides (stands_at t node) (Stands processes.nodes past node)
    pub completes : Decides (is_complete_in t) (Complete processes past)

abbrev pub BooksAnswer : Type 0
BooksAnswer = (processes : Processes) (past : List SourceEvent) (t : TablesBook) → KnowsAll processes past t
    → Answers processes past t

-- what is kept after an event that may come next. The request of the node's own event is the next that it makes.
pub record GoOn (nodes : ℕ) (past : List SourceEvent) (t : TablesBook) : Type 0 where
  pub done : (node : ℕ) (wrote : Bool) (place : Place) (value : Value) (request : Request)
      → node < nodes → is_issued request ≡ false
      → Keeps nodes (Do node (made node past) wrote place value ∷ past) (with_made t node request)
  pub issued : (node : ℕ) (request : Request) → node < nodes → is_issued request ≡ true
      → Keeps nodes (Issue node (made node past) ∷ past) (with_made t node request)
  pub occurred : (node number cell : ℕ) (wrote : Bool) (place : Place) (value shown : Value) → node < nodes
      → may_occur_in_tables t node number cell wrote place value shown ≡ true
      → Keeps nodes (Effect node number cell wrote place value ∷ past)
      (with_occurred t node number cell wrote value)
  pub synced : (node : ℕ) (request : Request) → node < nodes → is_issued request ≡ false
      → Keeps nodes (Sync node (made node past) ∷ past) (with_sync t node request)
  pub arrived : (node : ℕ) (request : Request) (stores : Bool) → node < nodes → is_issued request ≡ false
      → arrivals node past ≤ releases past
      → Keeps nodes (Arrive node (made node past) stores ∷ past) (with_arrival t node request stores)
  pub released : (number : ℕ) → ((node : ℕ) → node < nodes → releases past + 1 ≤ arrivals node past)
      → Keeps nodes (Release number ∷ past) (with_release t)
  pub ended : (node : ℕ) (end : End) → node < nodes → Keeps nodes (Over node end ∷ past) (with_end t node end)

pub record BooksGoOn : Type 0 where
  pub begins : (nodes : ℕ) → Keeps nodes [] (fresh_tables nodes)
  pub goes_on : (nodes : ℕ) (past : List SourceEvent) (t : TablesBook) → Keeps nodes past t → GoOn nodes past t
