-- How far a list of events that is read has led: each event was allowed, as in Lamport's sequential consistency
-- (1979), what is kept answers for them, and each node stands where their answers have led it. A past has the newest
-- event first.
use Rattle.std.specs.Prelude.{◌≡◌, ℕ, ◌<◌, ◌≤◌, List, [], ◌∷◌, ◌++◌, Some, None, true}
use Rattle.resumption.specs.Resumption.{next_event}
use Rattle.sc_base.specs.declared.value.Place.{Place}
use Rattle.sc_base.specs.declared.value.Value.{Value}
use Rattle.sc_meaning.specs.declared.request.Request.{Request}
use Rattle.sc_meaning.specs.declared.event.SourceEvent.{SourceEvent}
use Rattle.sc_meaning.specs.Asking.{SourceDoing}
use Rattle.sc_meaning.specs.Past.{Processes, shown, releases, arrivals, ended, answers}
use Rattle.sc_meaning.specs.History.{Legal}
use Rattle.sc_meaning.specs.Whole.{Complete}
use Rattle.replay_books.specs.Row.{RowBook}
use Rattle.replay_books.specs.Tables.{TablesBook, row_at}
use Rattle.replay_laws.specs.Keeps.{Keeps, requests_of}
use Rattle.replay_laws.specs.Laws.{Stands}
use Rattle.replay_stages.specs.Courses.{Course}
use Rattle.sc_meaning.specs.Answering.{is_answered}

-- what a node printed, and what it does from there on
pub record Front : Type 0 where
  pub text : List ℕ
  pub rest : SourceDoing

module _ (processes : Processes) (node : ℕ) (past : List SourceEvent) (row : RowBook) (f : Front) where
  -- the node has made all requests of its row
  abbrev pub HasMade : Type 0
  HasMade = Course (processes.starts node) (answers processes node past) (requests_of row) f.text f.rest

  -- the node has asked for the last of them, and has no answer
  pub record Waits : Type 0 where
    pub before : List Request
    pub last : Request
    pub all : requests_of row ≡ before ++ last ∷ []
    pub course : Course (processes.starts node) (answers processes node past) before f.text f.rest
    pub next : next_event f.rest ≡ Some last
    pub answered : is_answered last ≡ true

  pub record NodeAt : Type 0 where
    pub free : (ended node past ≡ None → arrivals node past ≤ releases past) → HasMade
    pub waits : Stands processes.nodes past node → Waits

pub record Stage (processes : Processes) (past : List SourceEvent) (t : TablesBook) (shows : Place → Value)
    (fronts : ℕ → Front) : Type 0 where
  pub legal : Legal processes past
  pub keeps : Keeps processes.nodes past t
  pub cells : (place : Place) → shows place ≡ shown processes.start place past
  pub at : (node : ℕ) → node < processes.nodes → NodeAt processes node past (row_at t node) (fronts node)

-- no legal and complete history goes on from here
abbrev pub IsDoomed : Processes → List SourceEvent → Type 0
IsDoomed processes past = (later : List SourceEvent) → Legal processes (later ++ past) →
    Complete processes (later ++ past) → ⊥
