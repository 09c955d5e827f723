-- A stage goes on with each event that may come next and whose answer fits, and no legal and complete history with any
-- other.
use Rattle.std.specs.Prelude.{◌≡◌, ℕ, ◌<◌, List, [], ◌∷◌, ◌++◌, Option, Some, None, Bool, true, false, ◌==◌, ◌&&◌, if◌then◌else◌}
use Rattle.std.specs.Option.{option_map_or}
use Rattle.resumption.specs.Resumption.{next_event}
use Rattle.sc_base.specs.declared.value.End.{End}
use Rattle.sc_base.specs.declared.value.End.TheVariants.{Waiting}
use Rattle.sc_base.specs.declared.value.Place.{Place}
use Rattle.sc_base.specs.declared.value.Value.{Value}
use Rattle.effect_order.specs.Effect.{same_place, same_value}
use Rattle.sc_meaning.specs.declared.request.Request.{Request}
use Rattle.sc_meaning.specs.declared.event.SourceEvent.{SourceEvent}
use Rattle.sc_meaning.specs.declared.event.SourceEvent.TheVariants.{Do, Issue, Effect, Sync, Arrive, Release, End as Over}
use Rattle.sc_meaning.specs.Asking.{Answer, Shown, Landed, Passed, Broken, Halt, Finishes, Breaks}
use Rattle.sc_meaning.specs.Parts.{is_issued}
use Rattle.sc_meaning.specs.Past.{Processes, answers}
use Rattle.sc_meaning.specs.Test.{same_end, is_read_of, is_write_of, is_sync, is_barrier}
use Rattle.replay_books.specs.Row.{landing}
use Rattle.replay_books.specs.Tables.{TablesBook, row_at, goes_on_at, made_at, split_over, may_occur_in_tables, may_release_in}
use Rattle.replay_books.specs.Tables.{stands_at, fresh_tables, with_made, with_occurred, with_sync, with_arrival, with_release, with_end}
use Rattle.replay_laws.specs.Keeps.{requests_of}
use Rattle.replay_stages.specs.Courses.{Course, stop_of, IsStuck}
use Rattle.replay_stages.specs.Stage.{Front, HasMade, Waits, Stage, IsDoomed}

-- ---- which events may come next, by what is kept and where the nodes stand

abbrev pub next_in : TablesBook → (ℕ → Front) → (node number : ℕ) → Option Request
next_in t fronts node number =
    if goes_on_at t node && (made_at t node == number) then next_event (fronts node).rest else None

abbrev pub is_read_now : (Place → Value) → Place → Value → Request → Bool
is_read_now shows place value r = is_read_of place r && same_value value (shows place)

abbrev pub ends_now : End → Option Halt → Bool
ends_now end (Some (Finishes other)) = same_end end other
ends_now end (Some Breaks) = false
ends_now end None = false

abbrev pub may : TablesBook → (ℕ → Front) → (Place → Value) → SourceEvent → Bool
may t fronts shows (Do node number false place value) =
    option_map_or (is_read_now shows place value) (next_in t fronts node number) false
may t fronts shows (Do node number true place value) =
    option_map_or (is_write_of place value) (next_in t fronts node number) false
may t fronts shows (Issue node number) = option_map_or is_issued (next_in t fronts node number) false
may t fronts shows (Effect node number cell wrote place value) =
    may_occur_in_tables t node number cell wrote place value (shows place)
may t fronts shows (Sync node number) = option_map_or is_sync (next_in t fronts node number) false && split_over t node
may t fronts shows (Arrive node number stores) = option_map_or (is_barrier stores) (next_in t fronts node number) false
may t fronts shows (Release number) = may_release_in t number
may t fronts shows (Over node Waiting) = stands_at t node
may t fronts shows (Over node end) = goes_on_at t node && ends_now end (stop_of (fronts node).rest)

-- ---- how a stage goes on

abbrev pub with_front : (ℕ → Front) → ℕ → Front → ℕ → Front
with_front fronts node f n = if node == n then f else fronts n

-- what places show after a write
abbrev pub written_to : (Place → Value) → Place → Value → Place → Value
written_to shows place value other = if same_place place other then value else shows other

abbrev pub shows_after : (wrote : Bool) → (Place → Value) → Place → Value → Place → Value
shows_after wrote shows place value other = if wrote then written_to shows place value other else shows other

module _ (processes : Processes) (past : List SourceEvent) (t : TablesBook) (shows : Place → Value)
    (fronts : ℕ → Front) where
  -- the node got these answers more, and has made the requests of its row, and so it stands
  abbrev pub Stood : (node : ℕ) → (given : List Answer) → Front → Type 0
  Stood node given f =
      Course (processes.starts node) (answers processes node past ++ given) (requests_of (row_at t node)) f.text f.rest

  -- so it does when it has made one request more
  abbrev pub StoodPast : (node : ℕ) → (given : List Answer) → (request : Request) → Front → Type 0
  StoodPast node given request f =
      Course (processes.starts node) (answers processes node past ++ given)
      (requests_of (row_at t node) ++ request ∷ [])
      f.text f.rest

  pub record GoesOn : Type 0 where
    -- an event that may not come dooms the history, but for an end as waiting, of which more is to be seen
    pub refused : (event : SourceEvent) → may t fronts shows event ≡ false → IsDoomed processes (event ∷ past)
    -- a node that goes on has made the requests of its row, and one that stands at a barrier waits
    pub free : (node : ℕ) → goes_on_at t node ≡ true → HasMade processes node past (row_at t node) (fronts node)
    pub waiting : (node : ℕ) → stands_at t node ≡ true → Waits processes node past (row_at t node) (fronts node)
    pub stuck : (node : ℕ) (event : SourceEvent) (answer : Answer) → node < processes.nodes
        → answers processes node (event ∷ past) ≡ answers processes node past ++ answer ∷ []
        → IsStuck (processes.starts node) (answers processes node past ++ answer ∷ [])
        → IsDoomed processes (event ∷ past)
    pub read : (node number : ℕ) (place : Place) (value : Value) (r : Request) (f : Front)
        → next_in t fronts node number ≡ Some r → is_read_now shows place value r ≡ true
        → StoodPast node (Shown value ∷ []) r f
        → Stage processes (Do node number false place value ∷ past) (with_made t node r) shows
        (with_front fronts node f)
    pub wrote : (node number : ℕ) (place : Place) (value : Value) (r : Request) (f : Front)
        → next_in t fronts node number ≡ Some r → is_write_of place value r ≡ true
        → StoodPast node [] r f
        → Stage processes (Do node number true place value ∷ past) (with_made t node r)
        (written_to shows place value)
        (with_front fronts node f)
    pub issued : (node number : ℕ) (r : Request) (f : Front)
        → next_in t fronts node number ≡ Some r → is_issued r ≡ true → StoodPast node [] r f
        → Stage processes (Issue node number ∷ past) (with_made t node r) shows (with_front fronts node f)
    pub occurred : (node number cell : ℕ) (wrote : Bool) (place : Place) (value : Value)
        → may_occur_in_tables t node number cell wrote place value (shows place) ≡ true
        → Stage processes (Effect node number cell wrote place value ∷ past)
        (with_occurred t node number cell wrote value)
        (shows_after wrote shows place value) fronts
    pub synced : (node number : ℕ) (r : Request) (f : Front)
        → next_in t fronts node number ≡ Some r → is_sync r ≡ true → split_over t node ≡ true
        → StoodPast node (Landed (landing (row_at t node)) ∷ []) r f
        → Stage processes (Sync node number ∷ past) (with_sync t node r) shows (with_front fronts node f)
    pub sync_answer : (node number : ℕ) (r : Request) → next_in t fronts node number ≡ Some r
        → answers processes node (Sync node number ∷ past)
        ≡ answers processes node past ++ Landed (landing (row_at t node)) ∷ []
    pub arrived : (node number : ℕ) (stores : Bool) (r : Request)
        → next_in t fronts node number ≡ Some r → is_barrier stores r ≡ true
        → Stage processes (Arrive node number stores ∷ past) (with_arrival t node r stores) shows fronts
    pub released : (number : ℕ) (after : ℕ → Front) → may_release_in t number ≡ true
        → ((node : ℕ) → node < processes.nodes
        → Stood node (Passed ∷ []) (after node))
        → Stage processes (Release number ∷ past) (with_release t) shows after
    pub release_answer : (node number : ℕ) → node < processes.nodes → may_release_in t number ≡ true
        → answers processes node (Release number ∷ past) ≡ answers processes node past ++ Passed ∷ []
    pub ended : (node : ℕ) (end : End) → may t fronts shows (Over node end) ≡ true → (end ≡ Waiting → ⊥)
        → Stage processes (Over node end ∷ past) (with_end t node end) shows fronts
    pub gave_up : (node : ℕ) (f : Front) → stands_at t node ≡ true → Stood node (Broken ∷ []) f
        → stop_of f.rest ≡ Some (Finishes Waiting)
        → Stage processes (Over node Waiting ∷ past) (with_end t node Waiting) shows (with_front fronts node f)
    pub not_given_up : (node : ℕ) (f : Front) → stands_at t node ≡ true → Stood node (Broken ∷ []) f
        → ends_now Waiting (stop_of f.rest) ≡ false → IsDoomed processes (Over node Waiting ∷ past)

pub record StagesGoOn : Type 0 where
  pub begins : (processes : Processes) (fronts : ℕ → Front)
      → ((node : ℕ) → node < processes.nodes
      → Course (processes.starts node) [] [] (fronts node).text (fronts node).rest)
      → Stage processes [] (fresh_tables processes.nodes) processes.start fronts
  pub goes_on : (processes : Processes) (past : List SourceEvent) (t : TablesBook) (shows : Place → Value)
      (fronts : ℕ → Front) → Stage processes past t shows fronts → GoesOn processes past t shows fronts
