-- What a legal history shows of a node: its own events are the first requests of its run under the answers that the
-- history shows to it, and its end is that run's end. Each process' operations stand in the order of its program, as in
-- Lamport's sequential consistency ("How to make a multiprocessor computer that correctly executes multiprocess
-- programs", 1979).
use Rattle.std.specs.Prelude.{◌≡◌, ℕ, ◌+◌, ◌<◌, List, [], ◌∷◌, ◌++◌, length, Some, Bool, true, false, ◌==◌, if◌then◌else◌}
use Rattle.resumption.specs.Resumption.{RunEnd, Ends}
use Rattle.resumption.specs.Laws.{Extends}
use Rattle.sc_base.specs.declared.value.End.{End}
use Rattle.sc_base.specs.declared.value.Place.{Place}
use Rattle.sc_base.specs.declared.value.Value.{Value}
use Rattle.sc_meaning.specs.declared.request.Request.{Request}
use Rattle.sc_meaning.specs.declared.request.Request.TheVariants.{Read, Write, Sync as SyncRequest, Barrier, AllStoreSync}
use Rattle.sc_meaning.specs.declared.event.SourceEvent.{SourceEvent}
use Rattle.sc_meaning.specs.declared.event.SourceEvent.TheVariants.{Do, Issue, Effect, Sync, Arrive, Release, End as Over}
use Rattle.sc_meaning.specs.Asking.{Halt, Finishes}
use Rattle.sc_meaning.specs.Parts.{is_issued}
use Rattle.sc_meaning.specs.Past.{Processes, releases, made, ended, run_so_far}
use Rattle.sc_meaning.specs.History.{Legal}

-- the event is one of the node's own
abbrev pub is_own : ℕ → SourceEvent → Bool
is_own node (Do other request wrote place value) = other == node
is_own node (Issue other request) = other == node
is_own node (Sync other request) = other == node
is_own node (Arrive other request stores) = other == node
is_own node (Over other end) = other == node
is_own node (Effect other request cell wrote place value) = false
is_own node (Release number) = false

-- the node's own events, the oldest first
abbrev pub own : ℕ → List SourceEvent → List SourceEvent
own node [] = []
own node (event ∷ past) = if is_own node event then own node past ++ event ∷ [] else own node past

-- by the event the node makes its request of this number
pub data Makes (node number : ℕ) : SourceEvent → Request → Type 0 where
  reads : {place : Place} {value : Value} {line : ℕ}
      → Makes node number (Do node number false place value) (Read place line)
  writes : {place : Place} {value : Value} {line : ℕ}
      → Makes node number (Do node number true place value) (Write place value line)
  issues : {request : Request} → is_issued request ≡ true → Makes node number (Issue node number) request
  syncs : {line : ℕ} → Makes node number (Sync node number) (SyncRequest line)
  arrives : {line : ℕ} → Makes node number (Arrive node number false) (Barrier line)
  arrives_with_stores : {line : ℕ} → Makes node number (Arrive node number true) (AllStoreSync line)

-- By the events the node makes the first of these requests in order, of which the first has this number. An end stands
-- behind all of the requests, and is the end of their run.
pub data IsFront (node : ℕ) : (number : ℕ) → List SourceEvent → List Request → RunEnd Halt → Type 0 where
  so_far : {number : ℕ} {requests : List Request} {end : RunEnd Halt} → IsFront node number [] requests end
  makes : {number : ℕ} {event : SourceEvent} {events : List SourceEvent} {request : Request} {requests : List Request}
      {end : RunEnd Halt}
      → Makes node number event request → IsFront node (number + 1) events requests end
      → IsFront node number (event ∷ events) (request ∷ requests) end
  is_over : {number : ℕ} {end : End} → IsFront node number (Over node end ∷ []) [] (Ends (Finishes end))

-- the node's own events are a front of its run under the answers that the history shows
abbrev pub EventsAreAFront : Type 0
EventsAreAFront =
    (processes : Processes) (past : List SourceEvent) (node : ℕ) → Legal processes past
    → IsFront node 0 (own node past) (run_so_far processes node past).events (run_so_far processes node past).end

-- a node that has ended has made all requests of its run, and ended as that run does
pub record IsOver (processes : Processes) (past : List SourceEvent) (node : ℕ) (end : End) : Type 0 where
  pub all_made : made node past ≡ length (run_so_far processes node past).events
  pub over : (run_so_far processes node past).end ≡ Ends (Finishes end)

abbrev pub EndIsOfTheRun : Type 0
EndIsOfTheRun =
    (processes : Processes) (past : List SourceEvent) (node : ℕ) (end : End) → Legal processes past
    → ended node past ≡ Some end → IsOver processes past node end

-- further events only extend what a node requests and says, and leave it as it is where it has stopped
abbrev pub EventsExtend : Type 0
EventsExtend =
    (processes : Processes) (newer past : List SourceEvent) (node : ℕ)
    → Extends Request Halt (run_so_far processes node past) (run_so_far processes node (newer ++ past))

-- the event is one of these nodes'
abbrev pub IsOfNode : (nodes : ℕ) → SourceEvent → Type 0
IsOfNode nodes (Do node request wrote place value) = node < nodes
IsOfNode nodes (Issue node request) = node < nodes
IsOfNode nodes (Effect node request cell wrote place value) = node < nodes
IsOfNode nodes (Sync node request) = node < nodes
IsOfNode nodes (Arrive node request stores) = node < nodes
IsOfNode nodes (Over node end) = node < nodes
IsOfNode nodes (Release number) = Unit {0}

-- each event but a release is one of these nodes', and the releases count from 1
abbrev pub IsNumbered : (nodes : ℕ) → List SourceEvent → Type 0
IsNumbered nodes [] = Unit {0}
IsNumbered nodes (Release number ∷ past) = (number ≡ releases past + 1) × IsNumbered nodes past
IsNumbered nodes (event ∷ past) = IsOfNode nodes event × IsNumbered nodes past

abbrev pub EventsAreNumbered : Type 0
EventsAreNumbered =
    (processes : Processes) (past : List SourceEvent) → Legal processes past → IsNumbered processes.nodes past
