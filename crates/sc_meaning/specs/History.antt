-- Which lists of events are legal histories of a source: each node's own events are the requests of its run, in order,
-- each read shows the value last written, as in Lamport's sequential consistency ("How to make a multiprocessor
-- computer that correctly executes multiprocess programs", 1979), and the parts of issued transfers occur after their
-- issue and before what waits for them. A past is a list of events, the newest first.
use Rattle.std.specs.Prelude.{◌≡◌, ℕ, ◌+◌, ◌<◌, ◌≤◌, List, [], ◌∷◌, length, slice_get, Some, None, Bool, true, false}
use Rattle.sc_base.specs.declared.value.Value.{Value}
use Rattle.sc_base.specs.declared.value.Place.{Place}
use Rattle.sc_base.specs.declared.value.End.{End}
use Rattle.sc_base.specs.declared.value.End.TheVariants.{Waiting}
use Rattle.sc_meaning.specs.declared.request.Request.{Request}
use Rattle.sc_meaning.specs.declared.request.Request.TheVariants.{Read, Write, Sync as SyncRequest, Barrier, AllStoreSync}
use Rattle.sc_meaning.specs.declared.event.SourceEvent.{SourceEvent}
use Rattle.sc_meaning.specs.declared.event.SourceEvent.TheVariants.{Do, Issue, Effect, Sync, Arrive, Release, End as Over}
use Rattle.resumption.specs.Resumption.{Ends}
use Rattle.effect_order.specs.Transfer.{part_place, part_value, written, AllOccurred}
use Rattle.sc_meaning.specs.Asking.{Finishes}
use Rattle.sc_meaning.specs.Parts.{transfer_of, is_blocking_copy, is_split, is_one_way, is_issued}
use Rattle.sc_meaning.specs.Past.{Processes, effects, shown, releases, arrivals, stores_at, made, ended, run_so_far, request_at}

-- every part of the node's requests of this kind so far has occurred
abbrev pub AllDone : Processes → (Request → Bool) → ℕ → List SourceEvent → Type 0
AllDone processes kind node past =
    (number : ℕ) (request : Request) → request_at processes node number past ≡ Some request
    → kind request ≡ true
    → AllOccurred (transfer_of request) node number (effects past)

-- the node can do its next own event
pub record GoesOn (processes : Processes) (past : List SourceEvent) (node : ℕ) : Type 0 where
  pub node_within : node < processes.nodes
  -- its end is its last event
  pub running : ended node past ≡ None
  -- its blocking copies are over
  pub copies_done : AllDone processes is_blocking_copy node past
  -- each barrier at which it arrived is released
  pub released : arrivals node past ≤ releases past

-- the request is the node's next, and has this number
pub record IsNext (processes : Processes) (past : List SourceEvent) (node number : ℕ)
    (request : Request) : Type 0 where
  pub goes_on : GoesOn processes past node
  pub numbered : number ≡ made node past
  pub next : slice_get (run_so_far processes node past).events number ≡ Some request

-- a blocking read is the node's next request, and shows what the place holds
pub record ReadAllowed (processes : Processes) (past : List SourceEvent) (node number : ℕ) (place : Place)
    (value : Value) : Type 0 where
  pub line : ℕ
  pub is_next : IsNext processes past node number (Read place line)
  pub shows : value ≡ shown processes.start place past

-- a blocking write is the node's next request, with that request's value
pub record WriteAllowed (processes : Processes) (past : List SourceEvent) (node number : ℕ) (place : Place)
    (value : Value) : Type 0 where
  pub line : ℕ
  pub is_next : IsNext processes past node number (Write place value line)

-- any other transfer is issued where it is the node's next request
pub record IssueAllowed (processes : Processes) (past : List SourceEvent) (node number : ℕ) : Type 0 where
  pub request : Request
  pub is_next : IsNext processes past node number request
  pub issued : is_issued request ≡ true

-- A part of an issued transfer occurs once, at its place. A reading part shows what the place holds, and a writing part
-- writes the request's value or what its cell was read as, after that reading.
pub record EffectAllowed (processes : Processes) (past : List SourceEvent) (node number cell : ℕ) (wrote : Bool)
    (place : Place) (value : Value) : Type 0 where
  pub node_within : node < processes.nodes
  pub request : Request
  pub made_before : request_at processes node number past ≡ Some request
  pub issued : is_issued request ≡ true
  pub its_place : part_place (transfer_of request) cell wrote ≡ Some place
  pub once : part_value node number cell wrote (effects past) ≡ None
  pub reads : wrote ≡ false → value ≡ shown processes.start place past
  pub writes : wrote ≡ true → written (transfer_of request) node number cell (effects past) ≡ Some value

-- a sync follows all parts of the node's gets, puts and split copies
pub record SyncAllowed (processes : Processes) (past : List SourceEvent) (node number : ℕ) : Type 0 where
  pub line : ℕ
  pub is_next : IsNext processes past node number (SyncRequest line)
  pub all_done : AllDone processes is_split node past

abbrev pub barrier_of : (stores : Bool) → (line : ℕ) → Request
barrier_of true line = AllStoreSync line
barrier_of false line = Barrier line

pub record ArriveAllowed (processes : Processes) (past : List SourceEvent) (node number : ℕ)
    (stores : Bool) : Type 0 where
  pub line : ℕ
  pub is_next : IsNext processes past node number (barrier_of stores line)

-- the m-th release follows every node's m-th arrival, none of which gave up, and where one of them waits for stores
-- the parts of all stores and one-way copies
pub record ReleaseAllowed (processes : Processes) (past : List SourceEvent) (number : ℕ) : Type 0 where
  pub numbered : number ≡ releases past + 1
  pub all_arrived : (node : ℕ) → node < processes.nodes → number ≤ arrivals node past
  pub none_ended : (node : ℕ) → node < processes.nodes → ended node past ≡ None
  pub stores_done : stores_at number past ≡ true → (node : ℕ) → node < processes.nodes →
      AllDone processes is_one_way node past

-- a node ends after all its requests, as its run does
pub record EndAllowed (processes : Processes) (past : List SourceEvent) (node : ℕ) (end : End) : Type 0 where
  pub goes_on : GoesOn processes past node
  pub all_made : made node past ≡ length (run_so_far processes node past).events
  pub over : (run_so_far processes node past).end ≡ Ends (Finishes end)

-- a node ends as waiting at a barrier that was not released, where its run does so at a broken barrier
pub record WaitingAllowed (processes : Processes) (past : List SourceEvent) (node : ℕ) : Type 0 where
  pub node_within : node < processes.nodes
  pub running : ended node past ≡ None
  pub at_barrier : arrivals node past ≡ releases past + 1
  pub all_made : made node past ≡ length (run_so_far processes node (Over node Waiting ∷ past)).events
  pub over : (run_so_far processes node (Over node Waiting ∷ past)).end ≡ Ends (Finishes Waiting)

-- the event is allowed after these
abbrev pub Allowed : Processes → List SourceEvent → SourceEvent → Type 0
Allowed processes past (Do node request false place value) = ReadAllowed processes past node request place value
Allowed processes past (Do node request true place value) = WriteAllowed processes past node request place value
Allowed processes past (Issue node request) = IssueAllowed processes past node request
Allowed processes past (Effect node request cell wrote place value) =
    EffectAllowed processes past node request cell wrote place value
Allowed processes past (Sync node request) = SyncAllowed processes past node request
Allowed processes past (Arrive node request stores) = ArriveAllowed processes past node request stores
Allowed processes past (Release number) = ReleaseAllowed processes past number
Allowed processes past (Over node Waiting) = WaitingAllowed processes past node
Allowed processes past (Over node end) = EndAllowed processes past node end

-- each event is allowed after those before it
abbrev pub Legal : Processes → List SourceEvent → Type 0
Legal processes [] = Unit {0}
Legal processes (event ∷ past) = Allowed processes past event × Legal processes past
