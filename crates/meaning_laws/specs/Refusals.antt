-- For each condition of a legal history an event that it alone refuses, after the first events of the small sources'
-- histories.
use Rattle.std.specs.Prelude.{true, false, List, [], ◌∷◌, ◌++◌, take, reverse}
use Rattle.resumption.specs.Resumption.{Asks, Makes, Stops}
use Rattle.sc_base.specs.declared.value.End.TheVariants.{Ended, Cut, Waiting}
use Rattle.sc_base.specs.declared.value.Value.TheVariants.{Null}
use Rattle.sc_layout.specs.Start.{start}
use Rattle.sc_meaning.specs.declared.request.Request.TheVariants.{Put, Barrier}
use Rattle.sc_meaning.specs.declared.event.SourceEvent.{SourceEvent}
use Rattle.sc_meaning.specs.declared.event.SourceEvent.TheVariants.{Do, Issue, Effect, Sync, Arrive, Release, End as Over}
use Rattle.sc_meaning.specs.Asking.{SourceDoing, Finishes, fits_barrier}
use Rattle.sc_meaning.specs.Past.{Processes}
use Rattle.sc_meaning.specs.History.{Allowed, Legal}
use Rattle.meaning_laws.specs.ExampleSources.{layout, exchange, copying, forsaking, meeting, misfitting}
use Rattle.meaning_laws.specs.ExampleHistories.{int, s0, s1, s2, s3, exchanged, copied}

abbrev pub Refuses : Processes → (history : List SourceEvent) → SourceEvent → Type 0
Refuses processes history event = Allowed processes (reverse history) event → ⊥

-- the history is legal, and can't go on by the event
pub record StopsBefore (processes : Processes) (history : List SourceEvent) (event : SourceEvent) : Type 0 where
  pub legal : Legal processes (reverse history)
  pub refused : Refuses processes history event

-- two nodes of which each does this
abbrev pub both : SourceDoing → Processes
both doing = record { nodes = 2; start = start layout; starts = λ node. doing }

-- processes that no source makes: one does not wait at its barrier; of two that find it broken, one goes on, and one
-- ends otherwise than as waiting
abbrev pub barging : Processes
barging = both (Makes (Barrier 1) (Stops (Finishes Ended)))

abbrev pub restless : Processes
restless = both (Asks (Barrier 1) fits_barrier (λ answer. Makes (Put s0 (int 1) 1) (Stops (Finishes Waiting))))

abbrev pub heedless : Processes
heedless = both (Asks (Barrier 1) fits_barrier (λ answer. Stops (Finishes Ended)))

pub record NodesGoOn : Type 0 where
  pub node_within : StopsBefore exchange [] (Issue 2 0)
  pub running : StopsBefore exchange exchanged (Over 0 Ended)
  pub copies_done : StopsBefore copying (take 6 copied) (Issue 0 2)
  pub released : StopsBefore barging (Arrive 0 0 false ∷ []) (Over 0 Ended)

pub record RequestsAreNext : Type 0 where
  pub numbered : StopsBefore exchange [] (Issue 0 1)
  pub read_place : StopsBefore exchange (take 12 exchanged) (Do 0 5 false s3 (int 0))
  pub read_shows : StopsBefore exchange (take 12 exchanged) (Do 0 5 false s2 (int 0))
  pub read_not_write : StopsBefore exchange (take 12 exchanged) (Do 0 5 true s2 (int 7))
  pub write_place : StopsBefore exchange (take 14 exchanged) (Do 1 2 true s1 (int 4))
  pub write_value : StopsBefore exchange (take 14 exchanged) (Do 1 2 true s0 (int 5))
  pub write_not_read : StopsBefore exchange (take 14 exchanged) (Do 1 2 false s0 (int 0))
  pub read_not_issued : StopsBefore exchange (take 12 exchanged) (Issue 0 5)
  pub sync_not_issued : StopsBefore exchange (take 6 exchanged) (Issue 0 3)
  pub put_no_sync : StopsBefore exchange [] (Sync 0 0)
  pub arrival_without_stores : StopsBefore exchange (take 8 exchanged) (Arrive 1 1 false)
  pub arrival_with_stores : StopsBefore exchange (take 9 exchanged) (Arrive 0 4 true)
  -- an answer that does not fit is none
  pub misfit : StopsBefore misfitting (Do 0 0 true s0 Null ∷ Do 0 1 false s0 Null ∷ []) (Over 0 Ended)

pub record PartsOccur : Type 0 where
  pub node_within : Refuses exchange (Issue 2 0 ∷ []) (Effect 2 0 0 true s2 (int 7))
  pub made_before : StopsBefore exchange [] (Effect 0 0 0 true s1 (int 5))
  pub issued : Refuses misfitting (Issue 0 0 ∷ []) (Effect 0 0 0 true s0 Null)
  pub its_place : StopsBefore exchange (take 3 exchanged) (Effect 0 0 0 true s2 (int 5))
  pub its_cell : StopsBefore exchange (take 3 exchanged) (Effect 0 0 1 true s3 (int 5))
  pub put_reads_nothing : StopsBefore exchange (take 3 exchanged) (Effect 0 0 0 false s1 (int 0))
  pub get_writes_nothing : StopsBefore exchange (take 3 exchanged) (Effect 0 1 0 true s3 (int 0))
  pub once : StopsBefore exchange (take 4 exchanged) (Effect 0 0 0 true s1 (int 5))
  pub reads : StopsBefore exchange (take 3 exchanged) (Effect 0 1 0 false s3 (int 1))
  pub writes : StopsBefore exchange (take 3 exchanged) (Effect 0 0 0 true s1 (int 6))
  pub copy_reads_first : StopsBefore copying (take 3 copied) (Effect 0 1 0 true s1 (int 0))
  pub copy_cells_apart : StopsBefore copying (take 3 copied) (Effect 0 1 1 false s0 (int 3))
  pub copy_writes_what_it_read : StopsBefore copying (take 5 copied) (Effect 0 1 0 true s1 (int 0))

-- both gets have read before the put has written
abbrev pub got_only : List SourceEvent
got_only = take 3 exchanged ++ Effect 0 2 0 false s1 (int 0) ∷ Effect 0 1 0 false s3 (int 0) ∷ []

pub record SyncsWait : Type 0 where
  pub get : StopsBefore exchange (take 5 exchanged) (Sync 0 3)
  pub put : StopsBefore exchange got_only (Sync 0 3)
  pub split_copy : StopsBefore copying (take 9 copied) (Sync 0 3)

pub record ReleasesWait : Type 0 where
  pub numbered : StopsBefore exchange (take 12 exchanged) (Release 1)
  pub all_arrived : StopsBefore meeting (Arrive 0 0 false ∷ []) (Release 1)
  pub none_ended : StopsBefore meeting (Arrive 0 0 false ∷ Arrive 1 0 false ∷ Over 0 Waiting ∷ []) (Release 1)
  pub stores_done : StopsBefore exchange (take 10 exchanged) (Release 1)
  pub one_way_copies_done : StopsBefore copying (take 14 copied) (Release 1)

pub record EndsWait : Type 0 where
  pub all_made : StopsBefore forsaking [] (Over 1 Ended)
  pub over : StopsBefore exchange (take 13 exchanged) (Over 0 Cut)

pub record NodesGiveUp : Type 0 where
  pub node_within : Refuses meeting (Arrive 2 0 false ∷ []) (Over 2 Waiting)
  pub running : StopsBefore meeting (Arrive 0 0 false ∷ Over 0 Waiting ∷ []) (Over 0 Waiting)
  pub at_barrier : Refuses forsaking (Issue 0 0 ∷ []) (Over 0 Waiting)
  pub all_made : StopsBefore restless (Arrive 0 0 false ∷ []) (Over 0 Waiting)
  pub over : StopsBefore heedless (Arrive 0 0 false ∷ []) (Over 0 Waiting)

pub record ConditionsRefuse : Type 0 where
  pub nodes_go_on : NodesGoOn
  pub requests_are_next : RequestsAreNext
  pub parts_occur : PartsOccur
  pub syncs_wait : SyncsWait
  pub releases_wait : ReleasesWait
  pub ends_wait : EndsWait
  pub nodes_give_up : NodesGiveUp
