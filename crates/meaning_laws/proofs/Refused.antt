-- Each condition refuses its event, by computation.
use Rattle.std.proofs.Common.{true, false, [], ◌∷◌, refl}
use Rattle.std.specs.Prelude.{take}
use Rattle.sc_base.specs.declared.value.End.TheVariants.{Ended, Cut, Waiting}
use Rattle.sc_base.specs.declared.value.Value.TheVariants.{Null}
use Rattle.sc_layout.specs.Layout.{cells_of}
use Rattle.sc_layout.specs.Place.{place_in}
use Rattle.sc_meaning.specs.declared.event.SourceEvent.TheVariants.{Do, Issue, Effect, Sync, Arrive, Release, End as Over}
use Rattle.meaning_laws.specs.ExampleSources.{exchange, copying, late_store, forsaking, meeting, misfitting}
use Rattle.meaning_laws.specs.ExampleHistories.{int, s0, s1, s2, s3, exchanged, copied, stored_late}
use Rattle.meaning_laws.specs.Refusals.{got_only, barging, restless, heedless, NodesGoOn, RequestsAreNext, PartsOccur, SyncsWait, ReleasesWait, EndsWait, NodesGiveUp, ConditionsRefuse}
use Rattle.meaning_laws.specs.Incomplete.{ConditionsAreNeeded}
use Rattle.meaning_laws.proofs.ByTest.{refuses_by, stops_by, unfinished_by, not_forsaken_by}

nodes_go_on : NodesGoOn
unfolding cells_of place_in
nodes_go_on = record {
  node_within = stops_by exchange [] (Issue 2 0) refl refl;
  running = stops_by exchange exchanged (Over 0 Ended) refl refl;
  copies_done = stops_by copying (take 6 copied) (Issue 0 2) refl refl;
  released = stops_by barging (Arrive 0 0 false ∷ []) (Over 0 Ended) refl refl;
}

requests_are_next : RequestsAreNext
unfolding cells_of place_in
requests_are_next = record {
  numbered = stops_by exchange [] (Issue 0 1) refl refl;
  read_place = stops_by exchange (take 12 exchanged) (Do 0 5 false s3 (int 0)) refl refl;
  read_shows = stops_by exchange (take 12 exchanged) (Do 0 5 false s2 (int 0)) refl refl;
  read_not_write = stops_by exchange (take 12 exchanged) (Do 0 5 true s2 (int 7)) refl refl;
  write_place = stops_by exchange (take 14 exchanged) (Do 1 2 true s1 (int 4)) refl refl;
  write_value = stops_by exchange (take 14 exchanged) (Do 1 2 true s0 (int 5)) refl refl;
  write_not_read = stops_by exchange (take 14 exchanged) (Do 1 2 false s0 (int 0)) refl refl;
  read_not_issued = stops_by exchange (take 12 exchanged) (Issue 0 5) refl refl;
  sync_not_issued = stops_by exchange (take 6 exchanged) (Issue 0 3) refl refl;
  put_no_sync = stops_by exchange [] (Sync 0 0) refl refl;
  arrival_without_stores = stops_by exchange (take 8 exchanged) (Arrive 1 1 false) refl refl;
  arrival_with_stores = stops_by exchange (take 9 exchanged) (Arrive 0 4 true) refl refl;
  misfit = stops_by misfitting (Do 0 0 true s0 Null ∷ Do 0 1 false s0 Null ∷ []) (Over 0 Ended) refl refl;
}

parts_occur : PartsOccur
unfolding cells_of place_in
parts_occur = record {
  node_within = refuses_by exchange (Issue 2 0 ∷ []) (Effect 2 0 0 true s2 (int 7)) refl;
  made_before = stops_by exchange [] (Effect 0 0 0 true s1 (int 5)) refl refl;
  issued = refuses_by misfitting (Issue 0 0 ∷ []) (Effect 0 0 0 true s0 Null) refl;
  its_place = stops_by exchange (take 3 exchanged) (Effect 0 0 0 true s2 (int 5)) refl refl;
  its_cell = stops_by exchange (take 3 exchanged) (Effect 0 0 1 true s3 (int 5)) refl refl;
  put_reads_nothing = stops_by exchange (take 3 exchanged) (Effect 0 0 0 false s1 (int 0)) refl refl;
  get_writes_nothing = stops_by exchange (take 3 exchanged) (Effect 0 1 0 true s3 (int 0)) refl refl;
  once = stops_by exchange (take 4 exchanged) (Effect 0 0 0 true s1 (int 5)) refl refl;
  reads = stops_by exchange (take 3 exchanged) (Effect 0 1 0 false s3 (int 1)) refl refl;
  writes = stops_by exchange (take 3 exchanged) (Effect 0 0 0 true s1 (int 6)) refl refl;
  copy_reads_first = stops_by copying (take 3 copied) (Effect 0 1 0 true s1 (int 0)) refl refl;
  copy_cells_apart = stops_by copying (take 3 copied) (Effect 0 1 1 false s0 (int 3)) refl refl;
  copy_writes_what_it_read = stops_by copying (take 5 copied) (Effect 0 1 0 true s1 (int 0)) refl refl;
}

syncs_wait : SyncsWait
unfolding cells_of place_in
syncs_wait = record {
  get = stops_by exchange (take 5 exchanged) (Sync 0 3) refl refl;
  put = stops_by exchange got_only (Sync 0 3) refl refl;
  split_copy = stops_by copying (take 9 copied) (Sync 0 3) refl refl;
}

releases_wait : ReleasesWait
unfolding cells_of place_in
releases_wait = record {
  numbered = stops_by exchange (take 12 exchanged) (Release 1) refl refl;
  all_arrived = stops_by meeting (Arrive 0 0 false ∷ []) (Release 1) refl refl;
  none_ended = stops_by meeting (Arrive 0 0 false ∷ Arrive 1 0 false ∷ Over 0 Waiting ∷ []) (Release 1) refl refl;
  stores_done = stops_by exchange (take 10 exchanged) (Release 1) refl refl;
  one_way_copies_done = stops_by copying (take 14 copied) (Release 1) refl refl;
}

ends_wait : EndsWait
unfolding cells_of place_in
ends_wait = record {
  all_made = stops_by forsaking [] (Over 1 Ended) refl refl;
  over = stops_by exchange (take 13 exchanged) (Over 0 Cut) refl refl;
}

nodes_give_up : NodesGiveUp
unfolding cells_of place_in
nodes_give_up = record {
  node_within = refuses_by meeting (Arrive 2 0 false ∷ []) (Over 2 Waiting) refl;
  running = stops_by meeting (Arrive 0 0 false ∷ Over 0 Waiting ∷ []) (Over 0 Waiting) refl refl;
  at_barrier = refuses_by forsaking (Issue 0 0 ∷ []) (Over 0 Waiting) refl;
  all_made = stops_by restless (Arrive 0 0 false ∷ []) (Over 0 Waiting) refl refl;
  over = stops_by heedless (Arrive 0 0 false ∷ []) (Over 0 Waiting) refl refl;
}

pub conditions_refuse : ConditionsRefuse
conditions_refuse = record {
  nodes_go_on = nodes_go_on;
  requests_are_next = requests_are_next;
  parts_occur = parts_occur;
  syncs_wait = syncs_wait;
  releases_wait = releases_wait;
  ends_wait = ends_wait;
  nodes_give_up = nodes_give_up;
}

pub conditions_are_needed : ConditionsAreNeeded
unfolding cells_of place_in
conditions_are_needed = record {
  all_ended = unfinished_by exchange (take 15 exchanged) refl refl;
  put_done = unfinished_by forsaking (Arrive 0 0 false ∷ Issue 1 0 ∷ Over 1 Ended ∷ Over 0 Waiting ∷ []) refl refl;
  store_done = unfinished_by late_store (take 6 stored_late) refl refl;
  forsaken = unfinished_by meeting (Arrive 0 0 false ∷ Arrive 1 0 false ∷ Over 0 Waiting ∷ Over 1 Waiting ∷ []) refl refl;
  at_barrier = not_forsaken_by (Arrive 0 0 false ∷ Arrive 0 0 false ∷ Over 1 Ended ∷ []) refl;
  other_within = not_forsaken_by (Arrive 0 0 false ∷ Over 2 Ended ∷ []) refl;
  gone = not_forsaken_by (Arrive 0 0 false ∷ []) refl;
  not_waiting = not_forsaken_by (Arrive 0 0 false ∷ Over 1 Waiting ∷ []) refl;
  fewer = not_forsaken_by (Arrive 0 0 false ∷ Arrive 1 0 false ∷ Over 1 Ended ∷ []) refl;
}
