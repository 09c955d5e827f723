-- Whole histories of the small sources, and what they show in the end.
use Rattle.std.specs.Prelude.{◌≡◌, ℕ, pos, true, false, codes, Some, List, [], ◌∷◌}
use Rattle.sc_base.specs.declared.value.End.TheVariants.{Ended, Waiting}
use Rattle.sc_base.specs.declared.value.Place.{Place}
use Rattle.sc_base.specs.declared.value.Value.{Value}
use Rattle.sc_base.specs.declared.value.Value.TheVariants.{Int}
use Rattle.sc_isa.specs.Printing.{formatted}
use Rattle.sc_meaning.specs.declared.event.SourceEvent.{SourceEvent}
use Rattle.sc_meaning.specs.declared.event.SourceEvent.TheVariants.{Do, Issue, Effect, Sync, Arrive, Release, End as Over}
use Rattle.sc_meaning.specs.Whole.{IsHistory, outcome}
use Rattle.meaning_laws.specs.ExampleSources.{exchange, copying, late_store, forsaking}

abbrev pub int : ℕ → Value
int n = Int (pos n)

-- the places of s[0] and s[2], and of s[1] and s[3]
abbrev pub s0 : Place
s0 = record { object = 0; node = 0; offset = 0 }

abbrev pub s1 : Place
s1 = record { object = 0; node = 1; offset = 0 }

abbrev pub s2 : Place
s2 = record { object = 0; node = 0; offset = 1 }

abbrev pub s3 : Place
s3 = record { object = 0; node = 1; offset = 1 }

-- ---- a put, two gets that read in another order than they were issued, a sync, a store, a barrier, a read and a write

abbrev pub exchanged : List SourceEvent
exchanged =
    Issue 0 0 ∷ Issue 0 1 ∷ Issue 0 2
    ∷ Effect 0 0 0 true s1 (int 5) ∷ Effect 0 2 0 false s1 (int 5) ∷ Effect 0 1 0 false s3 (int 0)
    ∷ Sync 0 3 ∷ Issue 1 0 ∷ Arrive 1 1 true ∷ Arrive 0 4 false
    ∷ Effect 1 0 0 true s2 (int 7) ∷ Release 1
    ∷ Do 0 5 false s2 (int 7) ∷ Over 0 Ended ∷ Do 1 2 true s0 (int 4) ∷ Over 1 Ended ∷ []

pub record ExchangeHolds : Type 0 where
  pub whole : IsHistory exchange exchanged
  pub ended : (outcome exchange exchanged).ends 0 ≡ Some Ended
  -- the values of the gets land in order of issue
  pub printed : (outcome exchange exchanged).texts 0 ≡ formatted (codes "%d%d") (pos 0 ∷ pos 5 ∷ [])
  pub put : (outcome exchange exchanged).memory s1 ≡ int 5
  pub stored : (outcome exchange exchanged).memory s2 ≡ int 7
  pub wrote : (outcome exchange exchanged).memory s0 ≡ int 4
  pub untouched : (outcome exchange exchanged).memory s3 ≡ int 0

-- ---- copies in each way, their cells in any order

abbrev pub copied : List SourceEvent
copied =
    Arrive 1 0 true ∷ Do 0 0 true s0 (int 3)
    ∷ Issue 0 1 ∷ Effect 0 1 1 false s2 (int 0) ∷ Effect 0 1 0 false s0 (int 3)
    ∷ Effect 0 1 0 true s1 (int 3) ∷ Effect 0 1 1 true s3 (int 0)
    ∷ Issue 0 2 ∷ Effect 0 2 0 false s1 (int 3) ∷ Effect 0 2 0 true s2 (int 3) ∷ Sync 0 3
    ∷ Issue 0 4 ∷ Arrive 0 5 true ∷ Effect 0 4 0 false s0 (int 3) ∷ Effect 0 4 0 true s3 (int 3)
    ∷ Release 1 ∷ Over 1 Ended ∷ Over 0 Ended ∷ []

pub record CopyingHolds : Type 0 where
  pub whole : IsHistory copying copied
  pub blocking : (outcome copying copied).memory s1 ≡ int 3
  pub split : (outcome copying copied).memory s2 ≡ int 3
  pub one_way : (outcome copying copied).memory s3 ≡ int 3

-- ---- a store that takes effect after the barrier, which does not wait for it, and after both ends

abbrev pub stored_late : List SourceEvent
stored_late =
    Issue 0 0 ∷ Arrive 0 1 false ∷ Arrive 1 0 false ∷ Release 1 ∷ Over 0 Ended ∷ Over 1 Ended
    ∷ Effect 0 0 0 true s1 (int 9) ∷ []

pub record LateStoreHolds : Type 0 where
  pub whole : IsHistory late_store stored_late
  pub stored : (outcome late_store stored_late).memory s1 ≡ int 9

-- ---- a barrier that another node never reaches, and a put without a sync

abbrev pub forsaken : List SourceEvent
forsaken = Arrive 0 0 false ∷ Issue 1 0 ∷ Over 1 Ended ∷ Effect 1 0 0 true s0 (int 6) ∷ Over 0 Waiting ∷ []

pub record ForsakingHolds : Type 0 where
  pub whole : IsHistory forsaking forsaken
  pub waits : (outcome forsaking forsaken).ends 0 ≡ Some Waiting
  pub put : (outcome forsaking forsaken).memory s0 ≡ int 6

pub record HistoriesHold : Type 0 where
  pub exchange_holds : ExchangeHolds
  pub copying_holds : CopyingHolds
  pub late_store_holds : LateStoreHolds
  pub forsaking_holds : ForsakingHolds
