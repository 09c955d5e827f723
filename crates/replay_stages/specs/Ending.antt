-- A stage at which all is complete is that of a legal and complete history, and shows what the history shows.
use Rattle.std.specs.Prelude.{◌≡◌, ℕ, ◌<◌, ◌++◌, List, true, false, reverse}
use Rattle.resumption.specs.Resumption.{next_text}
use Rattle.sc_base.specs.declared.value.Place.{Place}
use Rattle.sc_base.specs.declared.value.Value.{Value}
use Rattle.sc_meaning.specs.declared.event.SourceEvent.{SourceEvent}
use Rattle.sc_meaning.specs.Past.{Processes}
use Rattle.sc_meaning.specs.Whole.{IsHistory, outcome}
use Rattle.replay_books.specs.Tables.{TablesBook, row_at, is_complete_in}
use Rattle.replay_stages.specs.Stage.{Front, Stage}

module _ (processes : Processes) (history : List SourceEvent) (t : TablesBook) (shows : Place → Value)
    (fronts : ℕ → Front) where
  pub record Told : Type 0 where
    pub unfinished : is_complete_in t ≡ false → IsHistory processes history → ⊥
    pub whole : is_complete_in t ≡ true → IsHistory processes history
    pub ends : (node : ℕ) → node < processes.nodes → is_complete_in t ≡ true
        → (row_at t node).ended ≡ (outcome processes history).ends node
    pub texts : (node : ℕ) → node < processes.nodes → is_complete_in t ≡ true
        → (fronts node).text ++ next_text (fronts node).rest ≡ (outcome processes history).texts node
    pub memory : (place : Place) → shows place ≡ (outcome processes history).memory place

abbrev pub HistoriesAreTold : Type 0
HistoriesAreTold =
    (processes : Processes) (history : List SourceEvent) (t : TablesBook) (shows : Place → Value)
    (fronts : ℕ → Front)
    → Stage processes (reverse history) t shows fronts → Told processes history t shows fronts
