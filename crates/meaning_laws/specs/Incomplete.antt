-- For each condition of completeness a list of events that it alone keeps from being a complete history.
use Rattle.std.specs.Prelude.{false, List, [], ◌∷◌, take, reverse}
use Rattle.sc_base.specs.declared.value.End.TheVariants.{Ended, Waiting}
use Rattle.sc_meaning.specs.declared.event.SourceEvent.{SourceEvent}
use Rattle.sc_meaning.specs.declared.event.SourceEvent.TheVariants.{Issue, Arrive, End as Over}
use Rattle.sc_meaning.specs.Past.{Processes}
use Rattle.sc_meaning.specs.History.{Legal}
use Rattle.sc_meaning.specs.Whole.{IsForsaken, Complete}
use Rattle.meaning_laws.specs.ExampleSources.{exchange, late_store, forsaking, meeting}
use Rattle.meaning_laws.specs.ExampleHistories.{exchanged, stored_late}

-- the history is legal, and not over
pub record IsUnfinished (processes : Processes) (history : List SourceEvent) : Type 0 where
  pub legal : Legal processes (reverse history)
  pub unfinished : Complete processes (reverse history) → ⊥

abbrev pub NotForsaken : List SourceEvent → Type 0
NotForsaken history = IsForsaken forsaking (reverse history) 0 → ⊥

pub record ConditionsAreNeeded : Type 0 where
  pub all_ended : IsUnfinished exchange (take 15 exchanged)
  -- a put without a sync, and a store without a barrier that waits for it
  pub put_done : IsUnfinished forsaking (Arrive 0 0 false ∷ Issue 1 0 ∷ Over 1 Ended ∷ Over 0 Waiting ∷ [])
  pub store_done : IsUnfinished late_store (take 6 stored_late)
  -- two nodes that give up, though their barrier can be released
  pub forsaken :
      IsUnfinished meeting (Arrive 0 0 false ∷ Arrive 1 0 false ∷ Over 0 Waiting ∷ Over 1 Waiting ∷ [])
  -- the conditions of a node that ends as waiting, on lists that need not be legal
  pub at_barrier : NotForsaken (Arrive 0 0 false ∷ Arrive 0 0 false ∷ Over 1 Ended ∷ [])
  pub other_within : NotForsaken (Arrive 0 0 false ∷ Over 2 Ended ∷ [])
  pub gone : NotForsaken (Arrive 0 0 false ∷ [])
  pub not_waiting : NotForsaken (Arrive 0 0 false ∷ Over 1 Waiting ∷ [])
  pub fewer : NotForsaken (Arrive 0 0 false ∷ Arrive 1 0 false ∷ Over 1 Ended ∷ [])
