-- Whole histories and refused events by computation of the exact tests.
use Rattle.std.proofs.Common.{◌≡◌, ◌+◌, List, [], ◌∷◌, Bool, true, false, ◌==◌, ◌&&◌, sym, ◌∙◌}
use Rattle.std.specs.Prelude.{reverse}
use Rattle.std.specs.Bool.{Decides}
use Rattle.std.proofs.lemmas.Bool.{and_parts}
use Rattle.sc_meaning.specs.declared.event.SourceEvent.{SourceEvent}
use Rattle.sc_meaning.specs.Below.{any_below}
use Rattle.sc_meaning.specs.Past.{Processes, releases, arrivals}
use Rattle.sc_meaning.specs.History.{Legal}
use Rattle.sc_meaning.specs.Whole.{IsHistory}
use Rattle.sc_meaning.specs.Test.{allowed}
use Rattle.sc_meaning.specs.CompleteTest.{forsakes, complete}
use Rattle.meaning_laws.proofs.Exact.{allowed_decides}
use Rattle.meaning_laws.specs.ExampleSources.{forsaking}
use Rattle.meaning_laws.specs.Refusals.{Refuses, StopsBefore}
use Rattle.meaning_laws.specs.Incomplete.{IsUnfinished, NotForsaken}
use Rattle.meaning_laws.proofs.CompleteExact.{stranded_decides, complete_decides}

-- each event is allowed after those before it
abbrev pub all_allowed : Processes → List SourceEvent → Bool
all_allowed processes [] = true
all_allowed processes (event ∷ past) = allowed processes past event && all_allowed processes past

pub legal_by : (processes : Processes) (past : List SourceEvent) → all_allowed processes past ≡ true → Legal processes past
legal_by processes [] h = tt
legal_by processes (event ∷ past) h =
    let p = and_parts (allowed processes past event) (all_allowed processes past) h in
    ((allowed_decides processes past event).0 p.0, legal_by processes past p.1)

pub history_by : (processes : Processes) (history : List SourceEvent)
    → all_allowed processes (reverse history) ≡ true → complete processes (reverse history) ≡ true → IsHistory processes history
history_by processes history a c = record {
  legal = legal_by processes (reverse history) a;
  complete = (complete_decides processes (reverse history)).0 c;
}

refuted : (b : Bool) (P : Type 0) → Decides b P → b ≡ false → P → ⊥
refuted b P d fails p = let yes = d.1 p in let e : true ≡ false = sym yes ∙ fails in absurd cc

pub refuses_by : (processes : Processes) (history : List SourceEvent) (event : SourceEvent)
    → allowed processes (reverse history) event ≡ false → Refuses processes history event
refuses_by processes history event fails =
    refuted (allowed processes (reverse history) event) _ (allowed_decides processes (reverse history) event) fails

pub stops_by : (processes : Processes) (history : List SourceEvent) (event : SourceEvent)
    → all_allowed processes (reverse history) ≡ true → allowed processes (reverse history) event ≡ false
    → StopsBefore processes history event
stops_by processes history event a fails = record {
  legal = legal_by processes (reverse history) a;
  refused = refuses_by processes history event fails;
}

pub unfinished_by : (processes : Processes) (history : List SourceEvent)
    → all_allowed processes (reverse history) ≡ true → complete processes (reverse history) ≡ false
    → IsUnfinished processes history
unfinished_by processes history a fails = record {
  legal = legal_by processes (reverse history) a;
  unfinished = refuted (complete processes (reverse history)) _ (complete_decides processes (reverse history)) fails;
}

pub not_forsaken_by : (history : List SourceEvent)
    → (arrivals 0 (reverse history) == releases (reverse history) + 1) && any_below 2 (forsakes (reverse history) 0) ≡ false
    → NotForsaken history
not_forsaken_by history fails f =
    refuted _ _ (stranded_decides forsaking (reverse history) 0) fails
    (f.at_barrier, (f.other, f.other_within, (f.gone, (f.not_waiting, f.fewer))))
