-- The test whether a legal history is complete, one line for each condition.
use Rattle.std.specs.Prelude.{◌↔◌, ◌≡◌, ℕ, ◌+◌, List, Option, Some, None, is_some, Bool, true, false, not, ◌==◌, ◌&&◌, ◌||◌, nat_lt}
use Rattle.sc_base.specs.declared.value.End.{End}
use Rattle.sc_base.specs.declared.value.End.TheVariants.{Waiting}
use Rattle.sc_meaning.specs.declared.event.SourceEvent.{SourceEvent}
use Rattle.sc_meaning.specs.Below.{all_below, any_below}
use Rattle.sc_meaning.specs.Parts.{is_issued}
use Rattle.sc_meaning.specs.Past.{Processes, releases, arrivals, ended}
use Rattle.sc_meaning.specs.History.{Allowed}
use Rattle.sc_meaning.specs.Whole.{Complete}
use Rattle.sc_meaning.specs.Test.{allowed, all_done}

abbrev pub is_waiting : Option End → Bool
is_waiting (Some Waiting) = true
is_waiting _ = false

-- the other node ended otherwise than as waiting, and arrived at fewer barriers
abbrev pub forsakes : List SourceEvent → (node other : ℕ) → Bool
forsakes past node other =
    is_some (ended other past)
    && (not (is_waiting (ended other past)) && nat_lt (arrivals other past) (arrivals node past))

-- the node did not end as waiting, or it stands at a barrier that can't be released
abbrev pub is_forsaken : Processes → List SourceEvent → (node : ℕ) → Bool
is_forsaken processes past node =
    not (is_waiting (ended node past))
    || ((arrivals node past == releases past + 1) && any_below processes.nodes (forsakes past node))

abbrev pub complete : Processes → List SourceEvent → Bool
complete processes past =
    all_below processes.nodes (λ node.
    is_some (ended node past) && (all_done processes is_issued node past && is_forsaken processes past node))

-- the two tests are exact
abbrev pub TestIsExact : Type 0
TestIsExact =
    (processes : Processes) (past : List SourceEvent) (event : SourceEvent)
    → (allowed processes past event ≡ true) ↔ Allowed processes past event

abbrev pub CompleteTestIsExact : Type 0
CompleteTestIsExact =
    (processes : Processes) (past : List SourceEvent) → (complete processes past ≡ true) ↔ Complete processes past
