-- Which legal histories are complete, and what a complete one shows in the end: the result of an execution of Lamport's
-- "How to make a multiprocessor computer that correctly executes multiprocess programs" (1979). A past has the newest
-- event first, a history the oldest.
use Rattle.std.specs.Prelude.{◌≡◌, ℕ, ◌+◌, ◌<◌, List, reverse, Option, Some, IsSome}
use Rattle.sc_base.specs.declared.value.Value.{Value}
use Rattle.sc_base.specs.declared.value.Place.{Place}
use Rattle.sc_base.specs.declared.value.End.{End}
use Rattle.sc_base.specs.declared.value.End.TheVariants.{Waiting}
use Rattle.sc_meaning.specs.declared.event.SourceEvent.{SourceEvent}
use Rattle.sc_meaning.specs.Parts.{is_issued}
use Rattle.sc_meaning.specs.Past.{Processes, shown, arrivals, releases, ended, run_so_far}
use Rattle.sc_meaning.specs.History.{Legal, AllDone}

-- the node stands at a barrier that another node, which ended otherwise than as waiting, never reached
pub record IsForsaken (processes : Processes) (past : List SourceEvent) (node : ℕ) : Type 0 where
  pub at_barrier : arrivals node past ≡ releases past + 1
  pub other : ℕ
  pub other_within : other < processes.nodes
  pub gone : IsSome (ended other past)
  pub not_waiting : ended other past ≡ Some Waiting → ⊥
  pub fewer : arrivals other past < arrivals node past

pub record Complete (processes : Processes) (past : List SourceEvent) : Type 0 where
  -- each node has ended
  pub all_ended : (node : ℕ) → node < processes.nodes → IsSome (ended node past)
  -- every part of every issued transfer has occurred
  pub all_done : (node : ℕ) → node < processes.nodes → AllDone processes is_issued node past
  -- a node ends as waiting only at a barrier that can't be released
  pub forsaken : (node : ℕ) → node < processes.nodes → ended node past ≡ Some Waiting →
      IsForsaken processes past node

-- a whole history, in the order of its events
pub record IsHistory (processes : Processes) (history : List SourceEvent) : Type 0 where
  pub legal : Legal processes (reverse history)
  pub complete : Complete processes (reverse history)

-- what a run shows in the end: how each node ended, what it printed, and what each cell holds
pub record Outcome : Type 0 where
  pub ends : ℕ → Option End
  pub texts : ℕ → List ℕ
  pub memory : Place → Value

abbrev pub outcome : Processes → List SourceEvent → Outcome
outcome processes history = record {
  ends = λ node. ended node (reverse history);
  texts = λ node. (run_so_far processes node (reverse history)).text;
  memory = λ place. shown processes.start place (reverse history);
}

-- two outcomes of so many nodes are the same
pub record SameOutcome (nodes : ℕ) (a b : Outcome) : Type 0 where
  pub ends : (node : ℕ) → node < nodes → a.ends node ≡ b.ends node
  pub texts : (node : ℕ) → node < nodes → a.texts node ≡ b.texts node
  pub memory : (place : Place) → a.memory place ≡ b.memory place
