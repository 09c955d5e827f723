-- The order theorem, after Shasha and Snir (1988): where what has to come before what has no cycle, the source order
-- is a whole history of the processes, with the outcome of the run; and where each blocking access is over before its
-- node's next own step, time alone shows that there is no cycle.
use Rattle.std.specs.Prelude.{ℕ, List, [], ◌∷◌, reverse, IsSome}
use Rattle.sc_base.specs.declared.value.Place.{Place}
use Rattle.sc_base.specs.declared.value.Value.{Value}
use Rattle.effect_order.specs.Lists.{In, Each, IsDistinct}
use Rattle.sc_meaning.specs.declared.event.SourceEvent.{SourceEvent}
use Rattle.sc_meaning.specs.Past.{Processes}
use Rattle.sc_meaning.specs.Whole.{IsHistory, SameOutcome, outcome}
use Rattle.sc_isa.specs.declared.journal.Entry.{Entry}
use Rattle.fabric.specs.Asked.{Machine}
use Rattle.fabric.specs.Wired.{AllDone}
use Rattle.source_order.specs.Whole.{IsRun, run_outcome}
use Rattle.source_order.specs.Steps.{request_by}
use Rattle.sc_meaning.specs.OfAccess.{is_blocking}
use Rattle.source_order.specs.Items.{items, source_order}
use Rattle.source_order.specs.Needs.{NoCycle}
use Rattle.source_order.specs.Made.{IsMade}
use Rattle.sc_meaning.specs.Answering.{AllWaitForAnswers}

-- every item is taken, once, and nothing else
pub record TakesAll (all order : List SourceEvent) : Type 0 where
  pub each_taken : Each (λ item. In item order) all
  pub each_item : Each (λ event. In event all) order
  pub once : IsDistinct order

-- the source order of the run is one whole history of the processes that its nodes are, with the run's outcome
pub record IsOrdered (processes : Processes) (machine : Machine) (journal : List Entry) : Type 0 where
  pub takes : TakesAll (items processes.start processes.nodes (reverse journal)) (source_order processes journal)
  pub history : IsHistory processes (source_order processes journal)
  pub same : SameOutcome processes.nodes (run_outcome machine journal)
      (outcome processes (source_order processes journal))

-- The order theorem, for processes that wait for what is answered: legal, complete, the same outcome, and everything
-- taken.
abbrev pub OrderHolds : Type 0
OrderHolds =
    (processes : Processes) (machine : Machine) (journal : List Entry)
    → AllWaitForAnswers processes → IsRun machine journal → IsMade processes machine (reverse journal)
    → NoCycle processes.start processes.nodes (reverse journal) → IsOrdered processes machine journal

-- Before each request of a node its blocking accesses are over. A node may finish earlier: nothing comes after an end.
abbrev pub IsPlain : (Place → Value) → (nodes : ℕ) → List Entry → Type 0
IsPlain start nodes [] = Unit {0}
IsPlain start nodes (entry ∷ past) =
    ((node : ℕ) → IsSome (request_by node entry) → AllDone start past is_blocking node)
    × IsPlain start nodes past

-- by time alone
abbrev pub PlainRunsHaveNoCycle : Type 0
PlainRunsHaveNoCycle =
    (machine : Machine) (journal : List Entry) → IsRun machine journal
    → IsPlain machine.start machine.nodes (reverse journal) → NoCycle machine.start machine.nodes (reverse journal)
