-- Laws of runs by picks.
use Rattle.std.specs.Prelude.{◌≡◌, ◌≢◌, ◌↔◌, ℕ, ◌<◌, List, reverse, IsSome, Bool, true, false}
use Rattle.sc_base.specs.declared.value.End.{End}
use Rattle.sc_base.specs.declared.value.End.TheVariants.{Waiting}
use Rattle.effect_order.specs.Lists.{In}
use Rattle.resumption.specs.Resumption.{Asks, Makes, Says, Stops, Ends}
use Rattle.sc_layout.specs.Layout.{Arrangement}
use Rattle.sc_isa.specs.Run.{Issue, Wait, Arrive, Pass, Landed, Passed, Broken, Finish, Stuck, UsedUp, NodeDoing, node_asks}
use Rattle.sc_isa.specs.declared.code.Code.{Code}
use Rattle.sc_isa.specs.declared.journal.Entry.{Entry}
use Rattle.fabric.specs.Asked.{Machine, run_so_far, next_ask}
use Rattle.fabric.specs.Legal.{EntryAllowed, LegalPast, IsLegalJournal, IsCompleteJournal}
use Rattle.run_moves.specs.Moves.{moves}
use Rattle.run_moves.specs.Simulated.{IsSimulation}

-- the moves after a legal past are exactly the entries that are allowed
abbrev pub MovesAreAllowed : Type 0
MovesAreAllowed =
    (machine : Machine) (past : List Entry) (entry : Entry) → LegalPast machine past
    → In entry (moves machine past) ↔ EntryAllowed machine past entry

-- the picks determine the journal
abbrev pub PicksDetermineTheRun : Type 0
PicksDetermineTheRun =
    (machine : Machine) (picks : ℕ → ℕ) (one other : List Entry)
    → IsSimulation machine picks one → IsSimulation machine picks other → one ≡ other

-- The node asks to pass exactly where it has arrived, ends as waiting exactly where its barrier is broken, and goes on
-- at every answer that it takes, as the code of a node does; at_barrier: it has arrived and not passed.
unfoldable pub IsOrderly : (at_barrier : Bool) → NodeDoing → Type 0
IsOrderly false (Makes (Issue access) rest) = IsOrderly false rest
IsOrderly false (Makes (Arrive stores) rest) = IsOrderly true rest
IsOrderly false (Asks (Wait counter) fits go) = (answer : _) → fits answer ≡ true → IsOrderly false (go answer)
IsOrderly true (Asks Pass fits go) =
    (fits Passed ≡ true) × (fits Broken ≡ true) × ((values : _) → fits (Landed values) ≡ false)
    × IsOrderly false (go Passed) × (go Broken ≡ Stops (Finish Waiting))
IsOrderly at_barrier (Says text rest) = IsOrderly at_barrier rest
IsOrderly false (Stops (Finish end)) = end ≢ Waiting
IsOrderly at_barrier (Stops Stuck) = Unit {0}
IsOrderly at_barrier (Stops UsedUp) = Unit {0}
IsOrderly at_barrier _ = ⊥

abbrev pub AllOrderly : Machine → Type 0
AllOrderly machine = (node : ℕ) → node < machine.nodes → IsOrderly false (machine.starts node)

-- it is known what the node does next: it asks for something, or its run has an end
pub data IsKnown (machine : Machine) (past : List Entry) (node : ℕ) : Type 0 where
  asks : IsSome (next_ask machine node past) → IsKnown machine past node
  ends : (end : End) → (run_so_far machine node past).end ≡ Ends (Finish end) → IsKnown machine past node

-- a run by picks is legal, and complete where it is known of each node what it does next
abbrev pub SimulatedRunsAreComplete : Type 0
SimulatedRunsAreComplete =
    (machine : Machine) (picks : ℕ → ℕ) (journal : List Entry) → AllOrderly machine
    → IsSimulation machine picks journal
    → ((node : ℕ) → node < machine.nodes → IsKnown machine (reverse journal) node)
    → IsLegalJournal machine journal × IsCompleteJournal machine journal

-- the code of a node is orderly, whatever it is, by any number of instructions
abbrev pub CodeIsOrderly : Type 0
CodeIsOrderly =
    (code : Code) (layout : Arrangement) (node budget many : ℕ) →
    IsOrderly false (node_asks code layout node budget many)
