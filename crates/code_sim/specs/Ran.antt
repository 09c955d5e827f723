-- What a run by picks leaves: the journal of the simulated run of the code, and what that journal says of each node and
-- of the memory.
use Rattle.std.specs.Prelude.{◌≡◌, ℕ, ◌≤◌, List, length, reverse, slice_get, Some}
use Rattle.resumption.specs.Resumption.{Ends}
use Rattle.sc_layout.specs.Layout.{Arrangement}
use Rattle.sc_isa.specs.declared.code.Code.{Code}
use Rattle.sc_isa.specs.declared.journal.Entry.{Entry}
use Rattle.sc_isa.specs.declared.results.NodeResult.{NodeResult}
use Rattle.sc_isa.specs.Run.{Finish}
use Rattle.effect_order.specs.Effect.{held}
use Rattle.node_memory.specs.Memory.{Holds}
use Rattle.fabric.specs.declared.state.Run.{Run}
use Rattle.fabric.specs.Effects.{effects}
use Rattle.fabric.specs.Asked.{Machine, run_so_far}
use Rattle.fabric.specs.Legal.{IsLegalJournal, IsCompleteJournal}
use Rattle.run_moves.specs.Simulated.{IsSimulation}
use Rattle.run_moves.specs.OfCode.{machine_of}

-- what the node printed and how it ended are those of its run under the answers that the past shows
pub record IsResultOf (machine : Machine) (past : List Entry) (node : ℕ) (result : NodeResult) : Type 0 where
  pub printed : result.printed ≡ (run_so_far machine node past).text
  pub ended : (run_so_far machine node past).end ≡ Ends (Finish result.end)

-- the journal is that of the machine's run by these picks, legal and complete, and bytes, ends and memory are the
-- journal's
pub record IsRunBy (machine : Machine) (picks : ℕ → ℕ) (run : Run) : Type 0 where
  pub simulation : IsSimulation machine picks run.journal
  pub legal : IsLegalJournal machine run.journal
  pub complete : IsCompleteJournal machine run.journal
  pub nodes : length run.nodes ≡ machine.nodes
  pub results : (node : ℕ) (result : NodeResult) → slice_get run.nodes node ≡ Some result
      → IsResultOf machine (reverse run.journal) node result
  pub memory : Holds run.memory (λ place. held machine.start place (effects machine.start (reverse run.journal)))

-- from some number of instructions on, the run is that of the code by these picks
pub record IsCodeRun (code : Code) (layout : Arrangement) (budget : ℕ) (picks : ℕ → ℕ)
    (run : Run) : Type 0 where
  pub many : ℕ
  pub from_there : (more : ℕ) → many ≤ more → IsRunBy (machine_of layout code budget more) picks run
  pub laid : run.memory.layout ≡ layout
