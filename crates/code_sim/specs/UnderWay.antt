-- A run of code under way, and its steps. A past is a list of entries, the newest first.
use Rattle.std.specs.Prelude.{◌≡◌, ℕ, List, [], ◌∷◌, length, reverse, slice_get, Some, Bool, if◌then◌else◌}
use Rattle.sc_layout.specs.Layout.{Arrangement}
use Rattle.sc_isa.specs.declared.access.Access.{Access}
use Rattle.sc_isa.specs.declared.code.Code.{Code}
use Rattle.sc_isa.specs.declared.journal.Entry.{Entry}
use Rattle.sc_isa.specs.declared.journal.Entry.TheVariants.{Issued, Delivered, Waited, Arrived, Passed, Finished}
use Rattle.msg_pool.specs.declared.message.Message.{Message}
use Rattle.fabric.specs.Effects.{access_at, effects}
use Rattle.fabric.specs.Flight.{in_flight}
use Rattle.sc_isa.specs.declared.results.NodeResult.{NodeResult}
use Rattle.fabric.specs.declared.state.Run.{Run}
use Rattle.fabric.specs.Kept.{IsOfJournal}
use Rattle.fabric.specs.State.{State, start_of, IsPlaced}
use Rattle.run_moves.specs.Moves.{moves, step_of, delivery}
use Rattle.code_sim.specs.declared.node.Runner.{Runner}
use Rattle.run_moves.specs.OfCode.{machine_of}
use Rattle.code_sim.specs.Enough.{Suffices}
use Rattle.code_sim.specs.Asking.{IsRunner, IsLeft}

-- each access that was issued lies in the layout
abbrev pub AllPlaced : Arrangement → List Entry → Type 0
AllPlaced layout past =
    (node number : ℕ) (access : Access) → access_at node number past ≡ Some access → IsPlaced layout access

-- the fabric is one of the layout and of the code's counters
pub record IsLaid (code : Code) (layout : Arrangement) (fabric : State) : Type 0 where
  pub layout_is : fabric.memory.layout ≡ layout
  pub sites : fabric.book.sites ≡ code.sites
  pub placed : AllPlaced layout fabric.past

-- a run under way
pub record IsUnderWay (code : Code) (layout : Arrangement) (budget : ℕ) (fabric : State) (nodes : List Runner)
    : Type 0 where
  pub laid : IsLaid code layout fabric
  pub count : length nodes ≡ layout.nodes
  pub each : (number : ℕ) (runner : Runner) → slice_get nodes number ≡ Some runner
      → IsRunner code layout budget fabric.past number runner

-- the entry is one of the node's own steps
abbrev pub IsOwn : (number : ℕ) → Entry → Type 0
IsOwn number (Issued node count access) = node ≡ number
IsOwn number (Delivered node count cell value) = ⊥
IsOwn number (Waited node counter) = node ≡ number
IsOwn number (Arrived node stores) = node ≡ number
IsOwn number (Passed node) = node ≡ number
IsOwn number (Finished node end) = node ≡ number

-- the node took the one step that it could take
pub record IsStepped (code : Code) (layout : Arrangement) (budget number : ℕ) (old new : State) (changed : Runner)
    : Type 0 where
  pub entry : Entry
  pub past : new.past ≡ entry ∷ old.past
  pub own : IsOwn number entry
  pub is_step : (many : ℕ) → Suffices code layout budget many
      → step_of (machine_of layout code budget many) old.past number ≡ entry ∷ []
  pub laid : IsLaid code layout new
  pub runner : IsRunner code layout budget new.past number changed

-- the message in flight with this number was delivered
pub record IsDelivered (old new : State) (k : ℕ) : Type 0 where
  pub message : Message
  pub is : slice_get (in_flight (start_of old) old.past) k ≡ Some message
  pub past : new.past ≡ delivery (start_of old) (effects (start_of old) old.past) message ∷ old.past
  pub layout : new.memory.layout ≡ old.memory.layout
  pub sites : new.book.sites ≡ old.book.sites

-- the past grew by the move with this number
pub record IsMoved (code : Code) (layout : Arrangement) (budget k : ℕ) (past later : List Entry) : Type 0 where
  pub entry : Entry
  pub later_is : later ≡ entry ∷ past
  pub is_move : (many : ℕ) → Suffices code layout budget many
      → slice_get (moves (machine_of layout code budget many) past) k ≡ Some entry

-- what the run leaves of its fabric and its nodes
pub record IsEnded (fabric : State) (nodes : List Runner) (run : Run) : Type 0 where
  pub journal : reverse run.journal ≡ fabric.past
  pub memory : run.memory ≡ fabric.memory
  pub of_journal : IsOfJournal fabric
  pub count : length run.nodes ≡ length nodes
  pub each : (number : ℕ) (runner : Runner) (result : NodeResult) → slice_get nodes number ≡ Some runner
      → slice_get run.nodes number ≡ Some result → IsLeft runner result

-- one, or none
abbrev pub one_if : Bool → ℕ
one_if b = if b then 1 else 0
