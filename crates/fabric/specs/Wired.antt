-- What the fabric by itself keeps in a journal, whatever the nodes ask: one half of a legal run, as memory is in Shasha
-- and Snir (1988). A past is a list of entries, the newest first.
use Rattle.std.specs.Prelude.{◌≡◌, ◌⊎◌, ℕ, ◌+◌, ◌<◌, ◌≤◌, List, [], ◌∷◌, Some, None, IsSome, Bool, true}
use Rattle.sc_base.specs.declared.value.Value.{Value}
use Rattle.sc_base.specs.declared.value.Place.{Place}
use Rattle.sc_base.specs.declared.value.End.TheVariants.{Waiting}
use Rattle.effect_order.specs.Effect.{Effect}
use Rattle.effect_order.specs.Transfer.{AllOccurred}
use Rattle.sc_isa.specs.declared.access.Access.{Access}
use Rattle.sc_isa.specs.declared.access.Track.{Track}
use Rattle.sc_isa.specs.declared.journal.Entry.{Entry}
use Rattle.sc_isa.specs.declared.journal.Entry.TheVariants.{Issued, Delivered, Waited, Arrived, Passed, Finished}
use Rattle.fabric.specs.Access.{transfer_of, track_of, is_counter, is_store, is_covered}
use Rattle.fabric.specs.Effects.{access_at, issues, effects, due}
use Rattle.fabric.specs.Barriers.{arrivals, passes, released, stores_at, finished}

-- every part of the node's accesses on these tracks has occurred; start: what each cell holds before any write
abbrev pub AllDone : (start : Place → Value) → List Entry → (Track → Bool) → ℕ → Type 0
AllDone start past on node =
    (number : ℕ) (access : Access) → access_at node number past ≡ Some access → on (track_of access) ≡ true
    → AllOccurred (transfer_of access) node number (effects start past)

-- the node is one of the run's and has not finished
pub record Running (nodes : ℕ) (past : List Entry) (node : ℕ) : Type 0 where
  pub node_within : node < nodes
  pub not_finished : finished node past ≡ None

-- it also stands at no barrier
pub record Going (nodes : ℕ) (past : List Entry) (node : ℕ) : Type 0 where
  pub running : Running nodes past node
  pub at_no_barrier : arrivals node past ≡ passes node past

-- issues of a node are numbered from 0
pub record IssueWired (nodes : ℕ) (past : List Entry) (node number : ℕ) : Type 0 where
  pub going : Going nodes past node
  pub numbered : number ≡ issues node past

-- A delivery is the part of an issued access's cell that comes next: so each part occurs at most once, a cell's write
-- after its read, a read with the value last written, a write with its access's value, a copy's write with its read's.
pub record DeliveryWired (start : Place → Value) (nodes : ℕ) (past : List Entry) (node number cell : ℕ)
    (value : Value) : Type 0 where
  pub node_within : node < nodes
  pub access : Access
  pub issued : access_at node number past ≡ Some access
  pub part : Effect
  pub is_due : due start (transfer_of access) node number cell (effects start past) ≡ Some part
  pub its_value : value ≡ part.value

-- a wait follows all parts of the node's accesses on its counter
pub record WaitWired (start : Place → Value) (nodes : ℕ) (past : List Entry) (node counter : ℕ) : Type 0 where
  pub going : Going nodes past node
  pub all_done : AllDone start past (is_counter counter) node

-- The m-th pass follows every node's m-th arrival, and where it is the first m-th pass all covered parts, and all parts
-- of stores where an m-th arrival waits for them.
pub record PassWired (start : Place → Value) (nodes : ℕ) (past : List Entry) (node : ℕ) : Type 0 where
  pub running : Running nodes past node
  pub all_arrived : (other : ℕ) → other < nodes → passes node past + 1 ≤ arrivals other past
  pub covered_done : released past < passes node past + 1 → (other : ℕ) → other < nodes →
      AllDone start past is_covered other
  pub stores_done : released past < passes node past + 1 → stores_at (passes node past + 1) past ≡ true
      → (other : ℕ) → other < nodes → AllDone start past is_store other

-- the node stands at the next barrier to be released
abbrev pub StandsNext : List Entry → ℕ → Type 0
StandsNext past node = arrivals node past ≡ released past + 1

-- The node stands at the next barrier to be released; so does every other one, or it has finished, as one of them has.
pub record IsBroken (nodes : ℕ) (past : List Entry) (node : ℕ) : Type 0 where
  pub stands : StandsNext past node
  pub others : (other : ℕ) → other < nodes → StandsNext past other ⊎ IsSome (finished other past)
  pub gone : ℕ
  pub gone_within : gone < nodes
  pub is_gone : IsSome (finished gone past)

-- a node finishes as waiting at a broken barrier
pub record WaitingWired (nodes : ℕ) (past : List Entry) (node : ℕ) : Type 0 where
  pub running : Running nodes past node
  pub broken : IsBroken nodes past node

-- the fabric allows the entry after the past
abbrev pub EntryWired : (start : Place → Value) (nodes : ℕ) → List Entry → Entry → Type 0
EntryWired start nodes past (Issued node number access) = IssueWired nodes past node number
EntryWired start nodes past (Delivered node number cell value) = DeliveryWired start nodes past node number cell value
EntryWired start nodes past (Waited node counter) = WaitWired start nodes past node counter
EntryWired start nodes past (Arrived node stores) = Going nodes past node
EntryWired start nodes past (Passed node) = PassWired start nodes past node
EntryWired start nodes past (Finished node Waiting) = WaitingWired nodes past node
EntryWired start nodes past (Finished node _) = Going nodes past node

-- the fabric allows each entry after those before it
abbrev pub Wired : (start : Place → Value) (nodes : ℕ) → List Entry → Type 0
Wired start nodes [] = Unit {0}
Wired start nodes (entry ∷ past) = EntryWired start nodes past entry × Wired start nodes past
