-- What issuing an access leaves, cell by cell. No public clause cites this module.
use Rattle.std.specs.Prelude.{◌≡◌, ℕ, ◌+◌, ◌<◌, ◌≤◌, ◌^◌, ◌++◌, List, [], ◌∷◌, length, None, Bool}
use Rattle.effect_order.specs.Effect.{Effect, held}
use Rattle.effect_order.specs.Transfer.{part_value}
use Rattle.sc_layout.specs.Start.{start}
use Rattle.sc_isa.specs.declared.access.Access.{Access}
use Rattle.msg_pool.specs.declared.message.Message.{Message}
use Rattle.msg_pool.specs.Pool.{Pool, target_of}
use Rattle.node_memory.specs.Memory.{Memory, Holds}
use Rattle.fabric.specs.Access.{transfer_of, track_of}
use Rattle.fabric.specs.Effects.{due, cell_at_issue, at_issue}
use Rattle.fabric.specs.Flight.{carried, sent}
use Rattle.fabric.specs.State.{Grows, messages_of}

-- no part of the cell has occurred
pub record Untouched (node number cell : ℕ) (earlier : List Effect) : Type 0 where
  pub none : (wrote : Bool) → part_value node number cell wrote earlier ≡ None

-- the memory holds what the effects left
abbrev pub HoldsAfter : Memory → List Effect → Type 0
HoldsAfter memory earlier = Holds memory (λ place. held (start memory.layout) place earlier)

-- the cell's parts on the node have occurred, and its message is put last
pub record CellIssued (node number cell : ℕ) (access : Access) (earlier : List Effect) (was is : Memory)
    (pool pool' : Pool) : Type 0 where
  pub holds : HoldsAfter is (cell_at_issue (start was.layout) (transfer_of access) node number cell earlier)
  pub messages : messages_of pool' ≡ messages_of pool
      ++ carried (transfer_of access) node number cell (track_of access)
      (due (start was.layout) (transfer_of access) node number cell
      (cell_at_issue (start was.layout) (transfer_of access) node number cell earlier))

-- the message may be put
pub record IsSendable (pool : Pool) (m : Message) : Type 0 where
  pub spare : 0 < pool.spare
  pub puts : pool.puts + 1 < 2 ^ 64
  pub issuer : m.issuer < pool.nodes
  pub target : target_of m < pool.nodes

-- it is put last
pub record Sends (old new : Pool) (m : Message) : Type 0 where
  pub messages : messages_of new ≡ messages_of old ++ m ∷ []
  pub spare : new.spare + 1 ≡ old.spare
  pub puts : new.puts ≡ old.puts + 1
  pub nodes : new.nodes ≡ old.nodes
  pub count : length new.pending ≡ length old.pending + 1
  pub stay : Grows old new

-- a message of the node may be put, to any place of the memory
pub record CanSend (memory : Memory) (pool : Pool) (node : ℕ) : Type 0 where
  pub spare : 0 < pool.spare
  pub puts : pool.puts + 1 < 2 ^ 64
  pub issuer : node < memory.layout.nodes
  pub nodes : pool.nodes ≡ memory.layout.nodes

-- no part of the access has occurred
pub record Unissued (node number : ℕ) (earlier : List Effect) : Type 0 where
  pub none : (cell : ℕ) (wrote : Bool) → part_value node number cell wrote earlier ≡ None

-- the first cells' parts on the node have occurred, and their messages are put last
pub record CellsIssued (node number cells : ℕ) (access : Access) (earlier : List Effect) (was is : Memory)
    (pool pool' : Pool) : Type 0 where
  pub holds : HoldsAfter is (at_issue (start was.layout) (transfer_of access) node number cells earlier)
  pub messages : messages_of pool' ≡ messages_of pool
      ++ sent (start was.layout) (transfer_of access) node number (track_of access)
      (at_issue (start was.layout) (transfer_of access) node number cells earlier) cells

-- so many messages of the node may be put, to any places of the memory
pub record CanSendMany (memory : Memory) (pool : Pool) (node count : ℕ) : Type 0 where
  pub spare : count ≤ pool.spare
  pub puts : pool.puts + count < 2 ^ 64
  pub issuer : node < memory.layout.nodes
  pub nodes : pool.nodes ≡ memory.layout.nodes

-- at most so many were put
pub record AtMost (count : ℕ) (old new : Pool) : Type 0 where
  pub spare : new.spare + length new.pending ≡ old.spare + length old.pending
  pub puts : new.puts + length old.pending ≡ old.puts + length new.pending
  pub nodes : new.nodes ≡ old.nodes
  pub few : length new.pending ≤ length old.pending + count
  pub grown : length old.pending ≤ length new.pending
