-- A pool of messages that are under way: the pending ones, each with its id, in the order of their puts.
use Rattle.std.specs.Prelude.{◌≡◌, ℕ, ◌+◌, ◌-◌, List, [], ◌∷◌, ◌++◌, map, slice_get, Some, ◌==◌}
use Rattle.std.specs.List.{filter, Contains}
use Rattle.msg_pool.specs.declared.message.Message.{Message}
use Rattle.msg_pool.specs.declared.message.MsgId.{MsgId}
use Rattle.msg_pool.specs.declared.message.Part.{Part}
use Rattle.msg_pool.specs.declared.message.Part.TheVariants.{Read, Write}

-- A message that is pending, and what names it.
pub record Pending : Type 0 where
  pub id : MsgId
  pub message : Message

-- What a pool holds.
pub record Pool : Type 0 where
  pub pending : List Pending  -- the pending messages, in the order of their puts
  pub spare : ℕ  -- how many puts need no memory
  pub puts : ℕ  -- how many puts there were so far
  pub nodes : ℕ  -- issuers and targets are the nodes below this number

-- no message was put yet
abbrev pub empty_pool : ℕ → Pool
empty_pool nodes = record { pending = []; spare = 0; puts = 0; nodes = nodes }

-- the node of the place that the part reads or writes
abbrev pub node_of : Part → ℕ
node_of (Read from back) = from.node
node_of (Write to value) = to.node

-- the node at which the message takes effect
abbrev pub target_of : Message → ℕ
target_of message = node_of message.part

-- the pending messages that the node issued
abbrev pub of_issuer : ℕ → List Pending → List Pending
of_issuer node pending = filter (λ entry. entry.message.issuer == node) pending

-- the pending messages that take effect at the node
abbrev pub to_target : ℕ → List Pending → List Pending
to_target node pending = filter (λ entry. target_of entry.message == node) pending

-- what names them
abbrev pub ids : List Pending → List MsgId
ids pending = map (λ entry. entry.id) pending

-- no id stands at two places
abbrev pub NamesOnce : List MsgId → Type 0
NamesOnce names = (i k : ℕ) (id : MsgId) → slice_get names i ≡ Some id →
    slice_get names k ≡ Some id → i ≡ k

-- the id names a pending message
abbrev pub IsPending : Pool → MsgId → Type 0
IsPending pool id = Contains (ids pool.pending) id

-- the pool with the message put last, under the id
abbrev pub with_message : Pool → MsgId → Message → Pool
with_message pool id message = record {
  pending = pool.pending ++ record { id = id; message = message } ∷ [];
  spare = pool.spare - 1;
  puts = pool.puts + 1;
  nodes = pool.nodes;
}

-- the message that the id named is taken out, and all others stay in their order
pub record Takes (old : Pool) (id : MsgId) (message : Message) (new : Pool) : Type 0 where
  pub before : List Pending
  pub after : List Pending
  pub was : old.pending ≡ before ++ record { id = id; message = message } ∷ after
  pub is : new ≡ record old { pending = before ++ after; spare = old.spare + 1 }
