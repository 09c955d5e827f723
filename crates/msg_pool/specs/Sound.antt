-- What the pool keeps of its slab and its chains. No public clause but the law's cites this module.
use Rattle.std.specs.Prelude.{◌≡◌, ℕ, ◌-◌, ◌<◌, ◌≤◌, List, [], ◌∷◌, map, length}
use Rattle.slab.specs.Slab.{Slab, ContainsKey, slab_len}
use Rattle.msg_pool.specs.declared.slot.Grouping.TheVariants.{Every, Issuer, Target}
use Rattle.msg_pool.specs.declared.slot.Slot.{Slot}
use Rattle.msg_pool.specs.declared.chain.Chain.{Chain}
use Rattle.msg_pool.specs.Chains.{forward, AreChains, AreDistinct, IsFresh}
use Rattle.msg_pool.specs.Slots.{link_at, group_at, slot_at, pending_at}
use Rattle.msg_pool.specs.Pool.{Pool}

-- What a pool is made of.
pub record Parts : Type 0 where
  pub slots : Slab Slot
  pub every : Chain
  pub issuers : List Chain
  pub targets : List Chain
  pub puts : ℕ

-- the keys of the pending messages: the list of all, walked from its head
abbrev pub keys_of : Parts → List ℕ
keys_of parts = forward (link_at Every parts.slots) parts.every.head parts.every.count

-- what the parts hold
abbrev pub pool_of : Parts → Pool
pool_of parts = record {
  pending = map (pending_at parts.slots) (keys_of parts);
  spare = parts.slots.capacity - slab_len parts.slots;
  puts = parts.puts;
  nodes = length parts.issuers;
}

-- every key of these has this
abbrev pub EachKey : (ℕ → Type 0) → List ℕ → Type 0
EachKey P [] = Unit {0}
EachKey P (key ∷ keys) = P key × EachKey P keys

-- The list of all messages has each message of the slab once; it and the lists of the issuers and of the targets are
-- linked; each message was put before now; and there is room for every message.
pub record AreSound (parts : Parts) (keys : List ℕ) : Type 0 where
  pub every : AreChains (link_at Every parts.slots) (group_at Every parts.slots) (parts.every ∷ []) keys
  pub issuers : AreChains (link_at Issuer parts.slots) (group_at Issuer parts.slots) parts.issuers keys
  pub targets : AreChains (link_at Target parts.slots) (group_at Target parts.slots) parts.targets keys
  pub as_many : length parts.targets ≡ length parts.issuers
  pub distinct : AreDistinct keys
  pub stored : (key : ℕ) → ContainsKey parts.slots key → IsFresh key keys → ⊥
  pub numbered : EachKey (λ key. (slot_at parts.slots key).serial < parts.puts) keys
  pub counted : slab_len parts.slots ≡ length keys
  pub few : length keys ≤ parts.puts
  pub fits : slab_len parts.slots ≤ parts.slots.capacity

-- the parts are sound, for the keys in the order of the list of all
abbrev pub IsPool : Parts → Type 0
IsPool parts = AreSound parts (keys_of parts)
