-- Doubly linked lists of keys, over a function that gives the neighbours of each key. No public clause but the law's
-- cites this module.
use Rattle.std.specs.Prelude.{◌≡◌, ◌≢◌, ℕ, zero, suc, ◌+◌, ◌-◌, ◌==◌, if◌then◌else◌, List, [], ◌∷◌, length, reverse}
use Rattle.std.specs.Prelude.{slice_index_or, Option, Some, None, is_none}
use Rattle.std.specs.List.{filter}
use Rattle.std.specs.Option.{option_or}
use Rattle.msg_pool.specs.declared.slot.Link.{Link}
use Rattle.msg_pool.specs.declared.chain.Chain.{Chain}

-- the neighbours of each key
abbrev pub Links : Type 0
Links = ℕ → Option Link

-- the first key, or else this one
abbrev pub first_or : List ℕ → Option ℕ → Option ℕ
first_or [] other = other
first_or (key ∷ keys) other = Some key

-- the last key, or else this one
abbrev pub last_or : Option ℕ → List ℕ → Option ℕ
last_or other [] = other
last_or other (key ∷ keys) = last_or (Some key) keys

-- these neighbours
abbrev pub neighbours : Option ℕ → Option ℕ → Link
neighbours previous next = record { next = next; previous = previous }

-- each key's neighbours are those that it has in the list, where these two stand before and behind the list
abbrev pub IsLinked : Links → Option ℕ → List ℕ → Option ℕ → Type 0
IsLinked links before [] behind = Unit {0}
IsLinked links before (key ∷ keys) behind =
    (links key ≡ Some (neighbours before (first_or keys behind))) × IsLinked links (Some key) keys behind

-- the chain is this list of keys
pub record IsChain (links : Links) (chain : Chain) (keys : List ℕ) : Type 0 where
  pub linked : IsLinked links None keys None
  pub head : chain.head ≡ first_or keys None
  pub tail : chain.tail ≡ last_or None keys
  pub count : chain.count ≡ length keys

-- what stands behind, and before
abbrev pub next_of : Option Link → Option ℕ
next_of None = None
next_of (Some link) = link.next

abbrev pub previous_of : Option Link → Option ℕ
previous_of None = None
previous_of (Some link) = link.previous

-- the key behind this one, and before it
abbrev pub next_in : Links → Option ℕ → Option ℕ
next_in links None = None
next_in links (Some key) = next_of (links key)

abbrev pub previous_in : Links → Option ℕ → Option ℕ
previous_in links None = None
previous_in links (Some key) = previous_of (links key)

-- so many keys from this one on, each behind the one before it
abbrev pub forward : Links → Option ℕ → ℕ → List ℕ
forward links at zero = []
forward links None (suc count) = []
forward links (Some key) (suc count) = key ∷ forward links (next_in links (Some key)) count

-- the keys of the chain, walked from its head
abbrev pub walk_of : Links → Chain → List ℕ
walk_of links chain = forward links chain.head chain.count

-- so many keys from this one on, each before the one before it
abbrev pub backward : Links → Option ℕ → ℕ → List ℕ
backward links at zero = []
backward links None (suc count) = []
backward links (Some key) (suc count) = key ∷ backward links (previous_in links (Some key)) count

-- the chain, walked from its head, is that list, and walked from its tail the same reversed
pub record IsWalkedBothWays (links : Links) (chain : Chain) (keys : List ℕ) : Type 0 where
  pub from_head : walk_of links chain ≡ keys
  pub from_tail : backward links chain.tail chain.count ≡ reverse keys

-- the chain is the list of its walk
abbrev pub IsWalked : Links → Chain → Type 0
IsWalked links chain = IsChain links chain (walk_of links chain)

-- a chain of no key
abbrev pub empty_chain : Chain
empty_chain = record { head = None; tail = None; count = 0 }

-- the chain of that group
abbrev pub chain_at : List Chain → ℕ → Chain
chain_at chains group = slice_index_or chains group empty_chain

-- the keys that belong to the group, in their order
abbrev pub members : (ℕ → ℕ) → ℕ → List ℕ → List ℕ
members group_of group keys = filter (λ key. group_of key == group) keys

-- each group's chain is the list of the keys that belong to it
abbrev pub AreChains : Links → (ℕ → ℕ) → List Chain → List ℕ → Type 0
AreChains links group_of chains keys = (group : ℕ) →
    IsChain links (chain_at chains group) (members group_of group keys)

-- the key is none of these
abbrev pub IsFresh : ℕ → List ℕ → Type 0
IsFresh key [] = Unit {0}
IsFresh key (other ∷ keys) = (key ≢ other) × IsFresh key keys

-- no key stands twice in the list
abbrev pub AreDistinct : List ℕ → Type 0
AreDistinct [] = Unit {0}
AreDistinct (key ∷ keys) = IsFresh key keys × AreDistinct keys

-- the chain with this key behind its last one
abbrev pub chain_with : Chain → ℕ → Chain
chain_with chain key = record { head = option_or chain.head (Some key); tail = Some key; count = chain.count + 1 }

-- the chain without the key that has these neighbours
abbrev pub chain_without : Chain → Link → Chain
chain_without chain link = record {
  head = if is_none link.previous then link.next else chain.head;
  tail = if is_none link.next then link.previous else chain.tail;
  count = chain.count - 1;
}
