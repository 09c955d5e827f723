-- Laws of the pool, over its parts.
use Rattle.std.specs.Prelude.{ℕ}
use Rattle.msg_pool.specs.declared.slot.Grouping.TheVariants.{Every, Issuer, Target}
use Rattle.msg_pool.specs.Chains.{chain_at, members, IsWalkedBothWays}
use Rattle.msg_pool.specs.Slots.{link_at, group_at}
use Rattle.msg_pool.specs.Sound.{Parts, keys_of, IsPool}

-- each list, walked from its head, is the list of all filtered, and walked from its tail the same reversed
pub record AreWalkedBothWays (parts : Parts) : Type 0 where
  pub every : IsWalkedBothWays (link_at Every parts.slots) parts.every (keys_of parts)
  pub issuers : (node : ℕ) → IsWalkedBothWays (link_at Issuer parts.slots) (chain_at parts.issuers node)
      (members (group_at Issuer parts.slots) node (keys_of parts))
  pub targets : (node : ℕ) → IsWalkedBothWays (link_at Target parts.slots) (chain_at parts.targets node)
      (members (group_at Target parts.slots) node (keys_of parts))

-- the lists of each pool are so, since its type keeps that its parts are sound
abbrev pub ListsAreWalkedBothWays : Type 0
ListsAreWalkedBothWays = (parts : Parts) → IsPool parts → AreWalkedBothWays parts
