-- What the pool keeps, said of walks: each list walked from its head is the list of all filtered, and from its tail the
-- same reversed.
use Rattle.std.proofs.Common.{◌≡◌, ℕ, suc, ◌+◌, List, [], ◌∷◌, ◌++◌, reverse, length, Option, Some, None, sym, ap, ◌∙◌}
use Rattle.std.proofs.Common.{append_assoc, zero-add, arith}
use Rattle.std.proofs.lemmas.List.{append-nil}
use mathlib.Core.List.{reverse-cons}
use Rattle.msg_pool.specs.declared.slot.Grouping.TheVariants.{Every, Issuer, Target}
use Rattle.msg_pool.specs.declared.chain.Chain.{Chain}
use Rattle.msg_pool.specs.Chains.{Links, last_or, IsLinked, IsChain, backward, IsWalkedBothWays, previous_of, chain_at}
use Rattle.msg_pool.specs.Slots.{link_at}
use Rattle.msg_pool.specs.Sound.{Parts, keys_of, IsPool}
use Rattle.msg_pool.specs.Laws.{AreWalkedBothWays}
use Rattle.msg_pool.proofs.Keys.{every_chain, chain_walk}

back_from : (links : Links) (before : Option ℕ) (keys : List ℕ) (behind : Option ℕ) (n : ℕ) → IsLinked links before keys behind → backward links (last_or before keys) (length keys + n) ≡ reverse keys ++ backward links before n
back_from links before [] behind n linked = ap (backward links before) (zero-add n)
back_from links before (key ∷ keys) behind n linked =
    let one : suc (length keys) + n ≡ length keys + suc n = omega arith in
    ap (backward links (last_or (Some key) keys)) one
    ∙ back_from links (Some key) keys behind (suc n) linked.1
    ∙ ap (λ at. reverse keys ++ key ∷ backward links at n) (ap previous_of linked.0)
    ∙ sym (ap (λ front. front ++ backward links before n) (reverse-cons key keys)
    ∙ append_assoc (reverse keys) (key ∷ []) (backward links before n))

-- the walk from the tail gives the list reversed
pub back_walk : (links : Links) (chain : Chain) (keys : List ℕ) → IsChain links chain keys → backward links chain.tail chain.count ≡ reverse keys
back_walk links chain keys is =
    let all : length keys ≡ length keys + 0 = omega arith in
    ap (λ tail. backward links tail chain.count) is.tail ∙ ap (backward links (last_or None keys)) (is.count ∙ all)
    ∙ back_from links None keys None 0 is.linked ∙ append-nil (reverse keys)

both_ways : (links : Links) (chain : Chain) (keys : List ℕ) → IsChain links chain keys → IsWalkedBothWays links chain keys
both_ways links chain keys is = record { from_head = chain_walk links chain keys is; from_tail = back_walk links chain keys is }

pub walked_both_ways : (parts : Parts) → IsPool parts → AreWalkedBothWays parts
walked_both_ways parts sound = record {
  every = both_ways (link_at Every parts.slots) parts.every (keys_of parts) (every_chain parts (keys_of parts) sound);
  issuers = λ node. both_ways (link_at Issuer parts.slots) (chain_at parts.issuers node) _ (sound.issuers node);
  targets = λ node. both_ways (link_at Target parts.slots) (chain_at parts.targets node) _ (sound.targets node);
}
