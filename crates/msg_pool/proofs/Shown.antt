-- What the pool shows of its chains: the messages of a group, how many they are, and the one at a place.
use Rattle.std.proofs.Common.{◌≡◌, ℕ, zero, suc, Bool, true, false, cond, ◌==◌, List, [], ◌∷◌, map, length, Option, Some, None, is_some, refl, sym, ap, ◌∙◌, subst, arith, ◌≤◌}
use Rattle.std.proofs.lemmas.List.{length-map}
use Rattle.std.specs.Prelude.{slice_get}
use Rattle.std.specs.List.{filter}
use Rattle.std.specs.Option.{option_map}
use Rattle.slab.specs.Slab.{Slab, get}
use Rattle.msg_pool.specs.declared.slot.Grouping.{Grouping}
use Rattle.msg_pool.specs.declared.slot.Grouping.TheVariants.{Every, Issuer, Target}
use Rattle.msg_pool.specs.declared.slot.Slot.{Slot}
use Rattle.msg_pool.specs.declared.chain.Chain.{Chain}
use Rattle.msg_pool.specs.declared.message.MsgId.{MsgId}
use Rattle.msg_pool.specs.Pool.{ids, of_issuer, to_target, NamesOnce}
use Rattle.msg_pool.specs.Chains.{Links, IsLinked, IsChain, IsFresh, AreDistinct, chain_at, forward, members}
use Rattle.msg_pool.specs.Slots.{link_of, group_of, link_at, group_at, pending_at}
use Rattle.msg_pool.specs.Sound.{Parts, keys_of, pool_of, IsPool}
use Rattle.msg_pool.proofs.Keys.{every_chain, chain_walk, some_linked}

map-cond : (slots : Slab Slot) (key : ℕ) (keys : List ℕ) (t : Bool) → cond t (pending_at slots key ∷ map (pending_at slots) keys) (map (pending_at slots) keys) ≡ map (pending_at slots) (cond t (key ∷ keys) keys)
map-cond slots key keys true = refl
map-cond slots key keys false = refl

-- the messages of a group are those of its keys
pub filter-pending : (grouping : Grouping) (slots : Slab Slot) (group : ℕ) (keys : List ℕ) → filter (λ entry. group_of grouping entry.message == group) (map (pending_at slots) keys) ≡ map (pending_at slots) (members (group_at grouping slots) group keys)
filter-pending grouping slots group [] = refl
filter-pending grouping slots group (key ∷ keys) =
    ap (λ rest. cond (group_at grouping slots key == group) (pending_at slots key ∷ rest) rest) (filter-pending grouping slots group keys)
    ∙ map-cond slots key (members (group_at grouping slots) group keys) (group_at grouping slots key == group)

-- a chain that is some list is the walk along it
pub walked : (links : Links) (chain : Chain) (keys : List ℕ) → IsChain links chain keys → IsChain links chain (forward links chain.head chain.count)
walked links chain keys is =
    let P : List ℕ → Type 0 = λ found. IsChain links chain found in
    subst P (sym (chain_walk links chain keys is)) is

-- the id at a place of the list
pub id_of : (slots : Slab Slot) (keys : List ℕ) (k : ℕ) → slice_get (ids (map (pending_at slots) keys)) k ≡ option_map (λ key. (pending_at slots key).id) (slice_get keys k)
id_of slots [] k = refl
id_of slots (key ∷ keys) zero = refl
id_of slots (key ∷ keys) (suc k) = id_of slots keys k

fresh_nowhere : (keys : List ℕ) (k key : ℕ) → IsFresh key keys → slice_get keys k ≡ Some key → ⊥
fresh_nowhere [] k key fresh is = absurd (cc)
fresh_nowhere (first ∷ keys) zero key fresh is = fresh.0 (let same : key ≡ first = cc in same)
fresh_nowhere (first ∷ keys) (suc k) key fresh is = fresh_nowhere keys k key fresh.1 is

-- distinct keys stand at one place each
distinct_places : (keys : List ℕ) (i k key : ℕ) → AreDistinct keys → slice_get keys i ≡ Some key → slice_get keys k ≡ Some key → i ≡ k
distinct_places [] i k key distinct here there = absurd (cc)
distinct_places (first ∷ keys) zero zero key distinct here there = refl
distinct_places (first ∷ keys) zero (suc k) key distinct here there =
    let same : first ≡ key = cc in
    absurd (fresh_nowhere keys k first distinct.0 (there ∙ ap (λ found. Some found) (sym same)))
distinct_places (first ∷ keys) (suc i) zero key distinct here there =
    let same : first ≡ key = cc in
    absurd (fresh_nowhere keys i first distinct.0 (here ∙ ap (λ found. Some found) (sym same)))
distinct_places (first ∷ keys) (suc i) (suc k) key distinct here there = ap suc (distinct_places keys i k key distinct.1 here there)

-- the key at a place, of the id there
key_there : (slots : Slab Slot) (found : Option ℕ) (id : MsgId) → option_map (λ key. (pending_at slots key).id) found ≡ Some id → found ≡ Some id.key
key_there slots None id is = absurd (cc)
key_there slots (Some key) id is =
    let same : (pending_at slots key).id ≡ id = cc in
    ap (λ named. Some named.key) same

-- distinct keys name their messages once
pub names_once : (slots : Slab Slot) (keys : List ℕ) → AreDistinct keys → NamesOnce (ids (map (pending_at slots) keys))
names_once slots keys distinct i k id here there =
    distinct_places keys i k id.key distinct
    (key_there slots (slice_get keys i) id (sym (id_of slots keys i) ∙ here))
    (key_there slots (slice_get keys k) id (sym (id_of slots keys k) ∙ there))

linked_present : (links : Links) (before : Option ℕ) (keys : List ℕ) (behind : Option ℕ) (k key : ℕ) → IsLinked links before keys behind → Some key ≡ slice_get keys k → is_some (links key) ≡ true
linked_present links before [] behind k key linked is = absurd (cc)
linked_present links before (first ∷ keys) behind zero key linked is =
    let same : key ≡ first = cc in
    ap (λ found. is_some (links found)) same ∙ ap is_some linked.0
linked_present links before (first ∷ keys) behind (suc k) key linked is = linked_present links (Some first) keys behind k key linked.1 is

-- the key at a place of a chain has a message
pub present_at : (grouping : Grouping) (slots : Slab Slot) (chain : Chain) (k key : ℕ) → IsChain (link_at grouping slots) chain (forward (link_at grouping slots) chain.head chain.count) → Some key ≡ slice_get (forward (link_at grouping slots) chain.head chain.count) k → is_some (get slots key) ≡ true
present_at grouping slots chain k key is found =
    some_linked (link_of grouping) (get slots key)
    (linked_present (link_at grouping slots) None (forward (link_at grouping slots) chain.head chain.count) None k key is.linked found)

module _ (parts : Parts) (sound : IsPool parts) where
  pub every_walked : IsChain (link_at Every parts.slots) parts.every (keys_of parts)
  every_walked = every_chain parts (keys_of parts) sound

  pub issuer_walked : (group : ℕ) → IsChain (link_at Issuer parts.slots) (chain_at parts.issuers group) (forward (link_at Issuer parts.slots) (chain_at parts.issuers group).head (chain_at parts.issuers group).count)
  issuer_walked group = walked (link_at Issuer parts.slots) (chain_at parts.issuers group) _ (sound.issuers group)

  pub target_walked : (group : ℕ) → IsChain (link_at Target parts.slots) (chain_at parts.targets group) (forward (link_at Target parts.slots) (chain_at parts.targets group).head (chain_at parts.targets group).count)
  target_walked group = walked (link_at Target parts.slots) (chain_at parts.targets group) _ (sound.targets group)

  pub every_once : NamesOnce (ids (pool_of parts).pending)
  every_once = names_once parts.slots (keys_of parts) sound.distinct

  pub every_nth : (k : ℕ) → slice_get (ids (pool_of parts).pending) k ≡ option_map (λ key. (pending_at parts.slots key).id) (slice_get (keys_of parts) k)
  every_nth k = id_of parts.slots (keys_of parts) k

  pub issuer_nth : (group k : ℕ) → slice_get (ids (of_issuer group (pool_of parts).pending)) k ≡ option_map (λ key. (pending_at parts.slots key).id) (slice_get (forward (link_at Issuer parts.slots) (chain_at parts.issuers group).head (chain_at parts.issuers group).count) k)
  issuer_nth group k =
      ap (λ found. slice_get (ids found) k) (filter-pending Issuer parts.slots group (keys_of parts))
      ∙ id_of parts.slots (members (group_at Issuer parts.slots) group (keys_of parts)) k
      ∙ ap (λ keys. option_map (λ key. (pending_at parts.slots key).id) (slice_get keys k)) (sym (chain_walk (link_at Issuer parts.slots) (chain_at parts.issuers group) _ (sound.issuers group)))

  pub target_nth : (group k : ℕ) → slice_get (ids (to_target group (pool_of parts).pending)) k ≡ option_map (λ key. (pending_at parts.slots key).id) (slice_get (forward (link_at Target parts.slots) (chain_at parts.targets group).head (chain_at parts.targets group).count) k)
  target_nth group k =
      ap (λ found. slice_get (ids found) k) (filter-pending Target parts.slots group (keys_of parts))
      ∙ id_of parts.slots (members (group_at Target parts.slots) group (keys_of parts)) k
      ∙ ap (λ keys. option_map (λ key. (pending_at parts.slots key).id) (slice_get keys k)) (sym (chain_walk (link_at Target parts.slots) (chain_at parts.targets group) _ (sound.targets group)))

  pub every_count : parts.every.count ≡ length (pool_of parts).pending
  every_count = every_walked.count ∙ sym (length-map (keys_of parts) (pending_at parts.slots))

  pub issuer_count : (group : ℕ) → (chain_at parts.issuers group).count ≡ length (of_issuer group (pool_of parts).pending)
  issuer_count group =
      (sound.issuers group).count ∙ sym (length-map (members (group_at Issuer parts.slots) group (keys_of parts)) (pending_at parts.slots))
      ∙ sym (ap length (filter-pending Issuer parts.slots group (keys_of parts)))

  pub target_count : (group : ℕ) → (chain_at parts.targets group).count ≡ length (to_target group (pool_of parts).pending)
  target_count group =
      (sound.targets group).count ∙ sym (length-map (members (group_at Target parts.slots) group (keys_of parts)) (pending_at parts.slots))
      ∙ sym (ap length (filter-pending Target parts.slots group (keys_of parts)))

-- the same of a chain that was read
module _ (parts : Parts) (sound : IsPool parts) (chain : Chain) (group : ℕ) where
  pub read_issuer_walked : chain ≡ chain_at parts.issuers group → IsChain (link_at Issuer parts.slots) chain (forward (link_at Issuer parts.slots) chain.head chain.count)
  read_issuer_walked is =
      let P : Chain → Type 0 = λ found. IsChain (link_at Issuer parts.slots) found (forward (link_at Issuer parts.slots) found.head found.count) in
      subst P (sym is) (issuer_walked parts sound group)

  pub read_target_walked : chain ≡ chain_at parts.targets group → IsChain (link_at Target parts.slots) chain (forward (link_at Target parts.slots) chain.head chain.count)
  read_target_walked is =
      let P : Chain → Type 0 = λ found. IsChain (link_at Target parts.slots) found (forward (link_at Target parts.slots) found.head found.count) in
      subst P (sym is) (target_walked parts sound group)

  pub read_issuer_nth : chain ≡ chain_at parts.issuers group → (k : ℕ) → option_map (λ key. (pending_at parts.slots key).id) (slice_get (forward (link_at Issuer parts.slots) chain.head chain.count) k) ≡ slice_get (ids (of_issuer group (pool_of parts).pending)) k
  read_issuer_nth is k =
      ap (λ (found : Chain). option_map (λ key. (pending_at parts.slots key).id) (slice_get (forward (link_at Issuer parts.slots) found.head found.count) k)) is
      ∙ sym (issuer_nth parts sound group k)

  pub read_target_nth : chain ≡ chain_at parts.targets group → (k : ℕ) → option_map (λ key. (pending_at parts.slots key).id) (slice_get (forward (link_at Target parts.slots) chain.head chain.count) k) ≡ slice_get (ids (to_target group (pool_of parts).pending)) k
  read_target_nth is k =
      ap (λ (found : Chain). option_map (λ key. (pending_at parts.slots key).id) (slice_get (forward (link_at Target parts.slots) found.head found.count) k)) is
      ∙ sym (target_nth parts sound group k)

-- more room changes nothing else
pub reserved_sound : (parts : Parts) (room : ℕ) → IsPool parts → parts.slots.capacity ≤ room → IsPool (record parts { slots = record parts.slots { capacity = room } })
reserved_sound parts room sound more =
    record {
      every = sound.every;
      issuers = sound.issuers;
      targets = sound.targets;
      as_many = sound.as_many;
      distinct = sound.distinct;
      stored = sound.stored;
      numbered = sound.numbered;
      counted = sound.counted;
      few = sound.few;
      fits = omega (arith, sound.fits, more);
    }
