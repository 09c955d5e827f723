-- A message is put: it is linked behind the last one of each of its lists.
use Rattle.std.proofs.Common.{◌≡◌, ◌≢◌, ℕ, ◌+◌, ◌<◌, ◌≤◌, List, [], ◌∷◌, ◌++◌, map, length, Option, Some, None, is_some, sym, ap, ◌∙◌, subst, arith, length-append}
use Rattle.std.proofs.lemmas.List.{length-set}
use Rattle.std.proofs.lemmas.List.{map-append}
use Rattle.std.specs.Prelude.{slice_set, unwrap_or}
use Rattle.std.specs.Option.{option_map}
use Rattle.slab.specs.Slab.{Slab, get, slab_len, Updates}
use Rattle.msg_pool.specs.declared.slot.Grouping.{Grouping}
use Rattle.msg_pool.specs.declared.slot.Grouping.TheVariants.{Every, Issuer, Target}
use Rattle.msg_pool.specs.declared.slot.Slot.{Slot}
use Rattle.msg_pool.specs.declared.chain.Chain.{Chain}
use Rattle.msg_pool.specs.Pool.{Pending, target_of, with_message}
use Rattle.msg_pool.specs.Chains.{neighbours, IsFresh, AreDistinct, chain_with, chain_at, AreChains}
use Rattle.msg_pool.specs.Slots.{link_of, with_next, group_of, changed, slot_at, link_at, group_at, pending_at, no_slot, Holds}
use Rattle.msg_pool.specs.Sound.{Parts, keys_of, pool_of, AreSound, IsPool}
use Rattle.msg_pool.proofs.Segments.{updated, to_next, Agree, IsFresh-left, IsFresh-right, AreDistinct-with}
use Rattle.msg_pool.proofs.Families.{SameGroups, Agree-all, Agree-fresh, SameGroups-all, SameGroups-fresh, AreChains-agree, AreChains-with}
use Rattle.msg_pool.proofs.Slabs.{link_at-next, slab_len-changed, capacity-changed}
use Rattle.msg_pool.proofs.Shapes.{other-next, pending_at-next, present-changed, updated-same, entry}
use Rattle.msg_pool.proofs.Ready.{tail_holds, holds_inserted, holds_same, count_few}
use Rattle.msg_pool.proofs.Keys.{every_chain, keys_are, is_pool, linked_fresh, EachKey-append, EachKey-fresh, map-fresh, same_pool}

-- one of the three lists, where the message stands in the slab and is linked behind the last one
family_with : (grouping : Grouping) (old new last : Slab Slot) (chains : List Chain) (keys : List ℕ) (key : ℕ) (slot : Slot) → AreDistinct keys → IsFresh key keys → AreChains (link_at grouping old) (group_at grouping old) chains keys → ((other : ℕ) → other ≢ key → get new other ≡ get old other) → get new key ≡ Some slot → group_of grouping slot.message < length chains → link_of grouping slot ≡ neighbours (chain_at chains (group_of grouping slot.message)).tail None → ((at : ℕ) → link_at grouping last at ≡ updated (to_next (Some key)) (chain_at chains (group_of grouping slot.message)).tail (link_at grouping new) at) → ((at : ℕ) → pending_at last at ≡ pending_at new at) → AreChains (link_at grouping last) (group_at grouping last) (slice_set chains (group_of grouping slot.message) (chain_with (chain_at chains (group_of grouping slot.message)) key)) (keys ++ key ∷ [])
family_with grouping old new last chains keys key slot distinct fresh was others here within link links entries =
    let group = group_of grouping slot.message in
    let group_in = λ (found : Option Slot). group_of grouping (unwrap_or found no_slot).message in
    let mine : group_at grouping new key ≡ group = ap group_in here in
    let agree : Agree (link_at grouping new) (link_at grouping old) keys =
    Agree-fresh (link_at grouping new) (link_at grouping old) key (λ other differs. ap (option_map (link_of grouping)) (others other differs)) keys fresh in
    let groups : SameGroups (group_at grouping new) (group_at grouping old) keys =
    SameGroups-fresh (group_at grouping new) (group_at grouping old) key (λ other differs. ap group_in (others other differs)) keys fresh in
    let began : AreChains (link_at grouping new) (group_at grouping new) chains keys =
    AreChains-agree (link_at grouping new) (link_at grouping old) (group_at grouping new) (group_at grouping old) chains keys agree groups was in
    let P : ℕ → Type 0 = λ found. found < length chains → link_at grouping new key ≡ Some (neighbours (chain_at chains found).tail None) → AreChains (updated (to_next (Some key)) (chain_at chains found).tail (link_at grouping new)) (group_at grouping new) (slice_set chains found (chain_with (chain_at chains found) key)) (keys ++ key ∷ []) in
    let linked : P group = subst P mine (AreChains-with (link_at grouping new) (group_at grouping new) chains keys key distinct fresh began) in
    AreChains-agree (link_at grouping last) (updated (to_next (Some key)) (chain_at chains group).tail (link_at grouping new)) (group_at grouping last) (group_at grouping new) (slice_set chains group (chain_with (chain_at chains group) key)) (keys ++ key ∷ [])
    (Agree-all _ _ links (keys ++ key ∷ []))
    (SameGroups-all _ _ (λ at. ap (λ (one : Pending). group_of grouping one.message) (entries at)) (keys ++ key ∷ []))
    (linked within (ap (option_map (link_of grouping)) here ∙ ap (λ found. Some found) link))

-- the message stands in the slab under a key that had none, with its neighbours behind the last ones
pub record IsInserted (parts : Parts) (slot : Slot) (key : ℕ) (new : Slab Slot) : Type 0 where
  pub updates : Updates parts.slots new key (Some slot)
  pub vacant : get parts.slots key ≡ None
  pub counted : slab_len new ≡ slab_len parts.slots + 1
  pub capacity : new.capacity ≡ parts.slots.capacity
  pub room : slab_len parts.slots + 1 ≤ parts.slots.capacity
  pub serial : slot.serial ≡ parts.puts
  pub every : slot.every ≡ neighbours parts.every.tail None
  pub issuer : slot.issuer ≡ neighbours (chain_at parts.issuers slot.message.issuer).tail None
  pub target : slot.target ≡ neighbours (chain_at parts.targets (target_of slot.message)).tail None
  pub issuer_within : slot.message.issuer < length parts.issuers
  pub target_within : target_of slot.message < length parts.targets

-- the slab after the last ones of its three lists lead to the message
abbrev pub once : Parts → ℕ → Slab Slot → Slab Slot
once parts key new = changed (with_next Every (Some key)) parts.every.tail new

abbrev pub twice : Parts → Slot → ℕ → Slab Slot → Slab Slot
twice parts slot key new = changed (with_next Issuer (Some key)) (chain_at parts.issuers slot.message.issuer).tail (once parts key new)

abbrev pub thrice : Parts → Slot → ℕ → Slab Slot → Slab Slot
thrice parts slot key new = changed (with_next Target (Some key)) (chain_at parts.targets (target_of slot.message)).tail (twice parts slot key new)

-- what the pool is made of then
abbrev pub after_put : Parts → Slot → ℕ → Slab Slot → Parts
after_put parts slot key new = record {
  slots = thrice parts slot key new;
  every = chain_with parts.every key;
  issuers = slice_set parts.issuers slot.message.issuer (chain_with (chain_at parts.issuers slot.message.issuer) key);
  targets = slice_set parts.targets (target_of slot.message) (chain_with (chain_at parts.targets (target_of slot.message)) key);
  puts = parts.puts + 1;
}

module _ (parts : Parts) (slot : Slot) (key : ℕ) (new : Slab Slot) (inserted : IsInserted parts slot key new) where
  entries : (at : ℕ) → pending_at (thrice parts slot key new) at ≡ pending_at new at
  entries at =
      pending_at-next Target (Some key) (chain_at parts.targets (target_of slot.message)).tail (twice parts slot key new) at
      ∙ pending_at-next Issuer (Some key) (chain_at parts.issuers slot.message.issuer).tail (once parts key new) at
      ∙ pending_at-next Every (Some key) parts.every.tail new at

  same_entry : (other : ℕ) → other ≢ key → pending_at (thrice parts slot key new) other ≡ pending_at parts.slots other
  same_entry other differs = entries other ∙ ap (entry other) (inserted.updates.others other differs)

  new_entry : pending_at (thrice parts slot key new) key ≡ record { id = record { key = key; serial = parts.puts }; message = slot.message }
  new_entry =
      let named : ℕ → Pending = λ serial. record { id = record { key = key; serial = serial }; message = slot.message } in
      entries key ∙ ap (entry key) inserted.updates.changed ∙ ap named inserted.serial

  every_links : (at : ℕ) → link_at Every (thrice parts slot key new) at ≡ updated (to_next (Some key)) parts.every.tail (link_at Every new) at
  every_links at =
      other-next Every Target tt (Some key) (chain_at parts.targets (target_of slot.message)).tail (twice parts slot key new) at
      ∙ other-next Every Issuer tt (Some key) (chain_at parts.issuers slot.message.issuer).tail (once parts key new) at
      ∙ link_at-next Every (Some key) parts.every.tail new at

  issuer_links : (at : ℕ) → link_at Issuer (thrice parts slot key new) at ≡ updated (to_next (Some key)) (chain_at parts.issuers slot.message.issuer).tail (link_at Issuer new) at
  issuer_links at =
      let tail = (chain_at parts.issuers slot.message.issuer).tail in
      other-next Issuer Target tt (Some key) (chain_at parts.targets (target_of slot.message)).tail (twice parts slot key new) at
      ∙ link_at-next Issuer (Some key) tail (once parts key new) at
      ∙ updated-same (to_next (Some key)) tail (link_at Issuer (once parts key new)) (link_at Issuer new) at
      (other-next Issuer Every tt (Some key) parts.every.tail new at)

  target_links : (at : ℕ) → link_at Target (thrice parts slot key new) at ≡ updated (to_next (Some key)) (chain_at parts.targets (target_of slot.message)).tail (link_at Target new) at
  target_links at =
      let tail = (chain_at parts.targets (target_of slot.message)).tail in
      link_at-next Target (Some key) tail (twice parts slot key new) at
      ∙ updated-same (to_next (Some key)) tail (link_at Target (twice parts slot key new)) (link_at Target new) at
      (other-next Target Issuer tt (Some key) (chain_at parts.issuers slot.message.issuer).tail (once parts key new) at
      ∙ other-next Target Every tt (Some key) parts.every.tail new at)

  present : (at : ℕ) → is_some (get (thrice parts slot key new) at) ≡ is_some (get new at)
  present at =
      present-changed (with_next Target (Some key)) (chain_at parts.targets (target_of slot.message)).tail (twice parts slot key new) at
      ∙ present-changed (with_next Issuer (Some key)) (chain_at parts.issuers slot.message.issuer).tail (once parts key new) at
      ∙ present-changed (with_next Every (Some key)) parts.every.tail new at

  as_long : slab_len (thrice parts slot key new) ≡ slab_len new
  as_long =
      slab_len-changed (with_next Target (Some key)) (chain_at parts.targets (target_of slot.message)).tail (twice parts slot key new)
      ∙ slab_len-changed (with_next Issuer (Some key)) (chain_at parts.issuers slot.message.issuer).tail (once parts key new)
      ∙ slab_len-changed (with_next Every (Some key)) parts.every.tail new

  as_wide : (thrice parts slot key new).capacity ≡ new.capacity
  as_wide =
      capacity-changed (with_next Target (Some key)) (chain_at parts.targets (target_of slot.message)).tail (twice parts slot key new)
      ∙ capacity-changed (with_next Issuer (Some key)) (chain_at parts.issuers slot.message.issuer).tail (once parts key new)
      ∙ capacity-changed (with_next Every (Some key)) parts.every.tail new

  module _ (keys : List ℕ) (sound : AreSound parts keys) where
    fresh : IsFresh key keys
    fresh =
        linked_fresh (link_at Every parts.slots) None keys None key (every_chain parts keys sound).linked
        (ap (option_map (link_of Every)) inserted.vacant)

    pub put_sound : AreSound (after_put parts slot key new) (keys ++ key ∷ [])
    put_sound =
        let others = inserted.updates.others in
        let here = inserted.updates.changed in
        let last = thrice parts slot key new in
        record {
          every = family_with Every parts.slots new last (parts.every ∷ []) keys key slot sound.distinct fresh sound.every others here (omega arith) inserted.every every_links entries;
          issuers = family_with Issuer parts.slots new last parts.issuers keys key slot sound.distinct fresh sound.issuers others here inserted.issuer_within inserted.issuer issuer_links entries;
          targets = family_with Target parts.slots new last parts.targets keys key slot sound.distinct fresh sound.targets others here inserted.target_within inserted.target target_links entries;
          as_many = length-set parts.targets _ _ ∙ sound.as_many ∙ sym (length-set parts.issuers _ _);
          distinct = AreDistinct-with key keys sound.distinct fresh;
          stored = λ at stands apart.
              let differs : at ≢ key = (IsFresh-right at keys (key ∷ []) apart).0 in
              sound.stored at (sym (ap is_some (others at differs)) ∙ sym (present at) ∙ stands) (IsFresh-left at keys (key ∷ []) apart);
          numbered =
              let earlier : (at : ℕ) → at ≢ key → (slot_at parts.slots at).serial < parts.puts → (slot_at last at).serial < parts.puts + 1 =
              λ at differs less.
              let same : (slot_at last at).serial ≡ (slot_at parts.slots at).serial = ap (λ (one : Pending). one.id.serial) (same_entry at differs) in
              omega (arith, same, less) in
              let newest : (slot_at last key).serial ≡ parts.puts = ap (λ (one : Pending). one.id.serial) new_entry in
              EachKey-append (λ at. (slot_at last at).serial < parts.puts + 1) keys (key ∷ [])
              (EachKey-fresh (λ at. (slot_at parts.slots at).serial < parts.puts) (λ at. (slot_at last at).serial < parts.puts + 1) key earlier keys fresh sound.numbered)
              (omega (arith, newest), tt);
          counted = omega (arith, as_long, inserted.counted, sound.counted, length-append keys (key ∷ []));
          few = omega (arith, sound.few, length-append keys (key ∷ []));
          fits = omega (arith, as_long, as_wide, inserted.counted, inserted.capacity, inserted.room);
        }

    pub put_pool : pool_of (after_put parts slot key new) ≡ with_message (pool_of parts) (record { key = key; serial = parts.puts }) slot.message
    put_pool =
        let last = thrice parts slot key new in
        let shown : map (pending_at last) (keys_of (after_put parts slot key new)) ≡ map (pending_at parts.slots) (keys_of parts) ++ record { id = record { key = key; serial = parts.puts }; message = slot.message } ∷ [] =
        ap (map (pending_at last)) (keys_are (after_put parts slot key new) (keys ++ key ∷ []) put_sound)
        ∙ map-append (pending_at last) keys (key ∷ [])
        ∙ ap (λ front. front ++ pending_at last key ∷ [])
        (map-fresh (pending_at last) (pending_at parts.slots) key same_entry keys fresh ∙ ap (map (pending_at parts.slots)) (sym (keys_are parts keys sound)))
        ∙ ap (λ one. map (pending_at parts.slots) (keys_of parts) ++ one ∷ []) new_entry in
        same_pool _ _ _ _ (parts.puts + 1) _ _ shown
        (omega (arith, as_long, as_wide, inserted.counted, inserted.capacity))
        (length-set parts.issuers _ _)

made_parts : Slab Slot → Chain → List Chain → List Chain → ℕ → Parts
made_parts slots every issuers targets puts = record { slots = slots; every = every; issuers = issuers; targets = targets; puts = puts }

-- parts whose fields are equal are the same
pub same_parts : (slots other_slots : Slab Slot) (every other_every : Chain) (issuers other_issuers targets other_targets : List Chain) (puts : ℕ) → slots ≡ other_slots → every ≡ other_every → issuers ≡ other_issuers → targets ≡ other_targets → ◌≡◌ {A = Parts} (record { slots = other_slots; every = other_every; issuers = other_issuers; targets = other_targets; puts = puts }) (record { slots = slots; every = every; issuers = issuers; targets = targets; puts = puts })
unfolding made_parts
same_parts slots other_slots every other_every issuers other_issuers targets other_targets puts e f g h =
    sym (ap (λ x. made_parts x every issuers targets puts) e ∙ ap (λ x. made_parts other_slots x issuers targets puts) f
    ∙ ap (λ x. made_parts other_slots other_every x targets puts) g ∙ ap (λ x. made_parts other_slots other_every other_issuers x puts) h)

-- what the pool is made of after its three steps, and what it then shows
pub put_done : (parts : Parts) (slot : Slot) (key : ℕ) (new second third last : Slab Slot) (every of_issuer to_target : Chain) → IsPool parts → IsInserted parts slot key new → second ≡ once parts key new → third ≡ changed (with_next Issuer (Some key)) (chain_at parts.issuers slot.message.issuer).tail second → last ≡ changed (with_next Target (Some key)) (chain_at parts.targets (target_of slot.message)).tail third → every ≡ chain_with parts.every key → of_issuer ≡ chain_with (chain_at parts.issuers slot.message.issuer) key → to_target ≡ chain_with (chain_at parts.targets (target_of slot.message)) key → let after : Parts = record { slots = last; every = every; issuers = slice_set parts.issuers slot.message.issuer of_issuer; targets = slice_set parts.targets (target_of slot.message) to_target; puts = parts.puts + 1 } in IsPool after × (pool_of after ≡ with_message (pool_of parts) (record { key = key; serial = parts.puts }) slot.message)
put_done parts slot key new second third last every of_issuer to_target sound inserted e2 e3 e4 f g h =
    let keys = keys_of parts in
    let P : Parts → Type 0 = λ after. IsPool after × (pool_of after ≡ with_message (pool_of parts) (record { key = key; serial = parts.puts }) slot.message) in
    let third_is : third ≡ twice parts slot key new = e3 ∙ ap (changed (with_next Issuer (Some key)) (chain_at parts.issuers slot.message.issuer).tail) e2 in
    let last_is : last ≡ thrice parts slot key new = e4 ∙ ap (changed (with_next Target (Some key)) (chain_at parts.targets (target_of slot.message)).tail) third_is in
    subst P
    (same_parts last (thrice parts slot key new) every _ (slice_set parts.issuers slot.message.issuer of_issuer) _ (slice_set parts.targets (target_of slot.message) to_target) _ (parts.puts + 1)
    last_is f (ap (slice_set parts.issuers slot.message.issuer) g) (ap (slice_set parts.targets (target_of slot.message)) h))
    (is_pool (after_put parts slot key new) (keys ++ key ∷ []) (put_sound parts slot key new inserted keys sound), put_pool parts slot key new inserted keys sound)

-- the steps may be taken
pub every_ready : (parts : Parts) (slot : Slot) (key : ℕ) (new : Slab Slot) → IsPool parts → Updates parts.slots new key (Some slot) → Holds new parts.every.tail
every_ready parts slot key new sound updates =
    holds_inserted parts.slots new key slot updates parts.every.tail (tail_holds Every parts.slots (parts.every ∷ []) (keys_of parts) 0 sound.every)

pub issuer_ready : (parts : Parts) (slot : Slot) (key : ℕ) (new second : Slab Slot) (group : ℕ) → IsPool parts → Updates parts.slots new key (Some slot) → second ≡ once parts key new → Holds second (chain_at parts.issuers group).tail
issuer_ready parts slot key new second group sound updates e2 =
    let at = (chain_at parts.issuers group).tail in
    let P : Slab Slot → Type 0 = λ slots. Holds slots at in
    subst P (sym e2)
    (holds_same (once parts key new) new (present-changed (with_next Every (Some key)) parts.every.tail new) at
    (holds_inserted parts.slots new key slot updates at (tail_holds Issuer parts.slots parts.issuers (keys_of parts) group sound.issuers)))

pub target_ready : (parts : Parts) (slot : Slot) (key : ℕ) (new second third : Slab Slot) (group issuer : ℕ) → IsPool parts → Updates parts.slots new key (Some slot) → second ≡ once parts key new → third ≡ changed (with_next Issuer (Some key)) (chain_at parts.issuers issuer).tail second → Holds third (chain_at parts.targets group).tail
target_ready parts slot key new second third group issuer sound updates e2 e3 =
    let at = (chain_at parts.targets group).tail in
    let from = (chain_at parts.issuers issuer).tail in
    let P : Slab Slot → Type 0 = λ slots. Holds slots at in
    subst P (sym (e3 ∙ ap (changed (with_next Issuer (Some key)) from) e2))
    (holds_same (changed (with_next Issuer (Some key)) from (once parts key new)) (once parts key new) (present-changed (with_next Issuer (Some key)) from (once parts key new)) at
    (holds_same (once parts key new) new (present-changed (with_next Every (Some key)) parts.every.tail new) at
    (holds_inserted parts.slots new key slot updates at (tail_holds Target parts.slots parts.targets (keys_of parts) group sound.targets))))

pub every_few : (parts : Parts) → IsPool parts → parts.every.count ≤ parts.puts
every_few parts sound = omega (arith, count_few (link_at Every parts.slots) (group_at Every parts.slots) (parts.every ∷ []) (keys_of parts) 0 sound.every, sound.few)

pub issuer_few : (parts : Parts) (group : ℕ) → IsPool parts → (chain_at parts.issuers group).count ≤ parts.puts
issuer_few parts group sound = omega (arith, count_few (link_at Issuer parts.slots) (group_at Issuer parts.slots) parts.issuers (keys_of parts) group sound.issuers, sound.few)

pub target_few : (parts : Parts) (group : ℕ) → IsPool parts → (chain_at parts.targets group).count ≤ parts.puts
target_few parts group sound = omega (arith, count_few (link_at Target parts.slots) (group_at Target parts.slots) parts.targets (keys_of parts) group sound.targets, sound.few)
