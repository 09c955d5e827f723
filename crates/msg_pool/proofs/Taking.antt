-- A message is taken out: its neighbours on each of its lists are linked with each other.
use Rattle.std.proofs.Common.{◌≡◌, ◌≢◌, ℕ, ◌+◌, ◌<◌, List, [], ◌∷◌, ◌++◌, map, length, Option, Some, None, is_some, true, false, refl, sym, ap, ◌∙◌, subst, ⊎_elim, arith, length-append, Contains}
use Rattle.std.proofs.lemmas.Bool.{cases_eq}
use Rattle.std.proofs.lemmas.List.{length-set, map-append}
use Rattle.std.proofs.lemmas.List.Elements.{Contains-append_right}
use Rattle.std.specs.Prelude.{slice_set, unwrap_or}
use Rattle.std.specs.Option.{option_map}
use Rattle.slab.specs.Slab.{Slab, get, slab_len, Updates}
use Rattle.msg_pool.specs.declared.message.Message.{Message}
use Rattle.msg_pool.specs.declared.message.MsgId.{MsgId}
use Rattle.msg_pool.specs.declared.slot.Grouping.{Grouping}
use Rattle.msg_pool.specs.declared.slot.Grouping.TheVariants.{Every, Issuer, Target}
use Rattle.msg_pool.specs.declared.slot.Link.{Link}
use Rattle.msg_pool.specs.declared.slot.Slot.{Slot}
use Rattle.msg_pool.specs.declared.chain.Chain.{Chain}
use Rattle.msg_pool.specs.Pool.{Pool, Pending, target_of, Takes, ids}
use Rattle.msg_pool.specs.Chains.{Links, IsLinked, IsFresh, AreDistinct, chain_without, chain_at, AreChains}
use Rattle.msg_pool.specs.Slots.{link_of, group_of, slot_at, link_at, group_at, pending_at, no_slot, Holds}
use Rattle.msg_pool.specs.Sound.{Parts, keys_of, pool_of, AreSound, IsPool}
use Rattle.msg_pool.proofs.Segments.{bypassed, AreDistinct-without, IsLinked-right}
use Rattle.msg_pool.proofs.Families.{Agree-fresh, SameGroups-fresh, AreChains-agree, AreChains-without, group_within}
use Rattle.msg_pool.proofs.Putting.{same_parts}
use Rattle.msg_pool.proofs.Ready.{holds_same, neighbours_hold, count_some}
use Rattle.msg_pool.proofs.Shapes.{bypass, link_at-bypass, other-bypass, pending_at-bypass, present-bypass, slab_len-bypass, capacity-bypass, bypassed-same, entry}
use Rattle.msg_pool.proofs.Keys.{every_chain, some_linked, key_of_id, keys_are, is_pool, split_at, fresh_beside, fresh_among, EachKey-left, EachKey-right, EachKey-append, EachKey-fresh, map-fresh, same_pool}

-- one of the three lists, where the message's neighbours there are linked and then the message is removed
family_without : (grouping : Grouping) (old last new : Slab Slot) (chains : List Chain) (xs : List ℕ) (key : ℕ) (ys : List ℕ) (slot : Slot) → AreDistinct (xs ++ key ∷ ys) → AreChains (link_at grouping old) (group_at grouping old) chains (xs ++ key ∷ ys) → get old key ≡ Some slot → ((at : ℕ) → link_at grouping last at ≡ bypassed (link_of grouping slot) (link_at grouping old) at) → ((at : ℕ) → pending_at last at ≡ pending_at old at) → ((other : ℕ) → other ≢ key → get new other ≡ get last other) → AreChains (link_at grouping new) (group_at grouping new) (slice_set chains (group_of grouping slot.message) (chain_without (chain_at chains (group_of grouping slot.message)) (link_of grouping slot))) (xs ++ ys)
family_without grouping old last new chains xs key ys slot distinct was here links entries others =
    let group = group_of grouping slot.message in
    let link = link_of grouping slot in
    let group_in = λ (found : Option Slot). group_of grouping (unwrap_or found no_slot).message in
    let mine : group_at grouping old key ≡ group = ap group_in here in
    let beside = fresh_beside key xs ys distinct in
    let P : ℕ → Type 0 = λ found. AreChains (bypassed link (link_at grouping old)) (group_at grouping old) (slice_set chains found (chain_without (chain_at chains found) link)) (xs ++ ys) in
    let linked : P group =
    subst P mine (AreChains-without (link_at grouping old) (group_at grouping old) chains xs key ys link distinct was (ap (option_map (link_of grouping)) here)) in
    let same_links : (other : ℕ) → other ≢ key → link_at grouping new other ≡ bypassed link (link_at grouping old) other =
    λ other differs. ap (option_map (link_of grouping)) (others other differs) ∙ links other in
    let same_groups : (other : ℕ) → other ≢ key → group_at grouping new other ≡ group_at grouping old other =
    λ other differs. ap group_in (others other differs) ∙ ap (λ (one : Pending). group_of grouping one.message) (entries other) in
    AreChains-agree (link_at grouping new) (bypassed link (link_at grouping old)) (group_at grouping new) (group_at grouping old) (slice_set chains group (chain_without (chain_at chains group) link)) (xs ++ ys)
    (Agree-fresh (link_at grouping new) (bypassed link (link_at grouping old)) key same_links (xs ++ ys) beside)
    (SameGroups-fresh (group_at grouping new) (group_at grouping old) key same_groups (xs ++ ys) beside)
    linked

bypassed_same : (grouping : Grouping) (link : Link) (new old : Slab Slot) → ((key : ℕ) → link_at grouping new key ≡ link_at grouping old key) → (at : ℕ) → bypassed link (link_at grouping new) at ≡ bypassed link (link_at grouping old) at
bypassed_same grouping link new old same at = bypassed-same link (link_at grouping new) (link_at grouping old) at (same at)

pub none_is_full : false ≡ true → ⊥
none_is_full e = cc

-- the slab after the message's neighbours on its three lists are linked with each other
abbrev pub bypassed_all : Slot → Slab Slot → Slab Slot
bypassed_all slot slots = bypass Target slot.target (bypass Issuer slot.issuer (bypass Every slot.every slots))

-- the message of that key is removed after that
pub record IsRemoved (parts : Parts) (slot : Slot) (id : MsgId) (new : Slab Slot) : Type 0 where
  pub here : get parts.slots id.key ≡ Some slot
  pub serial : slot.serial ≡ id.serial
  pub updates : Updates (bypassed_all slot parts.slots) new id.key None
  pub counted : slab_len new + 1 ≡ slab_len (bypassed_all slot parts.slots)
  pub capacity : new.capacity ≡ (bypassed_all slot parts.slots).capacity

-- what the pool is made of then
abbrev pub after_take : Parts → Slot → Slab Slot → Parts
after_take parts slot new = record {
  slots = new;
  every = chain_without parts.every slot.every;
  issuers = slice_set parts.issuers slot.message.issuer (chain_without (chain_at parts.issuers slot.message.issuer) slot.issuer);
  targets = slice_set parts.targets (target_of slot.message) (chain_without (chain_at parts.targets (target_of slot.message)) slot.target);
  puts = parts.puts;
}

module _ (parts : Parts) (slot : Slot) (id : MsgId) (new : Slab Slot) (removed : IsRemoved parts slot id new) where
  entries : (at : ℕ) → pending_at (bypassed_all slot parts.slots) at ≡ pending_at parts.slots at
  entries at =
      pending_at-bypass Target slot.target (bypass Issuer slot.issuer (bypass Every slot.every parts.slots)) at
      ∙ pending_at-bypass Issuer slot.issuer (bypass Every slot.every parts.slots) at
      ∙ pending_at-bypass Every slot.every parts.slots at

  same_entry : (other : ℕ) → other ≢ id.key → pending_at new other ≡ pending_at parts.slots other
  same_entry other differs = ap (entry other) (removed.updates.others other differs) ∙ entries other

  every_links : (at : ℕ) → link_at Every (bypassed_all slot parts.slots) at ≡ bypassed slot.every (link_at Every parts.slots) at
  every_links at =
      other-bypass Every Target tt slot.target (bypass Issuer slot.issuer (bypass Every slot.every parts.slots)) at
      ∙ other-bypass Every Issuer tt slot.issuer (bypass Every slot.every parts.slots) at
      ∙ link_at-bypass Every slot.every parts.slots at

  issuer_links : (at : ℕ) → link_at Issuer (bypassed_all slot parts.slots) at ≡ bypassed slot.issuer (link_at Issuer parts.slots) at
  issuer_links at =
      other-bypass Issuer Target tt slot.target (bypass Issuer slot.issuer (bypass Every slot.every parts.slots)) at
      ∙ link_at-bypass Issuer slot.issuer (bypass Every slot.every parts.slots) at
      ∙ bypassed_same Issuer slot.issuer (bypass Every slot.every parts.slots) parts.slots (other-bypass Issuer Every tt slot.every parts.slots) at

  target_links : (at : ℕ) → link_at Target (bypassed_all slot parts.slots) at ≡ bypassed slot.target (link_at Target parts.slots) at
  target_links at =
      link_at-bypass Target slot.target (bypass Issuer slot.issuer (bypass Every slot.every parts.slots)) at
      ∙ bypassed_same Target slot.target (bypass Issuer slot.issuer (bypass Every slot.every parts.slots)) parts.slots
      (λ key. other-bypass Target Issuer tt slot.issuer (bypass Every slot.every parts.slots) key ∙ other-bypass Target Every tt slot.every parts.slots key) at

  present : (at : ℕ) → is_some (get (bypassed_all slot parts.slots) at) ≡ is_some (get parts.slots at)
  present at =
      present-bypass Target slot.target (bypass Issuer slot.issuer (bypass Every slot.every parts.slots)) at
      ∙ present-bypass Issuer slot.issuer (bypass Every slot.every parts.slots) at
      ∙ present-bypass Every slot.every parts.slots at

  as_long : slab_len (bypassed_all slot parts.slots) ≡ slab_len parts.slots
  as_long =
      slab_len-bypass Target slot.target (bypass Issuer slot.issuer (bypass Every slot.every parts.slots))
      ∙ slab_len-bypass Issuer slot.issuer (bypass Every slot.every parts.slots)
      ∙ slab_len-bypass Every slot.every parts.slots

  as_wide : (bypassed_all slot parts.slots).capacity ≡ parts.slots.capacity
  as_wide =
      capacity-bypass Target slot.target (bypass Issuer slot.issuer (bypass Every slot.every parts.slots))
      ∙ capacity-bypass Issuer slot.issuer (bypass Every slot.every parts.slots)
      ∙ capacity-bypass Every slot.every parts.slots

  module _ (xs ys : List ℕ) (sound : AreSound parts (xs ++ id.key ∷ ys)) where
    beside : IsFresh id.key (xs ++ ys)
    beside = fresh_beside id.key xs ys sound.distinct

    pub take_sound : AreSound (after_take parts slot new) (xs ++ ys)
    take_sound =
        let last = bypassed_all slot parts.slots in
        let others = removed.updates.others in
        let lengths = length-append xs (id.key ∷ ys) in
        record {
          every = family_without Every parts.slots last new (parts.every ∷ []) xs id.key ys slot sound.distinct sound.every removed.here every_links entries others;
          issuers = family_without Issuer parts.slots last new parts.issuers xs id.key ys slot sound.distinct sound.issuers removed.here issuer_links entries others;
          targets = family_without Target parts.slots last new parts.targets xs id.key ys slot sound.distinct sound.targets removed.here target_links entries others;
          as_many = length-set parts.targets _ _ ∙ sound.as_many ∙ sym (length-set parts.issuers _ _);
          distinct = AreDistinct-without id.key xs ys sound.distinct;
          stored = λ at stands apart.
              ⊎_elim {C = ⊥}
              (λ same. none_is_full (sym (ap is_some (ap (get new) same ∙ removed.updates.changed)) ∙ stands))
              (λ differs.
              sound.stored at (sym (ap is_some (others at differs) ∙ present at) ∙ stands) (fresh_among id.key at xs ys differs apart))
              (cases_eq at id.key);
          numbered =
              let P : ℕ → Type 0 = λ at. (slot_at parts.slots at).serial < parts.puts in
              let Q : ℕ → Type 0 = λ at. (slot_at new at).serial < parts.puts in
              let stays : (at : ℕ) → at ≢ id.key → P at → Q at =
              λ at differs less.
              let same : (slot_at new at).serial ≡ (slot_at parts.slots at).serial = ap (λ (one : Pending). one.id.serial) (same_entry at differs) in
              omega (arith, same, less) in
              EachKey-fresh P Q id.key stays (xs ++ ys) beside
              (EachKey-append P xs ys (EachKey-left P xs (id.key ∷ ys) sound.numbered) (EachKey-right P xs (id.key ∷ ys) sound.numbered).1);
          counted = omega (arith, as_long, removed.counted, sound.counted, lengths, length-append xs ys);
          few = omega (arith, sound.few, lengths, length-append xs ys);
          fits = omega (arith, as_long, as_wide, removed.counted, removed.capacity, sound.fits);
        }

    pub take_pool : Takes (pool_of parts) id slot.message (pool_of (after_take parts slot new))
    take_pool =
        let seen = pending_at parts.slots in
        let named : ℕ → Pending = λ serial. record { id = record { key = id.key; serial = serial }; message = slot.message } in
        let mine : seen id.key ≡ record { id = id; message = slot.message } = ap (entry id.key) removed.here ∙ ap named removed.serial in
        let left : map (pending_at new) (keys_of (after_take parts slot new)) ≡ map seen xs ++ map seen ys =
        ap (map (pending_at new)) (keys_are (after_take parts slot new) (xs ++ ys) take_sound)
        ∙ map-fresh (pending_at new) seen id.key same_entry (xs ++ ys) beside
        ∙ map-append seen xs ys in
        record {
          before = map seen xs;
          after = map seen ys;
          was =
              ap (map seen) (keys_are parts (xs ++ id.key ∷ ys) sound) ∙ map-append seen xs (id.key ∷ ys)
              ∙ ap (λ one. map seen xs ++ one ∷ map seen ys) mine;
          is = same_pool _ _ _ _ parts.puts _ _ left
              (omega (arith, as_long, as_wide, removed.counted, removed.capacity, sound.fits))
              (length-set parts.issuers _ _);
        }

-- a pool that has a message under the key has that key on its list
pub take_split : (parts : Parts) (slot : Slot) (key : ℕ) → IsPool parts → get parts.slots key ≡ Some slot → (xs : List ℕ) × (ys : List ℕ) × AreSound parts (xs ++ key ∷ ys)
take_split parts slot key sound here =
    let split = split_at key (keys_of parts) (sound.stored key (ap is_some here)) in
    let P : List ℕ → Type 0 = λ keys. AreSound parts keys in
    (split.0, split.1, subst P split.2 sound)

-- what the pool is made of after its three steps and the removal, and what it then shows
pub take_done : (parts : Parts) (slot : Slot) (id : MsgId) (second third last new : Slab Slot) (every of_issuer to_target : Chain) → IsPool parts → get parts.slots id.key ≡ Some slot → slot.serial ≡ id.serial → second ≡ bypass Every slot.every parts.slots → third ≡ bypass Issuer slot.issuer second → last ≡ bypass Target slot.target third → Updates last new id.key None → slab_len new + 1 ≡ slab_len last → new.capacity ≡ last.capacity → every ≡ chain_without parts.every slot.every → of_issuer ≡ chain_without (chain_at parts.issuers slot.message.issuer) slot.issuer → to_target ≡ chain_without (chain_at parts.targets (target_of slot.message)) slot.target → let after : Parts = record { slots = new; every = every; issuers = slice_set parts.issuers slot.message.issuer of_issuer; targets = slice_set parts.targets (target_of slot.message) to_target; puts = parts.puts } in IsPool after × Takes (pool_of parts) id slot.message (pool_of after)
take_done parts slot id second third last new every of_issuer to_target sound here serial e2 e3 e4 updates counted capacity f g h =
    let split = take_split parts slot id.key sound here in
    let P : Parts → Type 0 = λ after. IsPool after × Takes (pool_of parts) id slot.message (pool_of after) in
    let last_is : last ≡ bypassed_all slot parts.slots = e4 ∙ ap (bypass Target slot.target) (e3 ∙ ap (bypass Issuer slot.issuer) e2) in
    let Q : Slab Slot → Type 0 = λ slots. Updates slots new id.key None in
    let removed : IsRemoved parts slot id new =
    record {
      here = here;
      serial = serial;
      updates = subst Q last_is updates;
      counted = counted ∙ ap slab_len last_is;
      capacity = capacity ∙ ap (λ (slots : Slab Slot). slots.capacity) last_is;
    } in
    subst P
    (same_parts new new every _ (slice_set parts.issuers slot.message.issuer of_issuer) _ (slice_set parts.targets (target_of slot.message) to_target) _ parts.puts
    refl f (ap (slice_set parts.issuers slot.message.issuer) g) (ap (slice_set parts.targets (target_of slot.message)) h)) (
      is_pool (after_take parts slot new) (split.0 ++ split.1) (take_sound parts slot id new removed split.0 split.1 split.2),
      take_pool parts slot id new removed split.0 split.1 split.2,
    )

-- the steps may be taken: the neighbours are there
pub every_neighbours : (parts : Parts) (slot : Slot) (key : ℕ) → IsPool parts → get parts.slots key ≡ Some slot → Holds parts.slots slot.every.next × Holds parts.slots slot.every.previous
every_neighbours parts slot key sound here =
    let split = take_split parts slot key sound here in
    neighbours_hold Every parts.slots (parts.every ∷ []) split.0 key split.1 slot split.2.every here

pub issuer_neighbours : (parts : Parts) (slot : Slot) (key : ℕ) (second : Slab Slot) → IsPool parts → get parts.slots key ≡ Some slot → second ≡ bypass Every slot.every parts.slots → Holds second slot.issuer.next × Holds second slot.issuer.previous
issuer_neighbours parts slot key second sound here e2 =
    let split = take_split parts slot key sound here in
    let held = neighbours_hold Issuer parts.slots parts.issuers split.0 key split.1 slot split.2.issuers here in
    let same : (at : ℕ) → is_some (get second at) ≡ is_some (get parts.slots at) =
    λ at. ap (λ slots. is_some (get slots at)) e2 ∙ present-bypass Every slot.every parts.slots at in
    (holds_same second parts.slots same slot.issuer.next held.0, holds_same second parts.slots same slot.issuer.previous held.1)

pub target_neighbours : (parts : Parts) (slot : Slot) (key : ℕ) (second third : Slab Slot) → IsPool parts → get parts.slots key ≡ Some slot → second ≡ bypass Every slot.every parts.slots → third ≡ bypass Issuer slot.issuer second → Holds third slot.target.next × Holds third slot.target.previous
target_neighbours parts slot key second third sound here e2 e3 =
    let split = take_split parts slot key sound here in
    let held = neighbours_hold Target parts.slots parts.targets split.0 key split.1 slot split.2.targets here in
    let same : (at : ℕ) → is_some (get third at) ≡ is_some (get parts.slots at) =
    λ at. ap (λ slots. is_some (get slots at)) e3 ∙ present-bypass Issuer slot.issuer second at
    ∙ ap (λ slots. is_some (get slots at)) e2 ∙ present-bypass Every slot.every parts.slots at in
    (holds_same third parts.slots same slot.target.next held.0, holds_same third parts.slots same slot.target.previous held.1)

-- the message is still there when it is removed
pub still_there : (slots second third last : Slab Slot) (slot : Slot) (key : ℕ) → get slots key ≡ Some slot → second ≡ bypass Every slot.every slots → third ≡ bypass Issuer slot.issuer second → last ≡ bypass Target slot.target third → is_some (get last key) ≡ true
still_there slots second third last slot key here e2 e3 e4 =
    ap (λ found. is_some (get found key)) e4 ∙ present-bypass Target slot.target third key
    ∙ ap (λ found. is_some (get found key)) e3 ∙ present-bypass Issuer slot.issuer second key
    ∙ ap (λ found. is_some (get found key)) e2 ∙ present-bypass Every slot.every slots key ∙ ap is_some here

-- the counts are not 0, and the chains are there
pub every_counts : (parts : Parts) (slot : Slot) (key : ℕ) → IsPool parts → get parts.slots key ≡ Some slot → 0 < parts.every.count
every_counts parts slot key sound here =
    let split = take_split parts slot key sound here in
    count_some (link_at Every parts.slots) (group_at Every parts.slots) (parts.every ∷ []) split.0 key split.1 split.2.every

pub issuer_counts : (parts : Parts) (slot : Slot) (key : ℕ) → IsPool parts → get parts.slots key ≡ Some slot → (0 < (chain_at parts.issuers slot.message.issuer).count) × (slot.message.issuer < length parts.issuers)
issuer_counts parts slot key sound here =
    let split = take_split parts slot key sound here in
    let P : ℕ → Type 0 = λ group. (0 < (chain_at parts.issuers group).count) × (group < length parts.issuers) in
    subst P (ap (λ (found : Option Slot). (unwrap_or found no_slot).message.issuer) here) (
      count_some (link_at Issuer parts.slots) (group_at Issuer parts.slots) parts.issuers split.0 key split.1 split.2.issuers,
      group_within (link_at Issuer parts.slots) (group_at Issuer parts.slots) parts.issuers split.0 key split.1 split.2.issuers,
    )

pub target_counts : (parts : Parts) (slot : Slot) (key : ℕ) → IsPool parts → get parts.slots key ≡ Some slot → (0 < (chain_at parts.targets (target_of slot.message)).count) × (target_of slot.message < length parts.targets)
target_counts parts slot key sound here =
    let split = take_split parts slot key sound here in
    let P : ℕ → Type 0 = λ group. (0 < (chain_at parts.targets group).count) × (group < length parts.targets) in
    subst P (ap (λ (found : Option Slot). target_of (unwrap_or found no_slot).message) here) (
      count_some (link_at Target parts.slots) (group_at Target parts.slots) parts.targets split.0 key split.1 split.2.targets,
      group_within (link_at Target parts.slots) (group_at Target parts.slots) parts.targets split.0 key split.1 split.2.targets,
    )

-- what was taken was pending
pub takes_pending : (old new : Pool) (id : MsgId) (message : Message) → Takes old id message new → Contains (ids old.pending) id
takes_pending old new id message takes =
    let entry_is : Pending = record { id = id; message = message } in
    let P : List Pending → Type 0 = λ pending. Contains (ids pending) id in
    let Q : List MsgId → Type 0 = λ found. Contains found id in
    subst P (sym takes.was)
    (subst Q (sym (map-append (λ (one : Pending). one.id) takes.before (entry_is ∷ takes.after)))
    (Contains-append_right (ids takes.before) (ids (entry_is ∷ takes.after)) id (0, omega arith, refl)))

-- an id whose key is on the list has a message there
present_key : (parts : Parts) (key : ℕ) → IsPool parts → (IsFresh key (keys_of parts) → ⊥) → is_some (get parts.slots key) ≡ true
present_key parts key sound stands =
    let links : Links = link_at Every parts.slots in
    let split = split_at key (keys_of parts) stands in
    let P : List ℕ → Type 0 = λ keys. IsLinked links None keys None in
    let linked = IsLinked-right links None split.0 (key ∷ split.1) None (subst P split.2 (every_chain parts (keys_of parts) sound).linked) in
    some_linked (link_of Every) (get parts.slots key) (ap is_some linked.0)

found_there : (found : Option Slot) (serial : ℕ) → is_some found ≡ true → (unwrap_or found no_slot).serial ≡ serial → ((slot : Slot) → found ≡ Some slot → slot.serial ≡ serial → ⊥) → ⊥
found_there None serial present same none = none_is_full present
found_there (Some slot) serial present same none = none slot refl same

-- an id under whose key no message of that serial is kept is not pending
pub not_pending : (parts : Parts) (id : MsgId) → IsPool parts → ((slot : Slot) → get parts.slots id.key ≡ Some slot → slot.serial ≡ id.serial → ⊥) → Contains (ids (map (pending_at parts.slots) (keys_of parts))) id → ⊥
not_pending parts id sound none pending =
    let named = key_of_id parts.slots (keys_of parts) id pending in
    found_there (get parts.slots id.key) id.serial (present_key parts id.key sound named.0) named.1 none
