-- The keys of a pool's messages, and what the pool shows of them.
use Rattle.std.proofs.Common.{◌≡◌, ◌≢◌, ℕ, ◌<◌, List, [], ◌∷◌, ◌++◌, map, Option, Some, None, is_some, true, refl, sym, ap, ◌∙◌, subst, ⊎_elim, arith, Contains}
use Rattle.std.proofs.lemmas.Bool.{cases_eq}
use Rattle.std.specs.Option.{option_map}
use Rattle.slab.specs.Slab.{Slab, get}
use Rattle.slab.proofs.SlabLemmas.{Contains-cons_cases}
use Rattle.msg_pool.specs.declared.message.MsgId.{MsgId}
use Rattle.msg_pool.specs.declared.slot.Grouping.TheVariants.{Every}
use Rattle.msg_pool.specs.declared.slot.Link.{Link}
use Rattle.msg_pool.specs.declared.slot.Slot.{Slot}
use Rattle.msg_pool.specs.declared.chain.Chain.{Chain}
use Rattle.msg_pool.specs.Pool.{Pool, Pending, ids}
use Rattle.msg_pool.specs.Chains.{Links, first_or, last_or, IsLinked, IsChain, IsFresh, AreDistinct, forward, members}
use Rattle.msg_pool.specs.Slots.{link_at, slot_at, pending_at, Holds}
use Rattle.msg_pool.specs.Sound.{Parts, keys_of, EachKey, AreSound, IsPool}
use Rattle.msg_pool.proofs.Segments.{forward_is, IsFresh-left, IsFresh-right, IsFresh-append, fresh_before, AreDistinct-right}

-- all messages are one group
pub members-every : (keys : List ℕ) → members (λ key. 0) 0 keys ≡ keys
members-every [] = refl
members-every (key ∷ keys) = ap (λ rest. key ∷ rest) (members-every keys)

-- the walk along a chain gives its keys
pub chain_walk : (links : Links) (chain : Chain) (keys : List ℕ) → IsChain links chain keys → forward links chain.head chain.count ≡ keys
chain_walk links chain keys is =
    ap (λ head. forward links head chain.count) is.head ∙ ap (λ count. forward links (first_or keys None) count) is.count
    ∙ forward_is links None keys is.linked

-- the chain of all is the list of all keys
pub every_chain : (parts : Parts) (keys : List ℕ) → AreSound parts keys → IsChain (link_at Every parts.slots) parts.every keys
every_chain parts keys sound =
    let P : List ℕ → Type 0 = λ found. IsChain (link_at Every parts.slots) parts.every found in
    subst P (members-every keys) (sound.every 0)

pub keys_are : (parts : Parts) (keys : List ℕ) → AreSound parts keys → keys_of parts ≡ keys
keys_are parts keys sound = chain_walk (link_at Every parts.slots) parts.every keys (every_chain parts keys sound)

pub is_pool : (parts : Parts) (keys : List ℕ) → AreSound parts keys → IsPool parts
is_pool parts keys sound =
    let P : List ℕ → Type 0 = λ found. AreSound parts found in
    subst P (sym (keys_are parts keys sound)) sound

none_is_some : {A : Type 0} {a : A} → None ≡ Some a → ⊥
none_is_some e = cc

-- a key with no message is not on the list
pub linked_fresh : (links : Links) (before : Option ℕ) (keys : List ℕ) (behind : Option ℕ) (key : ℕ) → IsLinked links before keys behind → links key ≡ None → IsFresh key keys
linked_fresh links before [] behind key linked none = tt
linked_fresh links before (other ∷ keys) behind key linked none =
    ((λ same. none_is_some (sym none ∙ ap links same ∙ linked.0)), linked_fresh links (Some other) keys behind key linked.1 none)

-- the key, if one is given, has a link
abbrev pub IsHeld : Links → Option ℕ → Type 0
IsHeld links None = Unit {0}
IsHeld links (Some key) = is_some (links key) ≡ true

pub first_held : (links : Links) (before : Option ℕ) (keys : List ℕ) (behind : Option ℕ) → IsLinked links before keys behind → IsHeld links (first_or keys None)
first_held links before [] behind linked = tt
first_held links before (key ∷ keys) behind linked = ap is_some linked.0

pub last_held : (links : Links) (before : Option ℕ) (keys : List ℕ) (behind other : Option ℕ) → IsLinked links before keys behind → IsHeld links other → IsHeld links (last_or other keys)
last_held links before [] behind other linked held = held
last_held links before (key ∷ keys) behind other linked held = last_held links (Some key) keys behind (Some key) linked.1 (ap is_some linked.0)

pub some_linked : (link : Slot → Link) (found : Option Slot) → is_some (option_map link found) ≡ true → is_some found ≡ true
some_linked link None is = is
some_linked link (Some slot) is = refl

pub held_holds : (slots : Slab Slot) (link : Slot → Link) (at : Option ℕ) → IsHeld (λ key. option_map link (get slots key)) at → Holds slots at
held_holds slots link None held = tt
held_holds slots link (Some key) held = some_linked link (get slots key) held

-- a key that is not fresh stands somewhere
pub split_at : (key : ℕ) (keys : List ℕ) → (IsFresh key keys → ⊥) → (xs : List ℕ) × (ys : List ℕ) × (keys ≡ xs ++ key ∷ ys)
split_at key [] stands = absurd (stands tt)
split_at key (other ∷ keys) stands =
    ⊎_elim {C = (xs : List ℕ) × (ys : List ℕ) × (other ∷ keys ≡ xs ++ key ∷ ys)}
    (λ same. ([], keys, ap (λ found. found ∷ keys) (sym same)))
    (λ differs.
    let rest = split_at key keys (λ fresh. stands (differs, fresh)) in
    (other ∷ rest.0, rest.1, ap (λ found. other ∷ found) rest.2))
    (cases_eq key other)

-- a key is not among those before and behind it
pub fresh_beside : (key : ℕ) (xs ys : List ℕ) → AreDistinct (xs ++ key ∷ ys) → IsFresh key (xs ++ ys)
fresh_beside key xs ys distinct =
    IsFresh-append key xs ys (fresh_before key xs ys distinct) (AreDistinct-right xs (key ∷ ys) distinct).0

pub fresh_among : (key other : ℕ) (xs ys : List ℕ) → other ≢ key → IsFresh other (xs ++ ys) → IsFresh other (xs ++ key ∷ ys)
fresh_among key other xs ys differs fresh =
    IsFresh-append other xs (key ∷ ys) (IsFresh-left other xs ys fresh) (differs, IsFresh-right other xs ys fresh)

pub EachKey-left : (P : ℕ → Type 0) (xs ys : List ℕ) → EachKey P (xs ++ ys) → EachKey P xs
EachKey-left P [] ys each = tt
EachKey-left P (x ∷ xs) ys each = (each.0, EachKey-left P xs ys each.1)

pub EachKey-right : (P : ℕ → Type 0) (xs ys : List ℕ) → EachKey P (xs ++ ys) → EachKey P ys
EachKey-right P [] ys each = each
EachKey-right P (x ∷ xs) ys each = EachKey-right P xs ys each.1

pub EachKey-append : (P : ℕ → Type 0) (xs ys : List ℕ) → EachKey P xs → EachKey P ys → EachKey P (xs ++ ys)
EachKey-append P [] ys left right = right
EachKey-append P (x ∷ xs) ys left right = (left.0, EachKey-append P xs ys left.1 right)

pub EachKey-fresh : (P Q : ℕ → Type 0) (key : ℕ) → ((other : ℕ) → other ≢ key → P other → Q other) → (keys : List ℕ) → IsFresh key keys → EachKey P keys → EachKey Q keys
EachKey-fresh P Q key step [] fresh each = tt
EachKey-fresh P Q key step (other ∷ keys) fresh each =
    (step other (λ same. fresh.0 (sym same)) each.0, EachKey-fresh P Q key step keys fresh.1 each.1)

-- two functions that agree but at one key give the same list
pub map-fresh : {A : Type 0} (f g : ℕ → A) (key : ℕ) → ((other : ℕ) → other ≢ key → f other ≡ g other) → (keys : List ℕ) → IsFresh key keys → map f keys ≡ map g keys
map-fresh f g key same [] fresh = refl
map-fresh f g key same (other ∷ keys) fresh =
    ap (λ rest. f other ∷ rest) (map-fresh f g key same keys fresh.1) ∙ ap (λ first. first ∷ map g keys) (same other (λ e. fresh.0 (sym e)))

made : List Pending → ℕ → ℕ → ℕ → Pool
made pending spare puts nodes = record { pending = pending; spare = spare; puts = puts; nodes = nodes }

-- two pools that hold the same are the same
pub same_pool : (pending others : List Pending) (spare other_spare puts nodes other_nodes : ℕ) → pending ≡ others → spare ≡ other_spare → nodes ≡ other_nodes → ◌≡◌ {A = Pool} (record { pending = pending; spare = spare; puts = puts; nodes = nodes }) (record { pending = others; spare = other_spare; puts = puts; nodes = other_nodes })
unfolding made
same_pool pending others spare other_spare puts nodes other_nodes e f g =
    ap (λ x. made x spare puts nodes) e ∙ ap (λ x. made others x puts nodes) f ∙ ap (λ x. made others other_spare puts x) g

-- an id that is pending names a key of the pool, with its serial
pub key_of_id : (slots : Slab Slot) (keys : List ℕ) (id : MsgId) → Contains (ids (map (pending_at slots) keys)) id → (IsFresh id.key keys → ⊥) × ((slot_at slots id.key).serial ≡ id.serial)
key_of_id slots [] id pending = absurd (omega (arith, pending.1))
key_of_id slots (key ∷ keys) id pending =
    ⊎_elim {C = (IsFresh id.key (key ∷ keys) → ⊥) × ((slot_at slots id.key).serial ≡ id.serial)}
    (λ here.
    let same : key ≡ id.key = ap (λ (one : MsgId). one.key) here in (
      (λ fresh. fresh.0 (sym same)),
      ap (λ found. (slot_at slots found).serial) (sym same) ∙ ap (λ (one : MsgId). one.serial) here,
    ))
    (λ further.
    let rest = key_of_id slots keys id further in
    ((λ fresh. rest.0 fresh.1), rest.1))
    (Contains-cons_cases (pending_at slots key).id id (ids (map (pending_at slots) keys)) pending)

-- each pending id has a serial below the number of puts
pub serial_below : (slots : Slab Slot) (keys : List ℕ) (puts : ℕ) (id : MsgId) → EachKey (λ key. (slot_at slots key).serial < puts) keys → Contains (ids (map (pending_at slots) keys)) id → id.serial < puts
serial_below slots [] puts id each pending = absurd (omega (arith, pending.1))
serial_below slots (key ∷ keys) puts id each pending =
    ⊎_elim {C = id.serial < puts}
    (λ here.
    let same : (slot_at slots key).serial ≡ id.serial = ap (λ (one : MsgId). one.serial) here in
    omega (arith, same, each.0))
    (λ further. serial_below slots keys puts id each.1 further)
    (Contains-cons_cases (pending_at slots key).id id (ids (map (pending_at slots) keys)) pending)
