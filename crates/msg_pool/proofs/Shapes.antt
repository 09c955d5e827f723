-- What the links of a slab are after a message is linked or taken out, for each of the three lists.
use Rattle.std.proofs.Common.{◌≡◌, ℕ, cond, ◌==◌, Option, Some, None, is_some, refl, ap, ◌∙◌}
use Rattle.std.specs.Prelude.{unwrap_or}
use Rattle.std.specs.Option.{option_map}
use Rattle.slab.specs.Slab.{Slab, get, slab_len}
use Rattle.msg_pool.specs.declared.slot.Grouping.{Grouping}
use Rattle.msg_pool.specs.declared.slot.Grouping.TheVariants.{Every, Issuer, Target}
use Rattle.msg_pool.specs.declared.slot.Link.{Link}
use Rattle.msg_pool.specs.declared.slot.Slot.{Slot}
use Rattle.msg_pool.specs.Chains.{Links}
use Rattle.msg_pool.specs.Pool.{Pending}
use Rattle.msg_pool.specs.Slots.{link_of, with_next, with_previous, changed, link_at, pending_at, no_slot}
use Rattle.msg_pool.proofs.Segments.{updated, to_next, to_previous, bypassed}
use Rattle.msg_pool.proofs.Slabs.{kept, link_at-next, link_at-previous, slab_len-changed, capacity-changed}

-- the two are different lists
abbrev pub Differ : Grouping → Grouping → Type 0
Differ Every Every = ⊥
Differ Issuer Issuer = ⊥
Differ Target Target = ⊥
Differ _ _ = Unit {0}

off_next : (grouping other : Grouping) → Differ grouping other → (next : Option ℕ) (slot : Slot) → link_of grouping (with_next other next slot) ≡ link_of grouping slot
off_next Every Every differs next slot = absurd differs
off_next Every Issuer differs next slot = refl
off_next Every Target differs next slot = refl
off_next Issuer Every differs next slot = refl
off_next Issuer Issuer differs next slot = absurd differs
off_next Issuer Target differs next slot = refl
off_next Target Every differs next slot = refl
off_next Target Issuer differs next slot = refl
off_next Target Target differs next slot = absurd differs

off_previous : (grouping other : Grouping) → Differ grouping other → (previous : Option ℕ) (slot : Slot) → link_of grouping (with_previous other previous slot) ≡ link_of grouping slot
off_previous Every Every differs previous slot = absurd differs
off_previous Every Issuer differs previous slot = refl
off_previous Every Target differs previous slot = refl
off_previous Issuer Every differs previous slot = refl
off_previous Issuer Issuer differs previous slot = absurd differs
off_previous Issuer Target differs previous slot = refl
off_previous Target Every differs previous slot = refl
off_previous Target Issuer differs previous slot = refl
off_previous Target Target differs previous slot = absurd differs

link_kept : (grouping : Grouping) (change : Slot → Slot) → ((slot : Slot) → link_of grouping (change slot) ≡ link_of grouping slot) → (found : Option Slot) → option_map (link_of grouping) (option_map change found) ≡ option_map (link_of grouping) found
link_kept grouping change same None = refl
link_kept grouping change same (Some slot) = ap (λ link. Some link) (same slot)

pub other-next : (grouping other : Grouping) → Differ grouping other → (next at : Option ℕ) (slots : Slab Slot) (key : ℕ) → link_at grouping (changed (with_next other next) at slots) key ≡ link_at grouping slots key
other-next grouping other differs next at slots key =
    kept (option_map (link_of grouping)) (with_next other next) (link_kept grouping (with_next other next) (off_next grouping other differs next)) at slots key

other-previous : (grouping other : Grouping) → Differ grouping other → (previous at : Option ℕ) (slots : Slab Slot) (key : ℕ) → link_at grouping (changed (with_previous other previous) at slots) key ≡ link_at grouping slots key
other-previous grouping other differs previous at slots key =
    kept (option_map (link_of grouping)) (with_previous other previous) (link_kept grouping (with_previous other previous) (off_previous grouping other differs previous)) at slots key

-- the message of that key with its id
abbrev pub entry : ℕ → Option Slot → Pending
entry key found = record { id = record { key = key; serial = (unwrap_or found no_slot).serial }; message = (unwrap_or found no_slot).message }

entry_next : (key : ℕ) (grouping : Grouping) (next : Option ℕ) (found : Option Slot) → entry key (option_map (with_next grouping next) found) ≡ entry key found
entry_next key grouping next None = refl
entry_next key Every next (Some slot) = refl
entry_next key Issuer next (Some slot) = refl
entry_next key Target next (Some slot) = refl

entry_previous : (key : ℕ) (grouping : Grouping) (previous : Option ℕ) (found : Option Slot) → entry key (option_map (with_previous grouping previous) found) ≡ entry key found
entry_previous key grouping previous None = refl
entry_previous key Every previous (Some slot) = refl
entry_previous key Issuer previous (Some slot) = refl
entry_previous key Target previous (Some slot) = refl

pub pending_at-next : (grouping : Grouping) (next at : Option ℕ) (slots : Slab Slot) (key : ℕ) → pending_at (changed (with_next grouping next) at slots) key ≡ pending_at slots key
pending_at-next grouping next at slots key = kept (entry key) (with_next grouping next) (entry_next key grouping next) at slots key

pending_at-previous : (grouping : Grouping) (previous at : Option ℕ) (slots : Slab Slot) (key : ℕ) → pending_at (changed (with_previous grouping previous) at slots) key ≡ pending_at slots key
pending_at-previous grouping previous at slots key = kept (entry key) (with_previous grouping previous) (entry_previous key grouping previous) at slots key

some_kept : (change : Slot → Slot) (found : Option Slot) → is_some (option_map change found) ≡ is_some found
some_kept change None = refl
some_kept change (Some slot) = refl

pub present-changed : (change : Slot → Slot) (at : Option ℕ) (slots : Slab Slot) (key : ℕ) → is_some (get (changed change at slots) key) ≡ is_some (get slots key)
present-changed change at slots key = kept is_some change (some_kept change) at slots key

pub updated-same : (change : Link → Link) (at : Option ℕ) (new old : Links) (key : ℕ) → new key ≡ old key → updated change at new key ≡ updated change at old key
updated-same change None new old key same = same
updated-same change (Some at) new old key same = ap (λ link. cond (key == at) (option_map change link) link) same

-- the slab after a message with these neighbours is taken out of that list
abbrev pub bypass : Grouping → Link → Slab Slot → Slab Slot
bypass grouping link slots = changed (with_previous grouping link.previous) link.next (changed (with_next grouping link.next) link.previous slots)

pub link_at-bypass : (grouping : Grouping) (link : Link) (slots : Slab Slot) (key : ℕ) → link_at grouping (bypass grouping link slots) key ≡ bypassed link (link_at grouping slots) key
link_at-bypass grouping link slots key =
    let once = changed (with_next grouping link.next) link.previous slots in
    link_at-previous grouping link.previous link.next once key
    ∙ updated-same (to_previous link.previous) link.next (link_at grouping once) (updated (to_next link.next) link.previous (link_at grouping slots)) key
    (link_at-next grouping link.next link.previous slots key)

pub other-bypass : (grouping other : Grouping) → Differ grouping other → (link : Link) (slots : Slab Slot) (key : ℕ) → link_at grouping (bypass other link slots) key ≡ link_at grouping slots key
other-bypass grouping other differs link slots key =
    let once = changed (with_next other link.next) link.previous slots in
    other-previous grouping other differs link.previous link.next once key ∙ other-next grouping other differs link.next link.previous slots key

pub pending_at-bypass : (grouping : Grouping) (link : Link) (slots : Slab Slot) (key : ℕ) → pending_at (bypass grouping link slots) key ≡ pending_at slots key
pending_at-bypass grouping link slots key =
    let once = changed (with_next grouping link.next) link.previous slots in
    pending_at-previous grouping link.previous link.next once key ∙ pending_at-next grouping link.next link.previous slots key

pub present-bypass : (grouping : Grouping) (link : Link) (slots : Slab Slot) (key : ℕ) → is_some (get (bypass grouping link slots) key) ≡ is_some (get slots key)
present-bypass grouping link slots key =
    let once = changed (with_next grouping link.next) link.previous slots in
    present-changed (with_previous grouping link.previous) link.next once key ∙ present-changed (with_next grouping link.next) link.previous slots key

pub slab_len-bypass : (grouping : Grouping) (link : Link) (slots : Slab Slot) → slab_len (bypass grouping link slots) ≡ slab_len slots
slab_len-bypass grouping link slots =
    let once = changed (with_next grouping link.next) link.previous slots in
    slab_len-changed (with_previous grouping link.previous) link.next once ∙ slab_len-changed (with_next grouping link.next) link.previous slots

pub capacity-bypass : (grouping : Grouping) (link : Link) (slots : Slab Slot) → (bypass grouping link slots).capacity ≡ slots.capacity
capacity-bypass grouping link slots =
    let once = changed (with_next grouping link.next) link.previous slots in
    capacity-changed (with_previous grouping link.previous) link.next once ∙ capacity-changed (with_next grouping link.next) link.previous slots

-- the links after a change of a slab that another change follows
pub bypassed-same : (link : Link) (new old : Links) (key : ℕ) → new key ≡ old key → bypassed link new key ≡ bypassed link old key
bypassed-same link new old key same =
    updated-same (to_previous link.previous) link.next (updated (to_next link.next) link.previous new) (updated (to_next link.next) link.previous old) key
    (updated-same (to_next link.next) link.previous new old key same)
