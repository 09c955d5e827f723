-- The messages of a slab as links, and how a chain changes there. No public clause but the law's cites this
-- module.
use Rattle.std.specs.Prelude.{ℕ, Option, Some, None, slice_set, unwrap_or}
use Rattle.std.specs.Option.{option_map}
use Rattle.slab.specs.Slab.{Slab, get, ContainsKey}
use Rattle.sc_base.specs.declared.value.Place.{Place}
use Rattle.sc_base.specs.declared.value.Value.TheVariants.{Null}
use Rattle.sc_isa.specs.declared.access.Track.TheVariants.{Store}
use Rattle.msg_pool.specs.declared.message.Message.{Message}
use Rattle.msg_pool.specs.declared.message.Part.TheVariants.{Write}
use Rattle.msg_pool.specs.declared.slot.Grouping.{Grouping}
use Rattle.msg_pool.specs.declared.slot.Grouping.TheVariants.{Every, Issuer, Target}
use Rattle.msg_pool.specs.declared.slot.Link.{Link}
use Rattle.msg_pool.specs.declared.slot.Slot.{Slot}
use Rattle.msg_pool.specs.Chains.{Links}
use Rattle.msg_pool.specs.Pool.{Pending, target_of}

-- the neighbours of a message on that list
abbrev pub link_of : Grouping → Slot → Link
link_of Every slot = slot.every
link_of Issuer slot = slot.issuer
link_of Target slot = slot.target

-- this one stands behind the message on that list
abbrev pub with_next : Grouping → Option ℕ → Slot → Slot
with_next Every next slot = record slot { every = record slot.every { next = next } }
with_next Issuer next slot = record slot { issuer = record slot.issuer { next = next } }
with_next Target next slot = record slot { target = record slot.target { next = next } }

-- this one stands before the message on that list
abbrev pub with_previous : Grouping → Option ℕ → Slot → Slot
with_previous Every previous slot = record slot { every = record slot.every { previous = previous } }
with_previous Issuer previous slot = record slot { issuer = record slot.issuer { previous = previous } }
with_previous Target previous slot = record slot { target = record slot.target { previous = previous } }

-- the group of a message: all are one group, or the issuer's, or the target's
abbrev pub group_of : Grouping → Message → ℕ
group_of Every message = 0
group_of Issuer message = message.issuer
group_of Target message = target_of message

-- the slab with the message of that key changed, if a key is given
abbrev pub changed : (Slot → Slot) → Option ℕ → Slab Slot → Slab Slot
changed change None slots = slots
changed change (Some key) slots = record slots { slots = slice_set slots.slots key (option_map change (get slots key)) }

-- the key, if one is given, has a message
abbrev pub Holds : Slab Slot → Option ℕ → Type 0
Holds slots None = Unit {0}
Holds slots (Some key) = ContainsKey slots key

-- what stands where no message is
abbrev pub no_slot : Slot
no_slot =
    let none : Link = record { next = None; previous = None } in
    let nowhere : Place = record { object = 0; node = 0; offset = 0 } in
    record {
      serial = 0;
      message = record { issuer = 0; number = 0; cell = 0; track = Store; part = Write nowhere Null };
      every = none;
      issuer = none;
      target = none;
    }

-- what is kept under the key
abbrev pub slot_at : Slab Slot → ℕ → Slot
slot_at slots key = unwrap_or (get slots key) no_slot

-- the links of that list
abbrev pub link_at : Grouping → Slab Slot → Links
link_at grouping slots key = option_map (link_of grouping) (get slots key)

-- the group of the key
abbrev pub group_at : Grouping → Slab Slot → ℕ → ℕ
group_at grouping slots key = group_of grouping (slot_at slots key).message

-- the pending message of the key
abbrev pub pending_at : Slab Slot → ℕ → Pending
pending_at slots key =
    record { id = record { key = key; serial = (slot_at slots key).serial }; message = (slot_at slots key).message }
