-- What a delivery brings: the value of the message's part, and the message that it becomes.
use Rattle.std.specs.Prelude.{◌≡◌, ℕ, ◌-◌, List, ◌∷◌, ◌++◌, map, Option, Some, None, Bool, true, false, if◌then◌else◌}
use Rattle.sc_base.specs.declared.value.Value.{Value}
use Rattle.sc_base.specs.declared.value.Place.{Place}
use Rattle.effect_order.specs.Effect.{Effect, held}
use Rattle.sc_isa.specs.declared.access.Track.{Track}
use Rattle.msg_pool.specs.declared.message.Message.{Message}
use Rattle.msg_pool.specs.declared.message.MsgId.{MsgId}
use Rattle.msg_pool.specs.declared.message.Part.{Part}
use Rattle.msg_pool.specs.declared.message.Part.TheVariants as part
use Rattle.msg_pool.specs.Pool.{Pool, Pending}
use Rattle.sync_book.specs.Book.{Book, outstanding_on, with_outstanding}
use Rattle.fabric.specs.declared.reads.Awaited.{Awaited}
use Rattle.fabric.specs.Flight.{back_from}
use Rattle.fabric.specs.Reads.{filled}
use Rattle.fabric.specs.State.{messages_of, Grows}

-- the value of the part after these effects: what its place holds, or what it writes
abbrev pub value_in : (start : Place → Value) → List Effect → Part → Value
value_in start earlier (part.Read from back) = held start from earlier
value_in start earlier (part.Write to value) = value

-- the message that the id names is taken out, all others stay under their ids, in their order, and what it becomes is
-- put last
pub record Delivers (old : Pool) (id : MsgId) (message : Message) (value : Value) (new : Pool) : Type 0 where
  pub before : List Pending
  pub after : List Pending
  pub was : old.pending ≡ before ++ record { id = id; message = message } ∷ after
  pub stay : Grows (record old { pending = before ++ after }) new
  pub is : messages_of new ≡ map (λ (p : Pending). p.message) (before ++ after)
      ++ back_from message value message.part

-- ---- what serves the call's own functions

-- where the part's value goes back to
abbrev pub back_of : Part → Option Place
back_of (part.Read from back) = back
back_of (part.Write to value) = None

-- the part is a read that goes nowhere
abbrev pub ends_read : Part → Bool
ends_read (part.Read from None) = true
ends_read _ = false

-- the effect is the part's
abbrev pub HasPart : Effect → Part → Type 0
HasPart effect (part.Read from back) = effect.wrote ≡ false
HasPart effect (part.Write to value) = (effect.wrote ≡ true) × (effect.place ≡ to) × (effect.value ≡ value)

-- one cell less is outstanding, unless the part's value goes back
abbrev pub book_after : Book → (node : ℕ) → Track → Option Place → Book
book_after book node track None = with_outstanding book node track (outstanding_on book node track - 1)
book_after book node track (Some to) = book

-- the reads with the value, if the message's part is a read that goes nowhere
abbrev pub reads_after : Message → Value → List Awaited → List Awaited
reads_after message value reads =
    if ends_read message.part then map (filled message.issuer message.number value) reads else reads
