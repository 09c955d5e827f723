-- The messages of a run, after "Active Messages" (von Eicken and others, 1992): each part that does not occur with its
-- issue is a message, in flight until its delivery. A read that goes back to write becomes a message again, put last. A
-- past is a list of entries, the newest first.
use Rattle.std.specs.Prelude.{ℕ, zero, suc, ◌+◌, List, [], ◌∷◌, ◌++◌, Option, Some, None, Bool, true, ◌==◌, ◌&&◌, if◌then◌else◌}
use Rattle.sc_base.specs.declared.value.Value.{Value}
use Rattle.sc_base.specs.declared.value.Place.{Place}
use Rattle.effect_order.specs.Effect.{Effect}
use Rattle.effect_order.specs.Transfer.{Transfer, part_place}
use Rattle.sc_isa.specs.declared.access.Track.{Track}
use Rattle.sc_isa.specs.declared.journal.Entry.{Entry}
use Rattle.sc_isa.specs.declared.journal.Entry.TheVariants.{Issued, Delivered}
use Rattle.msg_pool.specs.declared.message.Part.{Part}
use Rattle.msg_pool.specs.declared.message.Part.TheVariants as part
use Rattle.msg_pool.specs.declared.message.Message.{Message}
use Rattle.fabric.specs.Access.{transfer_of, track_of}
use Rattle.fabric.specs.Effects.{due, effects}

abbrev pub message : (node number cell : ℕ) → Track → Part → Message
message node number cell track what =
    record { issuer = node; number = number; cell = cell; track = track; part = what }

-- what a message for the part does: a read of a copy comes back to write
abbrev pub part_of : Transfer → (cell : ℕ) → Effect → Part
part_of transfer cell effect =
    if effect.wrote then part.Write effect.place effect.value
    else part.Read effect.place (part_place transfer cell true)

-- the message that carries the part that is due
abbrev pub carried : Transfer → (node number cell : ℕ) → Track → Option Effect → List Message
carried transfer node number cell track None = []
carried transfer node number cell track (Some effect) =
    message node number cell track (part_of transfer cell effect) ∷ []

-- the messages that an issue makes for the first cells, in cell order; later: the effects so far, the issue's own ones
-- too
abbrev pub sent : (start : Place → Value) → Transfer → (node number : ℕ) → Track →
    (later : List Effect) → (cells : ℕ) → List Message
sent start transfer node number track later zero = []
sent start transfer node number track later (suc cell) =
    sent start transfer node number track later cell
    ++ carried transfer node number cell track (due start transfer node number cell later)

-- the message is for this cell
abbrev pub is_for : (node number cell : ℕ) → Message → Bool
is_for node number cell m = (m.issuer == node) && (m.number == number) && (m.cell == cell)

-- the list without the message for this cell
abbrev pub without : (node number cell : ℕ) → List Message → List Message
without node number cell [] = []
without node number cell (m ∷ messages) =
    if is_for node number cell m then without node number cell messages else m ∷ without node number cell messages

-- the message that a delivered one becomes, where its part had this value
abbrev pub back_from : Message → Value → Part → List Message
back_from m value (part.Read from (Some to)) = record m { part = part.Write to value } ∷ []
back_from m value _ = []

-- those that the delivered message for this cell becomes
abbrev pub returned : (node number cell : ℕ) → Value → List Message → List Message
returned node number cell value [] = []
returned node number cell value (m ∷ messages) =
    if is_for node number cell m then back_from m value m.part else returned node number cell value messages

-- the messages in flight, in order of their making
abbrev pub in_flight : (start : Place → Value) → List Entry → List Message
in_flight start [] = []
in_flight start (Issued node number access ∷ past) =
    in_flight start past
    ++ sent start (transfer_of access) node number (track_of access)
    (effects start (Issued node number access ∷ past)) (transfer_of access).cells
in_flight start (Delivered node number cell value ∷ past) =
    without node number cell (in_flight start past) ++ returned node number cell value (in_flight start past)
in_flight start (_ ∷ past) = in_flight start past

-- one, or none
abbrev pub one_if : Bool → ℕ
one_if b = if b then 1 else 0

-- how many of the messages are of these nodes and on these tracks
abbrev pub flying_count : (of : ℕ → Bool) → (on : Track → Bool) → List Message → ℕ
flying_count of on [] = 0
flying_count of on (m ∷ ms) = one_if (of m.issuer && on m.track) + flying_count of on ms
