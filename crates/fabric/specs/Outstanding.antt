-- How many cells of the accesses issued have a part still to occur, as a counter of outstanding requests has it in the
-- split accesses of "Introduction to Split-C" (Culler and others, 1995). A past is a list of entries, the newest first.
use Rattle.std.specs.Prelude.{ℕ, zero, suc, ◌+◌, List, [], ◌∷◌, is_some, Bool, ◌&&◌, if◌then◌else◌}
use Rattle.sc_base.specs.declared.value.Value.{Value}
use Rattle.sc_base.specs.declared.value.Place.{Place}
use Rattle.effect_order.specs.Effect.{Effect}
use Rattle.effect_order.specs.Transfer.{Transfer}
use Rattle.sc_isa.specs.declared.access.Track.{Track}
use Rattle.sc_isa.specs.declared.journal.Entry.{Entry}
use Rattle.sc_isa.specs.declared.journal.Entry.TheVariants.{Issued}
use Rattle.fabric.specs.Access.{transfer_of, track_of}
use Rattle.fabric.specs.Effects.{due, effects}

-- how many of the first cells have a part still to occur
abbrev pub open_cells : (start : Place → Value) → Transfer → (node number : ℕ) → (cells : ℕ) →
    List Effect → ℕ
open_cells start transfer node number zero earlier = 0
open_cells start transfer node number (suc cell) earlier =
    open_cells start transfer node number cell earlier + (if is_some (due start transfer node number cell earlier)
    then 1 else 0)

-- those of the accesses of these nodes on these tracks that the past issued, after these effects
abbrev pub open_in : (start : Place → Value) → (of : ℕ → Bool) → (on : Track → Bool) → List Effect →
    List Entry → ℕ
open_in start of on earlier [] = 0
open_in start of on earlier (Issued node number access ∷ past) =
    if of node && on (track_of access)
    then open_in start of on earlier past + open_cells start (transfer_of access) node number
    (transfer_of access).cells earlier
    else open_in start of on earlier past
open_in start of on earlier (_ ∷ past) = open_in start of on earlier past

-- how many cells of accesses of these nodes on these tracks have a part still to occur
abbrev pub outstanding : (start : Place → Value) → (of : ℕ → Bool) → (on : Track → Bool) →
    List Entry → ℕ
outstanding start of on past = open_in start of on (effects start past) past
