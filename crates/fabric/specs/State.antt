-- What a fabric is seen as, and what its calls ask.
use Rattle.std.specs.Prelude.{◌≡◌, ℕ, ◌+◌, ◌*◌, ◌<◌, ◌≤◌, List, ◌++◌, map, Option, slice_get}
use Rattle.std.specs.Option.{option_map}
use Rattle.sc_base.specs.declared.shape.Ty.{Ty}
use Rattle.sc_base.specs.declared.value.Value.{Value}
use Rattle.sc_base.specs.declared.value.Place.{Place}
use Rattle.effect_order.specs.Transfer.{further}
use Rattle.sc_layout.specs.Layout.{Arrangement}
use Rattle.sc_layout.specs.Place.{IsPlace, Fits}
use Rattle.sc_layout.specs.Start.{start}
use Rattle.sc_isa.specs.declared.access.Access.{Access}
use Rattle.sc_isa.specs.declared.access.Access.TheVariants.{Read, Write, Copy}
use Rattle.sc_isa.specs.declared.access.Track.{Track}
use Rattle.sc_isa.specs.declared.access.Track.TheVariants.{Counter, Store, Covered}
use Rattle.sc_isa.specs.declared.journal.Entry.{Entry}
use Rattle.msg_pool.specs.declared.message.Message.{Message}
use Rattle.msg_pool.specs.Pool.{Pool, Pending}
use Rattle.fabric.specs.Access.{track_of}
use Rattle.node_memory.specs.Memory.{Memory}
use Rattle.sync_book.specs.Book.{Book}

-- The layout stands in the memory, the number of sites in the books. The journal is seen as a past, the newest entry
-- first.
pub record State : Type 0 where
  pub memory : Memory
  pub pool : Pool
  pub book : Book
  pub past : List Entry
  pub spare : ℕ  -- how much of room is left that no entry needs yet

-- what each cell holds before any write
abbrev pub start_of : State → Place → Value
start_of state = start state.memory.layout

abbrev pub nodes_of : State → ℕ
nodes_of state = state.memory.layout.nodes

-- the pending messages, in order of their puts
abbrev pub messages_of : Pool → List Message
messages_of pool = map (λ (p : Pending). p.message) pool.pending

-- the pending messages stay under their ids, in their order, and others are put behind them
pub record Grows (old new : Pool) : Type 0 where
  pub added : List Pending
  pub is : new.pending ≡ old.pending ++ added

-- the track is one of these sites'
abbrev pub IsTrack : (sites : ℕ) → Track → Type 0
IsTrack sites (Counter counter) = counter ≤ sites
IsTrack sites Store = Unit {0}
IsTrack sites Covered = Unit {0}

-- the type of the place's cells
abbrev pub type_at : Arrangement → Place → Option Ty
type_at layout place = option_map (λ o. o.shape.ty) (slice_get layout.objects place.object)

-- a copy has a cell, stays inside both objects, and joins cells of one type
pub record IsCopy (layout : Arrangement) (from to : Place) (cells : ℕ) : Type 0 where
  pub some_cell : 0 < cells
  pub few_cells : cells ≤ 65536
  pub from_inside : (cell : ℕ) → cell < cells → IsPlace layout (further cell from)
  pub to_inside : (cell : ℕ) → cell < cells → IsPlace layout (further cell to)
  pub one_type : type_at layout from ≡ type_at layout to

-- the access lies in the layout, and what it writes fits
abbrev pub IsPlaced : Arrangement → Access → Type 0
IsPlaced layout (Read place track) = IsPlace layout place
IsPlaced layout (Write place value track) = IsPlace layout place × Fits layout place value
IsPlaced layout (Copy from to cells track) = IsCopy layout from to cells

-- it also is on a counter that there is
pub record IsAccess (layout : Arrangement) (sites : ℕ) (access : Access) : Type 0 where
  pub placed : IsPlaced layout access
  pub track : IsTrack sites (track_of access)

-- how much room an access needs: an entry for its issue, two for the deliveries of each copied cell, and its messages
abbrev pub need_of : Access → ℕ
need_of (Read place track) = 3
need_of (Write place value track) = 3
need_of (Copy from to cells track) = 1 + 3 * cells

-- the access has few cells
abbrev pub HasFewCells : Access → Type 0
HasFewCells (Read place track) = Unit {0}
HasFewCells (Write place value track) = Unit {0}
HasFewCells (Copy from to cells track) = cells ≤ 65536
