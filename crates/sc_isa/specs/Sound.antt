-- Sound code: never stuck, as well-typed programs are in Wright and Felleisen (1994), asking only for what the layout
-- has, with numbers that fall along its runs, after Floyd, "Assigning meanings to programs" (1967).
use Rattle.std.specs.Prelude.{◌≡◌, ℕ, ◌+◌, ◌<◌, slice_get, Some, Bool, true, false, List}
use Rattle.std.specs.Option.{option_map_or}
use Rattle.sc_base.specs.declared.value.Place.{Place}
use Rattle.sc_base.specs.declared.value.Value.{Value}
use Rattle.sc_layout.specs.Layout.{Arrangement, LaidObject}
use Rattle.sc_layout.specs.Place.{IsPlace, Fits}
use Rattle.sc_isa.specs.declared.access.Access.{Access}
use Rattle.sc_isa.specs.declared.access.Access.TheVariants.{Read, Write, Copy}
use Rattle.sc_isa.specs.declared.code.Code.{Code}
use Rattle.sc_isa.specs.declared.op.Op.{Op}
use Rattle.sc_isa.specs.declared.op.Op.TheVariants as op
use Rattle.sc_isa.specs.Fitting.{fits_all}
use Rattle.sc_isa.specs.State.{State, reads_on, landed}
use Rattle.sc_isa.specs.Moves.{After, GoesOn, Sticks, Move, Comes, Issues, Waits, Meets, Says}
use Rattle.sc_isa.specs.Table.{step_of}
use Rattle.sc_isa.specs.Begin.{begin}

-- ---- the states that a node comes to

abbrev pub IsAfter : After → State → Type 0
IsAfter (GoesOn s) next = next ≡ s
IsAfter _ next = ⊥

-- values land that fit
pub record Lands (layout : Arrangement) (counter : ℕ) (s next : State) : Type 0 where
  pub values : List Value
  pub fit : fits_all layout (reads_on counter s.flying) values ≡ true
  pub next_is : next ≡ landed counter values s

-- the state may follow the move
abbrev pub Leads : Arrangement → Move → State → Type 0
Leads layout (Comes after) next = IsAfter after next
Leads layout (Issues access after) next = IsAfter after next
Leads layout (Waits counter s) next = Lands layout counter s next
Leads layout (Meets stores s) next = next ≡ s
Leads layout (Says text s) next = next ≡ s

-- the node comes to the state, for some answers
pub data Reached (code : Code) (layout : Arrangement) (node budget : ℕ) : State → Type 0 where
  begun : (s : State) → s ≡ begin code budget → Reached code layout node budget s
  then_ : (s next : State) → Reached code layout node budget s → Leads layout (step_of code layout node s) next
      → Reached code layout node budget next

-- ---- what sound code keeps

abbrev pub CanGoOn : After → Type 0
CanGoOn Sticks = ⊥
CanGoOn _ = Unit {0}

abbrev pub IsDone : Move → Type 0
IsDone (Comes after) = CanGoOn after
IsDone (Issues access after) = CanGoOn after
IsDone _ = Unit {0}

-- the cell so many on
abbrev pub further : ℕ → Place → Place
further cell place = record { object = place.object; node = place.node; offset = place.offset + cell }

-- a copy moves at least one cell, stays inside both objects, and joins cells of one type
pub record IsPlacedCopy (layout : Arrangement) (from to : Place) (cells : ℕ) : Type 0 where
  pub some_cell : 0 < cells
  pub reads : (cell : ℕ) → cell < cells → IsPlace layout (further cell from)
  pub writes : (cell : ℕ) → cell < cells → IsPlace layout (further cell to)
  pub source : LaidObject
  pub target : LaidObject
  pub source_is : slice_get layout.objects from.object ≡ Some source
  pub target_is : slice_get layout.objects to.object ≡ Some target
  pub one_type : source.shape.ty ≡ target.shape.ty

-- the access lies in the layout, and what it writes fits its cell
abbrev pub IsPlaced : Arrangement → Access → Type 0
IsPlaced layout (Read place track) = IsPlace layout place
IsPlaced layout (Write place value track) = IsPlace layout place × Fits layout place value
IsPlaced layout (Copy from to cells track) = IsPlacedCopy layout from to cells

abbrev pub IsPlacedMove : Arrangement → Move → Type 0
IsPlacedMove layout (Issues access after) = IsPlaced layout access
IsPlacedMove layout _ = Unit {0}

-- a turn, a call or a return: what the budget and the frames bound
abbrev pub is_bounded : Op → Bool
is_bounded op.Turn = true
is_bounded (op.Call function) = true
is_bounded op.Ret = true
is_bounded _ = false

abbrev pub is_bounded_at : Code → ℕ → Bool
is_bounded_at code at = option_map_or (λ instr. is_bounded instr.op) (slice_get code.instrs at) false

pub record IsSound (code : Code) (layout : Arrangement) : Type 0 where
  -- for every node, budget and answers
  pub never_stuck : (node budget : ℕ) (s : State) → node < layout.nodes → Reached code layout node budget s
      → IsDone (step_of code layout node s)
  pub placed : (node budget : ℕ) (s : State) → node < layout.nodes → Reached code layout node budget s
      → IsPlacedMove layout (step_of code layout node s)
  -- numbers of the instructions, which fall at each step that is no turn, call or return
  pub numbers : ℕ → ℕ
  pub falls : (node budget : ℕ) (s next : State) → node < layout.nodes → Reached code layout node budget s
      → is_bounded_at code s.frame.at ≡ false → Leads layout (step_of code layout node s) next
      → numbers next.frame.at < numbers s.frame.at
