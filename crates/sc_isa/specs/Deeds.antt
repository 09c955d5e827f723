-- What a step does with its values: one table for the machine, whose instructions are these steps, and for the
-- meaning of a source. Tests of null, of extents and of kinds of values stand here, in their order.
use Rattle.std.specs.Prelude.{ℕ, zero, suc, ◌+◌, ◌/◌, ◌%◌, ◌==◌, ℤ, pos, negsuc, nat_le, if◌then◌else◌, Option, Some, None, Result, Ok, Err, Bool, ◌&&◌, List, [], ◌∷◌}
use Rattle.sc_base.specs.declared.value.FaultKind.{FaultKind}
use Rattle.sc_base.specs.declared.value.FaultKind.TheVariants.{Index, NullUse, BadSize}
use Rattle.sc_base.specs.declared.value.Place.{Place}
use Rattle.sc_base.specs.declared.value.Value.{Value}
use Rattle.sc_base.specs.declared.value.Value.TheVariants.{Int, Null, Ptr}
use Rattle.sc_layout.specs.Layout.{Arrangement}
use Rattle.sc_layout.specs.Place.{extent_of}
use Rattle.sc_layout.specs.Pointer.{used_place}
use Rattle.sc_isa.specs.Pure.{Outcome, gives, fails, wrong, is_pointer, ints, computed}
use Rattle.sc_isa.specs.Printing.{formatted}
pub use Rattle.sc_isa.specs.Steps.{Gain, pure, load, set, read, write, call, takes}
pub use Rattle.sc_isa.specs.Steps.{Act, drop, clear, print, fill, get, put, send, copy, wait, barrier, uses_up}

-- what a step that leaves a value does: it makes the value, is a fault, or is stuck at values of a wrong kind or
-- number; it uses a local, or sets it to the value; it reads a place, or writes the value there; it calls a function
pub data Made : Type 0 where
  makes : Value → Made
  faults : FaultKind → Made
  stuck : Made
  uses : (local : ℕ) → Made
  sets : (local : ℕ) → Value → Made
  reads : Place → Made
  writes : Place → Value → Made
  calls : (function : ℕ) → List Value → Made

-- what one that leaves none does
pub data Done : Type 0 where
  lets_go : Done
  ends : FaultKind → Done
  sticks : Done
  clears : (local : ℕ) → Value → Done
  prints : List ℕ → Done
  -- a read whose value the local gets
  fills : (local : ℕ) → Place → Done
  -- an explicit get, whose value the local gets
  gets : (local : ℕ) → Place → Done
  -- the local is tested, and then it is a fault
  misses : (local : ℕ) → FaultKind → Done
  -- an explicit put, and an explicit one-way store
  puts : Place → Value → Done
  sends : Place → Value → Done
  copies : (from to : Place) → (cells : ℕ) → Done
  waits : (counter : ℕ) → Done
  meets : (stores : Bool) → Done

-- ---- places

pub data Spotted : Type 0 where
  found : Place → Spotted
  missing : FaultKind → Spotted
  nowhere : Spotted

abbrev pub place_or_fault : Result Place FaultKind → Spotted
place_or_fault (Ok place) = found place
place_or_fault (Err kind) = missing kind

-- the place that the pointer is used at
abbrev pub spotted : Arrangement → Value → Spotted
spotted layout pointer = if is_pointer layout pointer then place_or_fault (used_place layout pointer) else nowhere

-- the place from which the pointer is used for so many cells
abbrev pub spanned : Arrangement → (cells : ℕ) → Value → Result Place FaultKind
spanned layout cells (Ptr object node offset) =
    if nat_le (offset + cells) (extent_of layout node object)
    then Ok (record { object = object; node = node; offset = offset })
    else Err Index
spanned layout cells value = Err NullUse

-- ---- what each step does

abbrev pub made_by : Outcome → Made
made_by (gives value) = makes value
made_by (fails kind) = faults kind
made_by wrong = stuck

abbrev pub reading : Spotted → Made
reading (found place) = reads place
reading (missing kind) = faults kind
reading nowhere = stuck

abbrev pub writing : Spotted → Value → Made
writing (found place) value = writes place value
writing (missing kind) value = faults kind
writing nowhere value = stuck

abbrev pub made : Arrangement → (node : ℕ) → Gain → List Value → Made
made layout node (pure op) values = made_by (computed layout node op values)
made layout node (load local) [] = uses local
made layout node (set local) (value ∷ []) = sets local value
made layout node read (pointer ∷ []) = reading (spotted layout pointer)
made layout node write (pointer ∷ value ∷ []) = writing (spotted layout pointer) value
made layout node (call function count) values = calls function values
made layout node _ _ = stuck

-- what a local is cleared to
abbrev pub cleared : Bool → Value
cleared pointer = if pointer then Null else Int (pos 0)

abbrev pub printing : List ℕ → Option (List ℤ) → Done
printing format (Some values) = prints (formatted format values)
printing format None = sticks

abbrev pub filling : ℕ → Spotted → Done
filling local (found place) = fills local place
filling local (missing kind) = ends kind
filling local nowhere = sticks

abbrev pub getting : ℕ → Spotted → Done
getting local (found place) = gets local place
getting local (missing kind) = misses local kind
getting local nowhere = sticks

abbrev pub putting : (Place → Value → Done) → Spotted → Value → Done
putting deed (found place) value = deed place value
putting deed (missing kind) value = ends kind
putting deed nowhere value = sticks

abbrev pub copied_from : (to : Place) → (cells : ℕ) → Result Place FaultKind → Done
copied_from to cells (Ok from) = copies from to cells
copied_from to cells (Err kind) = ends kind

-- the destination is tested wholly, then the source
abbrev pub copied : Arrangement → (cells : ℕ) → Result Place FaultKind → (from : Value) → Done
copied layout cells (Ok to) from = copied_from to cells (spanned layout cells from)
copied layout cells (Err kind) from = ends kind

-- bytes are tested first, and with 0 of them nothing more is
abbrev pub copying : Arrangement → (to from : Value) → (bytes : ℤ) → Done
copying layout to from (pos zero) = lets_go
copying layout to from (pos (suc n)) =
    let bytes = suc n in
    if bytes % 8 == 0 then copied layout (bytes / 8) (spanned layout (bytes / 8) to) from else ends BadSize
copying layout to from (negsuc bytes) = ends BadSize

abbrev pub done : Arrangement → Act → List Value → Done
done layout drop (value ∷ []) = lets_go
done layout (clear local pointer) [] = clears local (cleared pointer)
done layout (print format count) values = printing format (ints values)
done layout (fill local) (pointer ∷ []) = filling local (spotted layout pointer)
done layout (get local) (pointer ∷ []) = getting local (spotted layout pointer)
done layout put (pointer ∷ value ∷ []) = putting puts (spotted layout pointer) value
done layout send (pointer ∷ value ∷ []) = putting sends (spotted layout pointer) value
done layout copy (to ∷ from ∷ Int bytes ∷ []) =
    if is_pointer layout to && is_pointer layout from then copying layout to from bytes else sticks
done layout (wait counter) [] = waits counter
done layout (barrier stores) [] = meets stores
done layout _ _ = sticks
