-- What comes of a step: what it does to a node's state, and what it asks. Operands are taken first; then come the
-- tests, in the order in which the instruction table lists its faults; and then its event.
use Rattle.std.specs.Prelude.{ℕ, zero, suc, ◌+◌, nat_lt, if◌then◌else◌, Option, Some, None, Bool, List, [], ◌∷◌, length, slice_get}
use Rattle.sc_base.specs.declared.limits.TheConstants.{LIMITS}
use Rattle.sc_base.specs.declared.value.End.{End}
use Rattle.sc_base.specs.declared.value.End.TheVariants.{Fault, Cut}
use Rattle.sc_base.specs.declared.value.FaultKind.TheVariants.{PendingUse, Depth}
use Rattle.sc_base.specs.declared.value.Place.{Place}
use Rattle.sc_base.specs.declared.value.Value.{Value}
use Rattle.sc_isa.specs.declared.access.Access.{Access}
use Rattle.sc_isa.specs.declared.access.Access.TheVariants as access
use Rattle.sc_isa.specs.declared.access.Track.{Track}
use Rattle.sc_isa.specs.declared.access.Track.TheVariants as tracks
use Rattle.sc_isa.specs.declared.code.Code.{Code}
use Rattle.sc_isa.specs.declared.code.FnRow.{FnRow}
use Rattle.sc_isa.specs.declared.operand.Operand.{Operand}
use Rattle.sc_isa.specs.declared.operand.Operand.TheVariants.{Here, Landing}
use Rattle.sc_isa.specs.declared.operand.Slot.{Slot}
use Rattle.sc_isa.specs.declared.operand.Slot.TheVariants.{Holds, Pending}
use Rattle.sc_isa.specs.Deeds.{Made, makes, faults, stuck, uses, sets, reads, writes, calls}
use Rattle.sc_isa.specs.Deeds.{Done, lets_go, ends, sticks, clears, prints, fills, gets, misses, puts, sends, copies, waits, meets}
use Rattle.sc_isa.specs.State.{State, entered_with, pushed, with_local, with_left, flown, next_number}

-- what an instruction comes to that asks nothing more: the next state, the node's end, or that it can't be done
pub data After : Type 0 where
  GoesOn : State → After
  Ends : End → After
  Sticks : After

-- What an instruction does: it comes to something; or issues an access first; or waits on a counter, and goes on in
-- the state when the values have landed in it; or meets all nodes at a barrier; or says a text.
pub data Move : Type 0 where
  Comes : After → Move
  Issues : Access → After → Move
  Waits : (counter : ℕ) → State → Move
  Meets : (stores : Bool) → State → Move
  Says : List ℕ → State → Move

-- ---- taking operands

pub record Taken : Type 0 where
  -- in the order in which they were pushed
  pub values : List Value
  pub rest : List Operand

-- so many values from the top; None where an operand is missing or still landing
abbrev pub taken : ℕ → List Value → List Operand → Option Taken
taken zero values stack = Some (record { values = values; rest = stack })
taken (suc n) values (Here value ∷ stack) = taken n (value ∷ values) stack
taken (suc n) values _ = None

-- ---- tests

-- a local's value: a pending get is the fault PendingUse, and a local that is still being filled can't be used
abbrev pub local_value : {R : Type 0} → (comes : After → R) → (line : ℕ) → Option Slot → (Value → R) → R
local_value comes line (Some (Holds (Here value))) go = go value
local_value comes line (Some (Pending number)) go = comes (Ends (Fault PendingUse line))
local_value comes line _ go = comes Sticks

-- no get into one of the locals is pending
abbrev pub none_pending : (line : ℕ) → List Slot → After → After
none_pending line [] after = after
none_pending line (Pending number ∷ slots) after = Ends (Fault PendingUse line)
none_pending line (Holds operand ∷ slots) after = none_pending line slots after

-- a turn or a call is counted, or the node is cut
abbrev pub counted : (left : ℕ) → (ℕ → After) → After
counted zero go = Ends Cut
counted (suc left) go = go left

-- a further frame fits, or it is the fault Depth
abbrev pub one_deeper : (line : ℕ) → State → After → After
one_deeper line s after = if nat_lt (length s.callers + 1) LIMITS.frames then after else Ends (Fault Depth line)

-- ---- what the deeds do to a state from which the operands were taken, and which goes on at the next instruction

abbrev pub used : (line local : ℕ) → State → (Value → Move) → Move
used line local s go = local_value Comes line (slice_get s.frame.locals local) go

-- the state with a read on its way to the top of the stack
abbrev pub reading_in : (counter : ℕ) → State → Place → State
reading_in counter s place = pushed (Landing counter (next_number counter s)) (flown counter place s)

abbrev pub call_of : FnRow → List Value → State → State
call_of row arguments s = record {
  frame = record { at = row.start; stack = []; locals = entered_with arguments row.locals };
  callers = s.frame ∷ s.callers;
  left = s.left;
  flying = s.flying;
}

abbrev pub called : (line : ℕ) → Option FnRow → List Value → State → After
called line None arguments s = Sticks
called line (Some row) arguments s =
    counted s.left (λ left. one_deeper line s (GoesOn (call_of row arguments (with_left left s))))

abbrev pub gain_done : Code → (site : ℕ) → Track → (line : ℕ) → State → Made → Move
gain_done code site track line s (makes value) = Comes (GoesOn (pushed (Here value) s))
gain_done code site track line s (faults kind) = Comes (Ends (Fault kind line))
gain_done code site track line s stuck = Comes Sticks
gain_done code site track line s (uses local) = used line local s (λ value. Comes (GoesOn (pushed (Here value) s)))
gain_done code site track line s (sets local value) =
    used line local s (λ old. Comes (GoesOn (pushed (Here value) (with_local local (Holds (Here value)) s))))
gain_done code site track line s (reads place) =
    Issues (access.Read place (tracks.Counter site)) (GoesOn (reading_in site s place))
gain_done code site track line s (writes place value) =
    Issues (access.Write place value track) (GoesOn (pushed (Here value) s))
gain_done code site track line s (calls function arguments) =
    Comes (called line (slice_get code.functions function) arguments s)

abbrev pub act_done : (site : ℕ) → Track → (line : ℕ) → State → Done → Move
act_done site track line s lets_go = Comes (GoesOn s)
act_done site track line s (ends kind) = Comes (Ends (Fault kind line))
act_done site track line s sticks = Comes Sticks
act_done site track line s (clears local value) =
    used line local s (λ old. Comes (GoesOn (with_local local (Holds (Here value)) s)))
act_done site track line s (prints text) = Says text s
act_done site track line s (fills local place) =
    Issues (access.Read place (tracks.Counter site))
    (local_value (λ after. after) line (slice_get s.frame.locals local)
    (λ old. GoesOn (with_local local (Holds (Landing site (next_number site s))) (flown site place s))))
act_done site track line s (gets local place) =
    used line local s (λ old. Issues (access.Read place (tracks.Counter 0))
    (GoesOn (with_local local (Pending (next_number 0 s)) (flown 0 place s))))
act_done site track line s (misses local kind) = used line local s (λ old. Comes (Ends (Fault kind line)))
act_done site track line s (puts place value) = Issues (access.Write place value track) (GoesOn s)
act_done site track line s (sends place value) = Issues (access.Write place value track) (GoesOn s)
act_done site track line s (copies from to cells) = Issues (access.Copy from to cells track) (GoesOn s)
act_done site track line s (waits counter) = Waits counter s
act_done site track line s (meets stores) = Meets stores s
