-- How the machine stands for a state of the instruction table: it knows how many reads are on their way, and not which.
use Rattle.std.specs.Prelude.{◌≡◌, ℕ, ◌+◌, ◌<◌, Bool, true, false, Option, Some, Result, Ok, Err, List, ◌++◌, length, slice_get, slice_index}
use Rattle.sc_base.specs.declared.value.End.TheVariants.{Fault}
use Rattle.sc_base.specs.declared.value.FaultKind.TheVariants.{PendingUse}
use Rattle.sc_base.specs.declared.value.Place.{Place}
use Rattle.sc_base.specs.declared.value.Value.{Value}
use Rattle.sc_isa.specs.declared.operand.Operand.TheVariants.{Here, Landing}
use Rattle.sc_isa.specs.declared.operand.Slot.{Slot}
use Rattle.sc_isa.specs.declared.operand.Slot.TheVariants.{Holds, Pending}
use Rattle.sc_isa.specs.State.{State, Flight, reads_on, with_local, next_number, flown, at_instr}
use Rattle.sc_isa.specs.declared.code.Code.{Code}
use Rattle.sc_isa.specs.declared.op.Op.{Op}
use Rattle.sc_isa.specs.Table.{does_op}
use Rattle.sc_layout.specs.Layout.{Arrangement}
use Rattle.sc_isa.specs.Moves as table
use Rattle.node_machine.specs.declared.machine.After.{After}
use Rattle.node_machine.specs.declared.machine.After.TheVariants as after
use Rattle.node_machine.specs.declared.machine.Move.{Move}
use Rattle.node_machine.specs.declared.machine.Move.TheVariants as move
use Rattle.node_machine.specs.declared.machine.Machine.{Machine}

-- the machine's state, with these reads on their way
abbrev pub state_of : Machine → List Flight → State
state_of m flying = record {
  frame = record { at = m.at; stack = m.frames.stack; locals = m.frames.locals };
  callers = m.frames.callers;
  left = m.left;
  flying = flying;
}

-- so many reads are on their way for each counter
abbrev pub Counts : List ℕ → List Flight → Type 0
Counts numbers flying =
    (counter : ℕ) → counter < length numbers → slice_index numbers counter ≡ length (reads_on counter flying)

-- the machine stands for the state
pub record Stands (m : Machine) (s : State) : Type 0 where
  pub state : s ≡ state_of m s.flying
  pub counts : Counts m.reads s.flying

abbrev pub AfterDone : table.After → After → Machine → Type 0
AfterDone (table.GoesOn s) after.GoesOn m = Stands m s
AfterDone (table.Ends end) (after.Ends other) m = end ≡ other
AfterDone table.Sticks after.Sticks m = Unit {0}
AfterDone _ _ m = ⊥

-- the move of the table was made, which says nothing, and the machine stands for the state that it leads to
abbrev pub Done : table.Move → Move → Machine → Type 0
Done (table.Comes a) (move.Comes b) m = AfterDone a b m
Done (table.Issues access a) (move.Issues other b) m = (access ≡ other) × AfterDone a b m
Done (table.Waits counter s) (move.Waits other) m = (counter ≡ other) × Stands m s
Done (table.Meets stores s) (move.Meets other) m = (stores ≡ other) × Stands m s
Done _ _ m = ⊥

-- from whatever state the machine stood for, the move was made
abbrev pub Does : (old : Machine) → Move → (new : Machine) → (State → table.Move) → Type 0
Does old made new next =
    (flying : List Flight) → Counts old.reads flying → Done (next (state_of old flying)) made new

-- a whole step: the move was made, and what it says, and nothing else, was added to the text
abbrev pub Stepped : table.Move → Move → Machine → (before now : List ℕ) → Type 0
Stepped (table.Says text s) (move.Comes after.GoesOn) m before now = Stands m s × (now ≡ before ++ text)
Stepped (table.Says text s) _ m before now = ⊥
Stepped next made m before now = Done next made m × (now ≡ before)

abbrev pub Steps :
    (old : Machine) → Move → (new : Machine) → (before now : List ℕ) → (State → table.Move) → Type 0
Steps old made new before now next =
    (flying : List Flight) → Counts old.reads flying → Stepped (next (state_of old flying)) made new before now

-- all is as it was, but that there may be more room
pub record IsAsBefore (old new : Machine) : Type 0 where
  pub same : (flying : List Flight) → state_of new flying ≡ state_of old flying
  pub reads : new.reads ≡ old.reads

-- ---- a local's value

-- PendingUse where a get is pending, and stuck where the local is still being filled
abbrev pub local_of : (line : ℕ) → Option Slot → Result Value After
local_of line (Some (Holds (Here value))) = Ok value
local_of line (Some (Pending number)) = Err (after.Ends (Fault PendingUse line))
local_of line _ = Err after.Sticks

-- a read of the place lands in the local
abbrev pub filled : Place → (site local line : ℕ) → State → table.After
filled place site local line s =
    table.local_value (λ after. after) line (slice_get s.frame.locals local)
    (λ old. table.GoesOn (with_local local (Holds (Landing site (next_number site s))) (flown site place s)))

-- where it is done at once, it goes on as the table does; and else all is as it was
abbrev pub DoesQuickly : (old : Machine) → Bool → (new : Machine) → Op → Type 0
DoesQuickly old done new o =
    (done ≡ true → (code : Code) (layout : Arrangement) (own line : ℕ)
    → Does old (move.Comes after.GoesOn) new (λ s. does_op code layout own o line (at_instr (s.frame.at + 1) s)))
    × (done ≡ false → new ≡ old)
