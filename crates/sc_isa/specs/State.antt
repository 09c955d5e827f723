-- The state of a node that runs code: a stack machine after Landin, "The mechanical evaluation of expressions"
-- (1964), whose operands may still be landing.
use Rattle.std.specs.Prelude.{ℕ, ◌+◌, ◌-◌, ◌==◌, pos, if◌then◌else◌, List, [], ◌∷◌, ◌++◌, length, map, replicate, slice_set, slice_index_or}
use Rattle.sc_base.specs.declared.value.Place.{Place}
use Rattle.sc_base.specs.declared.value.Value.{Value}
use Rattle.sc_base.specs.declared.value.Value.TheVariants.{Int}
use Rattle.sc_isa.specs.declared.operand.Operand.{Operand}
use Rattle.sc_isa.specs.declared.operand.Operand.TheVariants.{Here, Landing}
use Rattle.sc_isa.specs.declared.operand.Slot.{Slot}
use Rattle.sc_isa.specs.declared.operand.Slot.TheVariants.{Holds, Pending}

-- a function that was entered: the instruction at which it goes on, its operands, the top first, and its locals
pub record Frame : Type 0 where
  pub at : ℕ
  pub stack : List Operand
  pub locals : List Slot

-- a read that has not landed
pub record Flight : Type 0 where
  pub counter : ℕ
  pub place : Place

-- the frame that runs and those that called, the newest first; what is left of the budget; and the reads and gets
-- that have not landed, in order of issue
pub record State : Type 0 where
  pub frame : Frame
  pub callers : List Frame
  pub left : ℕ
  pub flying : List Flight

-- a local before it is first set
abbrev pub blank : Slot
blank = Holds (Here (Int (pos 0)))

-- the locals of a function entered with these arguments
abbrev pub entered_with : List Value → (locals : ℕ) → List Slot
entered_with arguments locals = map (λ v. Holds (Here v)) arguments ++ replicate (locals - length arguments) blank

-- ---- changes

abbrev pub with_frame : Frame → State → State
with_frame frame s = record s { frame = frame }

abbrev pub with_stack : List Operand → State → State
with_stack stack s = record s { frame = record { at = s.frame.at; stack = stack; locals = s.frame.locals } }

abbrev pub pushed : Operand → State → State
pushed operand s = with_stack (operand ∷ s.frame.stack) s

abbrev pub at_instr : ℕ → State → State
at_instr at s = record s { frame = record { at = at; stack = s.frame.stack; locals = s.frame.locals } }

abbrev pub with_local : ℕ → Slot → State → State
with_local local slot s = record s
    { frame = record { at = s.frame.at; stack = s.frame.stack; locals = slice_set s.frame.locals local slot } }

abbrev pub with_left : ℕ → State → State
with_left left s = record s { left = left }

-- ---- reads

abbrev pub and_on : ℕ → Flight → List Place → List Place
and_on counter flight places = if flight.counter == counter then flight.place ∷ places else places

-- the places of the reads on the counter, in order of issue
abbrev pub reads_on : ℕ → List Flight → List Place
reads_on counter [] = []
reads_on counter (flight ∷ flights) = and_on counter flight (reads_on counter flights)

abbrev pub and_not_on : ℕ → Flight → List Flight → List Flight
and_not_on counter flight flights = if flight.counter == counter then flights else flight ∷ flights

abbrev pub without_reads_on : ℕ → List Flight → List Flight
without_reads_on counter [] = []
without_reads_on counter (flight ∷ flights) = and_not_on counter flight (without_reads_on counter flights)

abbrev pub flown : ℕ → Place → State → State
flown counter place s = record s { flying = s.flying ++ record { counter = counter; place = place } ∷ [] }

-- the number of the next read on the counter
abbrev pub next_number : ℕ → State → ℕ
next_number counter s = length (reads_on counter s.flying)

-- ---- landing

abbrev pub value_at : List Value → ℕ → Value
value_at values number = slice_index_or values number (Int (pos 0))

abbrev pub land : (counter : ℕ) → List Value → Operand → Operand
land counter values (Here value) = Here value
land counter values (Landing other number) =
    if other == counter then Here (value_at values number) else Landing other number

abbrev pub land_slot : (counter : ℕ) → List Value → Slot → Slot
land_slot counter values (Holds operand) = Holds (land counter values operand)
land_slot counter values (Pending number) =
    if counter == 0 then Holds (Here (value_at values number)) else Pending number

abbrev pub land_frame : (counter : ℕ) → List Value → Frame → Frame
land_frame counter values frame = record {
  at = frame.at;
  stack = map (land counter values) frame.stack;
  locals = map (land_slot counter values) frame.locals;
}

-- Each operand that is landing on the counter becomes its value: in every stack, with the copies that `dup` made, and
-- in every local that was filled; and each local with a pending get does at counter 0.
abbrev pub landed : (counter : ℕ) → List Value → State → State
landed counter values s = record {
  frame = land_frame counter values s.frame;
  callers = map (land_frame counter values) s.callers;
  left = s.left;
  flying = without_reads_on counter s.flying;
}
