-- Tests of values, and where a node goes on that leaves a loop or a function.
use Rattle.std.specs.Prelude.{ℕ, zero, ◌+◌, pos, Option, Some, None, Bool, true, false, List, [], ◌∷◌, if◌then◌else◌}
use Rattle.sc_base.specs.declared.value.End.TheVariants.{Fault}
use Rattle.sc_base.specs.declared.value.FaultKind.{FaultKind}
use Rattle.sc_base.specs.declared.value.FaultKind.TheVariants.{PendingUse}
use Rattle.sc_base.specs.declared.value.Value.{Value}
use Rattle.sc_base.specs.declared.value.Value.TheVariants.{Int}
use Rattle.sc_isa.specs.Elements.{Outcome, gives, fails, wrong}
use Rattle.sc_isa.specs.Pure.{truth, computed}
use Rattle.sc_core.specs.Core.{Arguments, none, argument}
use Rattle.sc_meaning.specs.Asking.{Halt, Finishes, Breaks}
use Rattle.sc_meaning.specs.Meaning.{Setting}
use Rattle.sc_meaning.specs.Memory.{Slot, has, awaits, Memory, top, popped}
use Rattle.core_machine.specs.Todo.{Todo, rounds_of, turn_of, after_of, closes, halts, State}

abbrev pub at_work : List Todo → List Value → Memory → ℕ → State
at_work ts vs m left = record { todo = ts; values = vs; memory = m; left = left }

abbrev pub halted : Halt → List Todo → List Value → Memory → ℕ → State
halted halt ts vs m left = at_work (halts halt ∷ ts) vs m left

abbrev pub faulted : FaultKind → (line : ℕ) → List Todo → List Value → Memory → ℕ → State
faulted kind line ts vs m left = halted (Finishes (Fault kind line)) ts vs m left

-- ---- tests

abbrev pub count : Arguments → ℕ
count none = 0
count (argument e more) = count more + 1

abbrev pub truth_by : Value → Option Bool
truth_by (Int (pos zero)) = Some false
truth_by (Int n) = Some true
truth_by _ = None

abbrev pub truth_as : Outcome → Option Bool
truth_as (gives v) = truth_by v
truth_as (fails kind) = None
truth_as wrong = None

-- whether the test is true; None where it is none
abbrev pub truth_of : Setting → (of_pointer : Bool) → Value → Option Bool
truth_of here false v = truth_by v
truth_of here true v = truth_as (computed here.layout here.node truth (v ∷ []))

abbrev pub chosen : Option Bool → (on off amiss : State) → State
chosen None on off amiss = amiss
chosen (Some true) on off amiss = on
chosen (Some false) on off amiss = off

-- where the local's value is used
abbrev pub unless_awaited : (line : ℕ) → Slot → (Value → State) → List Todo → List Value →
    Memory → ℕ → State
unless_awaited line (has v) go ts vs m left = go v
unless_awaited line awaits go ts vs m left = faulted PendingUse line ts vs m left

abbrev pub any_awaited : List Slot → Bool
any_awaited [] = false
any_awaited (has v ∷ slots) = any_awaited slots
any_awaited (awaits ∷ slots) = true

-- ---- jumps

-- what is left behind the loop; None where no loop stands around
abbrev pub left_by_break : List Todo → Option (List Todo)
left_by_break [] = None
left_by_break (rounds_of before body after ∷ ts) = Some ts
left_by_break (turn_of before body after ∷ ts) = Some ts
left_by_break (after_of before body after ∷ ts) = Some ts
left_by_break (closes at_end line ∷ ts) = None
left_by_break (_ ∷ ts) = left_by_break ts

-- what is left of the loop whose body this is
abbrev pub left_by_continue : List Todo → Option (List Todo)
left_by_continue [] = None
left_by_continue (after_of before body after ∷ ts) = Some (after_of before body after ∷ ts)
left_by_continue (closes at_end line ∷ ts) = None
left_by_continue (_ ∷ ts) = left_by_continue ts

-- what is left behind the function
abbrev pub left_by_return : List Todo → Option (List Todo)
left_by_return [] = None
left_by_return (closes at_end line ∷ ts) = Some ts
left_by_return (_ ∷ ts) = left_by_return ts

abbrev pub or_stuck : Option (List Todo) → List Value → Memory → ℕ → State
or_stuck (Some ts) vs m left = at_work ts vs m left
or_stuck None vs m left = halted Breaks [] vs m left

-- the function is left with the last value, unless a get into one of its locals is outstanding
abbrev pub returned : (line : ℕ) → Option (List Todo) → List Todo → List Value → Memory → ℕ → State
returned line behind ts vs m left =
    if any_awaited (top m.frames) then faulted PendingUse line ts vs m left else or_stuck behind vs (popped m) left
