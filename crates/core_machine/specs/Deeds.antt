-- What a node does after a step, by what the table of steps says.
use Rattle.std.specs.Prelude.{ℕ, zero, suc, pos, Option, Some, None, List, [], ◌∷◌, length, reverse, take, drop}
use Rattle.std.specs.Prelude.{slice_get, nat_lt, nat_le, if◌then◌else◌}
use Rattle.sc_base.specs.declared.limits.TheConstants.{LIMITS}
use Rattle.sc_base.specs.declared.value.End.TheVariants.{Cut, Waiting}
use Rattle.sc_base.specs.declared.value.CopyMode.{CopyMode}
use Rattle.sc_base.specs.declared.value.FaultKind.TheVariants.{Depth}
use Rattle.sc_base.specs.declared.value.Value.{Value}
use Rattle.sc_base.specs.declared.value.Value.TheVariants.{Int}
use Rattle.sc_isa.specs.Deeds.{Made, makes, faults, stuck, uses, sets, reads, writes, calls, Done, lets_go, ends}
use Rattle.sc_isa.specs.Deeds.{sticks, clears, prints, fills, gets, misses, puts, sends, copies, waits, meets}
use Rattle.sc_core.specs.declared.operation.Operation.{Operation}
use Rattle.sc_core.specs.Core.{Does, Function}
use Rattle.sc_core.specs.Statements.{zero_of}
use Rattle.sc_meaning.specs.declared.request.Request.TheVariants as request
use Rattle.sc_meaning.specs.Asking.{Answer, Broken, Finishes, Breaks}
use Rattle.sc_meaning.specs.Meaning.{Setting}
use Rattle.sc_meaning.specs.Memory.{has, Memory, slot, with_slot, with_get, entered, pushed}
use Rattle.core_machine.specs.Todo.{Todo, performs, gains, does_, after_of, closes, reads_from, fills_from, syncs}
use Rattle.core_machine.specs.Todo.{meets_at, requests, says, State}
use Rattle.core_machine.specs.Jumps.{at_work, halted, faulted, unless_awaited}

-- ---- steps

abbrev pub entered_by : Setting → Option Function → List Value → List Todo → List Value →
    Memory → ℕ → State
entered_by here None arguments ts vs m left = halted Breaks ts vs m left
entered_by here (Some f) arguments ts vs m left =
    at_work (does_ f.body ∷ closes (zero_of f.result) f.line ∷ ts) vs
    (pushed (entered arguments (length f.others)) m) left

abbrev pub called : Setting → (function : ℕ) → List Value → (line : ℕ) → List Todo → List Value →
    Memory → ℕ → State
called here f arguments line ts vs m zero = halted (Finishes Cut) ts vs m zero
called here f arguments line ts vs m (suc left) =
    if nat_lt (length m.frames) LIMITS.frames
    then entered_by here (slice_get here.program.functions f) arguments ts vs m left
    else faulted Depth line ts vs m left

abbrev pub after_step : Setting → Made → (line : ℕ) → List Todo → List Value → Memory → ℕ → State
after_step here (makes v) line ts vs m left = at_work ts (v ∷ vs) m left
after_step here (faults kind) line ts vs m left = faulted kind line ts vs m left
after_step here stuck line ts vs m left = halted Breaks ts vs m left
after_step here (uses x) line ts vs m left =
    unless_awaited line (slot m x) (λ v. at_work ts (v ∷ vs) m left) ts vs m left
after_step here (sets x v) line ts vs m left =
    unless_awaited line (slot m x) (λ old. at_work ts (v ∷ vs) (with_slot m x (has v)) left) ts vs m left
after_step here (reads place) line ts vs m left = at_work (reads_from place line ∷ ts) vs m left
after_step here (writes place v) line ts vs m left =
    at_work (requests (request.Write place v line) ∷ ts) (v ∷ vs) m left
after_step here (calls f arguments) line ts vs m left = called here f arguments line ts vs m left

abbrev pub after_action : CopyMode → Done → (line : ℕ) → List Todo → List Value → Memory → ℕ → State
after_action mode lets_go line ts vs m left = at_work ts vs m left
after_action mode (ends kind) line ts vs m left = faulted kind line ts vs m left
after_action mode sticks line ts vs m left = halted Breaks ts vs m left
after_action mode (clears x v) line ts vs m left =
    unless_awaited line (slot m x) (λ old. at_work ts vs (with_slot m x (has v)) left) ts vs m left
after_action mode (prints text) line ts vs m left = at_work (says text ∷ ts) vs m left
after_action mode (fills x place) line ts vs m left = at_work (fills_from x place line ∷ ts) vs m left
after_action mode (gets x place) line ts vs m left =
    unless_awaited line (slot m x)
    (λ old. at_work (requests (request.Get place line) ∷ ts) vs (with_get m x place) left) ts vs m left
after_action mode (misses x kind) line ts vs m left =
    unless_awaited line (slot m x) (λ old. faulted kind line ts vs m left) ts vs m left
after_action mode (puts place v) line ts vs m left = at_work (requests (request.Put place v line) ∷ ts) vs m left
after_action mode (sends place v) line ts vs m left = at_work (requests (request.Store place v line) ∷ ts) vs m left
after_action mode (copies from to cells) line ts vs m left =
    at_work (requests (request.Copy from to cells mode line) ∷ ts) vs m left
after_action mode (waits counter) line ts vs m left = at_work (syncs line ∷ ts) vs m left
after_action mode (meets stores) line ts vs m left = at_work (meets_at stores line ∷ ts) vs m left

-- by so many of the last values, in their order, if there are as many
abbrev pub by_values : ℕ → List Value → (List Value → List Value → State) → State → State
by_values n vs go amiss = if nat_le n (length vs) then go (reverse (take n vs)) (drop n vs) else amiss

-- by the last value
abbrev pub by_value : List Value → (Value → List Value → State) → State → State
by_value [] go amiss = amiss
by_value (v ∷ vs) go amiss = go v vs

abbrev pub turned : Does → Does → Does → List Todo → List Value → Memory → ℕ → State
turned before body after ts vs m zero = halted (Finishes Cut) ts vs m zero
turned before body after ts vs m (suc left) = at_work (does_ body ∷ after_of before body after ∷ ts) vs m left

abbrev pub taken_back : Option Operation → (line : ℕ) → List Todo → List Todo
taken_back None line ts = ts
taken_back (Some operation) line ts = gains (Int (pos 1)) ∷ performs operation 2 line ∷ ts

-- a node that finds its barrier broken ends as waiting
abbrev pub passed : Answer → List Todo → List Value → Memory → ℕ → State
passed Broken ts vs m left = halted (Finishes Waiting) ts vs m left
passed _ ts vs m left = at_work ts vs m left
