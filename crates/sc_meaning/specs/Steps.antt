-- What a step does to a node: what it requests, and what comes after it. What comes after is a function of what the
-- node remembers and of how many turns and calls its budget leaves, as in Reynolds, "The discoveries of continuations"
-- (1993).
use Rattle.std.specs.Prelude.{ℕ, zero, suc, pos, List, [], ◌∷◌, Bool, true, false}
use Rattle.resumption.specs.Resumption.{Asks, Makes, Says, Stops}
use Rattle.sc_base.specs.declared.value.CopyMode.{CopyMode}
use Rattle.sc_base.specs.declared.value.CopyMode.TheVariants.{Blocking}
use Rattle.sc_base.specs.declared.value.End.TheVariants.{Fault, Cut, Waiting}
use Rattle.sc_base.specs.declared.value.FaultKind.TheVariants.{PendingUse}
use Rattle.sc_base.specs.declared.value.Value.{Value}
use Rattle.sc_base.specs.declared.value.Value.TheVariants.{Int}
use Rattle.sc_layout.specs.Layout.{Arrangement}
use Rattle.sc_isa.specs.Elements.{Outcome, gives, fails, wrong}
use Rattle.sc_isa.specs.Pure.{truth, computed}
use Rattle.sc_isa.specs.Deeds.{Made, makes, faults, stuck, uses, sets, reads, writes, calls, Done, lets_go, ends, sticks, clears, prints, fills, gets, misses, puts, sends, copies, waits, meets}
use Rattle.sc_core.specs.declared.operation.Action.{Action}
use Rattle.sc_core.specs.declared.operation.Action.TheVariants.{Copy}
use Rattle.sc_meaning.specs.declared.request.Request.{Request}
use Rattle.sc_meaning.specs.declared.request.Request.TheVariants as request
use Rattle.sc_meaning.specs.Asking.{PointedDoing, Requested, Answer, Shown, Landed, Broken, Finishes, Breaks, fits_read, fits_sync, fits_barrier}
use Rattle.sc_meaning.specs.Memory.{Slot, has, awaits, Memory, slot, with_slot, with_get, places, synced}

-- what comes after, by what is remembered and what the budget leaves
abbrev pub Rest : Type 0
Rest = Memory → ℕ → PointedDoing

-- ---- requests

abbrev pub shown_or_zero : Answer → Value
shown_or_zero (Shown value) = value
shown_or_zero _ = Int (pos 0)

abbrev pub landed_or_none : Answer → List Value
landed_or_none (Landed values) = values
landed_or_none _ = []

-- a node that finds its barrier broken ends as waiting
abbrev pub unless_broken : Answer → PointedDoing → PointedDoing
unless_broken Broken rest = Stops (Finishes Waiting)
unless_broken _ rest = rest

abbrev pub barrier_request : (stores : Bool) → (line : ℕ) → Request
barrier_request true line = request.AllStoreSync line
barrier_request false line = request.Barrier line

-- ---- tests

-- a local's value, or that a get into it is outstanding
abbrev pub used : (line : ℕ) → Slot → (Value → PointedDoing) → PointedDoing
used line (has v) go = go v
used line awaits go = Stops (Finishes (Fault PendingUse line))

-- no get into one of the locals is outstanding
abbrev pub none_awaits : (line : ℕ) → List Slot → PointedDoing → PointedDoing
none_awaits line [] rest = rest
none_awaits line (has v ∷ slots) rest = none_awaits line slots rest
none_awaits line (awaits ∷ slots) rest = Stops (Finishes (Fault PendingUse line))

-- a turn or a call is counted, or the node is cut
abbrev pub counted : ℕ → (ℕ → PointedDoing) → PointedDoing
counted zero go = Stops (Finishes Cut)
counted (suc left) go = go left

abbrev pub decided_by : Value → (on off : PointedDoing) → PointedDoing
decided_by (Int (pos zero)) on off = off
decided_by (Int n) on off = on
decided_by _ on off = Stops Breaks

abbrev pub decided_as : Outcome → (on off : PointedDoing) → PointedDoing
decided_as (gives v) on off = decided_by v on off
decided_as (fails kind) on off = Stops Breaks
decided_as wrong on off = Stops Breaks

-- by a test, which is of a pointer where the first says so
abbrev pub decided : Arrangement → (node : ℕ) → (of_pointer : Bool) → Value →
    (on off : PointedDoing) → PointedDoing
decided layout node false v on off = decided_by v on off
decided layout node true v on off = decided_as (computed layout node truth (v ∷ [])) on off

-- ---- steps with a value

abbrev pub Calls : Type 0
Calls = (function : ℕ) → List Value → (line : ℕ) → (Value → Rest) → Rest

abbrev pub perform : Arrangement → Calls → Made → (line : ℕ) → (Value → Rest) → Rest
perform layout call (makes v) line go m left = go v m left
perform layout call (faults kind) line go m left = Stops (Finishes (Fault kind line))
perform layout call stuck line go m left = Stops Breaks
perform layout call (uses x) line go m left = used line (slot m x) (λ v. go v m left)
perform layout call (sets x v) line go m left = used line (slot m x) (λ old. go v (with_slot m x (has v)) left)
perform layout call (reads place) line go m left =
    Asks (Requested (request.Read place line)) (fits_read layout place) (λ answer. go (shown_or_zero answer) m left)
perform layout call (writes place v) line go m left = Makes (Requested (request.Write place v line)) (go v m left)
perform layout call (calls f vs) line go m left = call f vs line go m left

-- ---- steps without one

-- how what the action copies is waited for
abbrev pub mode_of : Action → CopyMode
mode_of (Copy mode) = mode
mode_of _ = Blocking

abbrev pub enact : Arrangement → CopyMode → Done → (line : ℕ) → Rest → Rest
enact layout mode lets_go line rest m left = rest m left
enact layout mode (ends kind) line rest m left = Stops (Finishes (Fault kind line))
enact layout mode sticks line rest m left = Stops Breaks
enact layout mode (clears x v) line rest m left = used line (slot m x) (λ old. rest (with_slot m x (has v)) left)
enact layout mode (prints text) line rest m left = Says text (rest m left)
enact layout mode (fills x place) line rest m left =
    Asks (Requested (request.Read place line)) (fits_read layout place)
    (λ answer. used line (slot m x) (λ old. rest (with_slot m x (has (shown_or_zero answer))) left))
enact layout mode (gets x place) line rest m left =
    used line (slot m x) (λ old. Makes (Requested (request.Get place line)) (rest (with_get m x place) left))
enact layout mode (misses x kind) line rest m left = used line (slot m x) (λ old. Stops (Finishes (Fault kind line)))
enact layout mode (puts place v) line rest m left = Makes (Requested (request.Put place v line)) (rest m left)
enact layout mode (sends place v) line rest m left = Makes (Requested (request.Store place v line)) (rest m left)
enact layout mode (copies from to cells) line rest m left =
    Makes (Requested (request.Copy from to cells mode line)) (rest m left)
enact layout mode (waits counter) line rest m left =
    Asks (Requested (request.Sync line)) (fits_sync layout (places m))
    (λ answer. rest (synced (landed_or_none answer) m) left)
enact layout mode (meets stores) line rest m left =
    Asks (Requested (barrier_request stores line)) fits_barrier (λ answer. unless_broken answer (rest m left))
