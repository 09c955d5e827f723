-- The test whether an event is allowed after a past, by which replay and the source order compute: one line for each
-- condition of a legal history, after Lamport's sequential consistency (1979).
use Rattle.std.specs.Prelude.{ℕ, ◌+◌, List, ◌∷◌, length, slice_get, Option, is_none, is_some, Bool, true, false, not, ◌==◌, ◌&&◌, ◌||◌, nat_lt, nat_le, if◌then◌else◌}
use Rattle.std.specs.Option.{option_map_or}
use Rattle.sc_base.specs.declared.value.Value.{Value}
use Rattle.sc_base.specs.declared.value.Place.{Place}
use Rattle.sc_base.specs.declared.value.FaultKind.{FaultKind}
use Rattle.sc_base.specs.declared.value.FaultKind.TheVariants as fault
use Rattle.sc_base.specs.declared.value.End.{End}
use Rattle.sc_base.specs.declared.value.End.TheVariants.{Ended, Fault, Cut, Waiting}
use Rattle.effect_order.specs.Effect.{Effect as CellEffect, same_place, same_value}
use Rattle.sc_meaning.specs.declared.request.Request.{Request}
use Rattle.sc_meaning.specs.declared.request.Request.TheVariants.{Read, Write, Sync as SyncRequest, Barrier, AllStoreSync}
use Rattle.sc_meaning.specs.declared.event.SourceEvent.{SourceEvent}
use Rattle.sc_meaning.specs.declared.event.SourceEvent.TheVariants.{Do, Issue, Effect, Sync, Arrive, Release, End as Over}
use Rattle.sc_meaning.specs.Below.{all_below}
use Rattle.resumption.specs.Resumption.{RunEnd, Ends, Short}
use Rattle.effect_order.specs.Transfer.{Transfer, part_place, part_value, written}
use Rattle.sc_meaning.specs.Asking.{Halt, Finishes, Breaks}
use Rattle.sc_meaning.specs.Parts.{transfer_of, is_blocking_copy, is_split, is_one_way, is_issued}
use Rattle.sc_meaning.specs.Past.{Processes, effects, shown, releases, arrivals, stores_at, made, ended, run_so_far, request_at}

abbrev pub same_kind : FaultKind → FaultKind → Bool
same_kind fault.Divide fault.Divide = true
same_kind fault.Overflow fault.Overflow = true
same_kind fault.Shift fault.Shift = true
same_kind fault.Index fault.Index = true
same_kind fault.NullUse fault.NullUse = true
same_kind fault.BadNode fault.BadNode = true
same_kind fault.PendingUse fault.PendingUse = true
same_kind fault.BadSize fault.BadSize = true
same_kind fault.Depth fault.Depth = true
same_kind _ _ = false

abbrev pub same_end : End → End → Bool
same_end Ended Ended = true
same_end (Fault kind line) (Fault other at) = same_kind kind other && (line == at)
same_end Cut Cut = true
same_end Waiting Waiting = true
same_end _ _ = false

abbrev pub ends_as : End → RunEnd Halt → Bool
ends_as end (Ends (Finishes other)) = same_end end other
ends_as end (Ends Breaks) = false
ends_as end Short = false

abbrev pub holds_value : Value → Option Value → Bool
holds_value value other = option_map_or (λ v. same_value value v) other false

abbrev pub holds_place : Place → Option Place → Bool
holds_place place other = option_map_or (λ p. same_place place p) other false

-- the part has occurred, or the transfer does not have it
abbrev pub part_over : Transfer → (node number cell : ℕ) → (wrote : Bool) → List CellEffect → Bool
part_over transfer node number cell wrote earlier =
    is_none (part_place transfer cell wrote) || is_some (part_value node number cell wrote earlier)

abbrev pub all_occurred : Transfer → (node number : ℕ) → List CellEffect → Bool
all_occurred transfer node number earlier =
    all_below transfer.cells (λ cell. part_over transfer node number cell false earlier
    && part_over transfer node number cell true earlier)

abbrev pub is_over : (Request → Bool) → (node number : ℕ) → List CellEffect → Request → Bool
is_over kind node number earlier request = not (kind request) || all_occurred (transfer_of request) node number earlier

abbrev pub all_done : Processes → (Request → Bool) → ℕ → List SourceEvent → Bool
all_done processes kind node past =
    all_below (made node past) (λ number. option_map_or (is_over kind node number (effects past))
    (request_at processes node number past) true)

abbrev pub goes_on : Processes → List SourceEvent → ℕ → Bool
goes_on processes past node =
    nat_lt node processes.nodes && (is_none (ended node past)
    && (all_done processes is_blocking_copy node past && nat_le (arrivals node past) (releases past)))

-- the node's next request has this number and passes the test
abbrev pub is_next : Processes → List SourceEvent → (node number : ℕ) → (Request → Bool) → Bool
is_next processes past node number test =
    goes_on processes past node && ((number == made node past)
    && option_map_or test (slice_get (run_so_far processes node past).events number) false)

abbrev pub is_read_of : Place → Request → Bool
is_read_of place (Read other line) = same_place place other
is_read_of place _ = false

abbrev pub is_write_of : Place → Value → Request → Bool
is_write_of place value (Write other v line) = same_place place other && same_value value v
is_write_of place value _ = false

abbrev pub is_sync : Request → Bool
is_sync (SyncRequest line) = true
is_sync _ = false

abbrev pub is_barrier : (stores : Bool) → Request → Bool
is_barrier true (AllStoreSync line) = true
is_barrier false (Barrier line) = true
is_barrier stores _ = false

-- the part of this request may occur
abbrev pub may_occur : Processes → List SourceEvent → (node number cell : ℕ) → (wrote : Bool) → Place →
    Value → Request → Bool
may_occur processes past node number cell wrote place value request =
    is_issued request && (holds_place place (part_place (transfer_of request) cell wrote)
    && (is_none (part_value node number cell wrote (effects past))
    && (if wrote then holds_value value (written (transfer_of request) node number cell (effects past))
    else same_value value (shown processes.start place past))))

abbrev pub may_release : Processes → List SourceEvent → ℕ → Bool
may_release processes past number =
    (number == releases past + 1)
    && all_below processes.nodes (λ node. nat_le number (arrivals node past) && (is_none (ended node past)
    && (not (stores_at number past) || all_done processes is_one_way node past)))

abbrev pub may_end : Processes → List SourceEvent → ℕ → End → Bool
may_end processes past node end =
    goes_on processes past node && ((made node past == length (run_so_far processes node past).events)
    && ends_as end (run_so_far processes node past).end)

abbrev pub may_give_up : Processes → List SourceEvent → ℕ → Bool
may_give_up processes past node =
    nat_lt node processes.nodes && (is_none (ended node past) && ((arrivals node past == releases past + 1)
    && ((made node past == length (run_so_far processes node (Over node Waiting ∷ past)).events)
    && ends_as Waiting (run_so_far processes node (Over node Waiting ∷ past)).end)))

abbrev pub allowed : Processes → List SourceEvent → SourceEvent → Bool
allowed processes past (Do node request false place value) =
    is_next processes past node request (is_read_of place) && same_value value (shown processes.start place past)
allowed processes past (Do node request true place value) =
    is_next processes past node request (is_write_of place value)
allowed processes past (Issue node request) = is_next processes past node request is_issued
allowed processes past (Effect node request cell wrote place value) =
    nat_lt node processes.nodes && option_map_or (may_occur processes past node request cell wrote place value)
    (request_at processes node request past) false
allowed processes past (Sync node request) = is_next processes past node request is_sync
    && all_done processes is_split node past
allowed processes past (Arrive node request stores) = is_next processes past node request (is_barrier stores)
allowed processes past (Release number) = may_release processes past number
allowed processes past (Over node Waiting) = may_give_up processes past node
allowed processes past (Over node end) = may_end processes past node end
