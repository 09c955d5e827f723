-- What the fabric keeps in a journal, as a test: exactly so. A past is a list of entries, the newest first.
use Rattle.std.specs.Prelude.{ℕ, zero, suc, ◌+◌, List, [], ◌∷◌, Option, Some, None, is_some, is_none, Bool, true, false, not, ◌==◌, ◌&&◌, ◌||◌, nat_lt, nat_le}
use Rattle.sc_base.specs.declared.value.Value.{Value}
use Rattle.sc_base.specs.declared.value.Place.{Place}
use Rattle.sc_base.specs.declared.value.End.TheVariants.{Waiting}
use Rattle.effect_order.specs.Effect.{Effect, same_value}
use Rattle.sc_isa.specs.declared.access.Track.{Track}
use Rattle.sc_isa.specs.declared.journal.Entry.{Entry}
use Rattle.sc_isa.specs.declared.journal.Entry.TheVariants.{Issued, Delivered, Waited, Arrived, Passed, Finished}
use Rattle.fabric.specs.Access.{is_counter, is_store, is_covered}
use Rattle.fabric.specs.Effects.{access_at, issues, effects, at_delivery}
use Rattle.fabric.specs.Barriers.{arrivals, passes, released, stores_at, finished}
use Rattle.fabric.specs.Outstanding.{outstanding}

-- the test holds of every number below the bound
abbrev pub all_below : ℕ → (ℕ → Bool) → Bool
all_below zero test = true
all_below (suc n) test = test n && all_below n test

-- the test holds of some number below the bound
abbrev pub any_below : ℕ → (ℕ → Bool) → Bool
any_below zero test = false
any_below (suc n) test = test n || any_below n test

abbrev pub is_running : (nodes : ℕ) → List Entry → (node : ℕ) → Bool
is_running nodes past node = nat_lt node nodes && is_none (finished node past)

abbrev pub is_going : (nodes : ℕ) → List Entry → (node : ℕ) → Bool
is_going nodes past node = is_running nodes past node && (arrivals node past == passes node past)

-- the effect is there, and has the value
abbrev pub has_value : Value → Option Effect → Bool
has_value value None = false
has_value value (Some effect) = same_value value effect.value

abbrev pub is_delivery : (start : Place → Value) (nodes : ℕ) → List Entry → (node number cell : ℕ) →
    Value → Bool
is_delivery start nodes past node number cell value =
    nat_lt node nodes
    && has_value value (at_delivery start (access_at node number past) node number cell (effects start past))

-- no cell of the node's accesses on these tracks has a part still to occur
abbrev pub is_done : (start : Place → Value) → List Entry → (on : Track → Bool) → (node : ℕ) → Bool
is_done start past on node = outstanding start (λ other. other == node) on past == 0

-- no cell of any node's
abbrev pub is_landed : (start : Place → Value) (nodes : ℕ) → List Entry → (on : Track → Bool) → Bool
is_landed start nodes past on = all_below nodes (is_done start past on)

-- the next release, where nobody has passed its barrier before, waits for no part
abbrev pub is_clear : (start : Place → Value) (nodes : ℕ) → List Entry → (m : ℕ) → Bool
is_clear start nodes past m =
    nat_le m (released past)
    || (is_landed start nodes past is_covered && (not (stores_at m past) || is_landed start nodes past is_store))

abbrev pub is_pass : (start : Place → Value) (nodes : ℕ) → List Entry → (node : ℕ) → Bool
is_pass start nodes past node =
    let m : ℕ = passes node past + 1 in
    is_running nodes past node
    && (all_below nodes (λ other. nat_le m (arrivals other past)) && is_clear start nodes past m)

abbrev pub stands_next : List Entry → (node : ℕ) → Bool
stands_next past node = arrivals node past == released past + 1

abbrev pub is_broken : (nodes : ℕ) → List Entry → (node : ℕ) → Bool
is_broken nodes past node =
    stands_next past node
    && (all_below nodes (λ other. stands_next past other || is_some (finished other past))
    && any_below nodes (λ other. is_some (finished other past)))

abbrev pub entry_wired : (start : Place → Value) (nodes : ℕ) → List Entry → Entry → Bool
entry_wired start nodes past (Issued node number access) = is_going nodes past node && (number == issues node past)
entry_wired start nodes past (Delivered node number cell value) = is_delivery start nodes past node number cell value
entry_wired start nodes past (Waited node counter) =
    is_going nodes past node && is_done start past (is_counter counter) node
entry_wired start nodes past (Arrived node stores) = is_going nodes past node
entry_wired start nodes past (Passed node) = is_pass start nodes past node
entry_wired start nodes past (Finished node Waiting) = is_running nodes past node && is_broken nodes past node
entry_wired start nodes past (Finished node _) = is_going nodes past node

abbrev pub wired : (start : Place → Value) (nodes : ℕ) → List Entry → Bool
wired start nodes [] = true
wired start nodes (entry ∷ past) = entry_wired start nodes past entry && wired start nodes past
