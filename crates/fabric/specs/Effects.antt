-- What a journal says: the accesses issued, the effects of their parts in the order in which they occur, and what a
-- wait is answered, for accesses by messages as in "Active Messages" (von Eicken and others, 1992). A past is a list of
-- entries, the newest first.
use Rattle.std.specs.Prelude.{ℕ, zero, suc, pos, ◌+◌, List, [], ◌∷◌, ◌++◌, map, Option, Some, None, true, false, ◌==◌, ◌&&◌, if◌then◌else◌}
use Rattle.sc_base.specs.declared.value.Value.{Value}
use Rattle.sc_base.specs.declared.value.Value.TheVariants.{Int}
use Rattle.sc_base.specs.declared.value.Place.{Place}
use Rattle.effect_order.specs.Effect.{Effect, held}
use Rattle.effect_order.specs.Transfer.{Transfer, part_place, part_value, written}
use Rattle.sc_isa.specs.declared.access.Access.{Access}
use Rattle.sc_isa.specs.declared.journal.Entry.{Entry}
use Rattle.sc_isa.specs.declared.journal.Entry.TheVariants.{Issued, Delivered, Waited}
use Rattle.fabric.specs.Access.{transfer_of, is_read_on}

-- ---- issues

-- how many accesses the node has issued
abbrev pub issues : ℕ → List Entry → ℕ
issues node [] = 0
issues node (Issued other number access ∷ past) = if other == node then issues node past + 1 else issues node past
issues node (_ ∷ past) = issues node past

-- the access that the node issued with this number
abbrev pub access_at : (node number : ℕ) → List Entry → Option Access
access_at node number [] = None
access_at node number (Issued other n access ∷ past) =
    if (other == node) && (n == number) then Some access else access_at node number past
access_at node number (_ ∷ past) = access_at node number past

-- the numbers of the node's reads on the counter since its last wait there, in order of issue
abbrev pub awaited : (node counter : ℕ) → List Entry → List ℕ
awaited node counter [] = []
awaited node counter (Issued other number access ∷ past) =
    if (other == node) && is_read_on counter access then awaited node counter past ++ number ∷ []
    else awaited node counter past
awaited node counter (Waited other c ∷ past) =
    if (other == node) && (c == counter) then [] else awaited node counter past
awaited node counter (_ ∷ past) = awaited node counter past

-- ---- the part of a cell that comes next; start: what each cell holds before any write

-- a reading part shows what its place holds
abbrev pub reading : (start : Place → Value) (node number cell : ℕ) → List Effect →
    Option Place → Option Effect
reading start node number cell earlier None = None
reading start node number cell earlier (Some place) =
    Some (record {
      node = node;
      number = number;
      cell = cell;
      wrote = false;
      place = place;
      value = held start place earlier;
    })

abbrev pub writing : (node number cell : ℕ) → Option Place → Option Value → Option Effect
writing node number cell (Some place) (Some value) =
    Some (record { node = node; number = number; cell = cell; wrote = true; place = place; value = value })
writing node number cell _ _ = None

-- the effect, unless its part has occurred with some value
abbrev pub unless_occurred : Option Value → Option Effect → Option Effect
unless_occurred None effect = effect
unless_occurred (Some value) effect = None

abbrev pub or_else : Option Effect → Option Effect → Option Effect
or_else None other = other
or_else (Some effect) other = Some effect

-- the part of the cell that comes next, after these effects: its reading part, and then its writing part
abbrev pub due : (start : Place → Value) → Transfer → (node number cell : ℕ) → List Effect → Option Effect
due start transfer node number cell earlier =
    or_else
    (unless_occurred (part_value node number cell false earlier)
    (reading start node number cell earlier (part_place transfer cell false)))
    (unless_occurred (part_value node number cell true earlier)
    (writing node number cell (part_place transfer cell true) (written transfer node number cell earlier)))

-- ---- what occurs with an entry

-- with the effect, if it is on the node
abbrev pub occurs_on : ℕ → Option Effect → List Effect → List Effect
occurs_on node None earlier = earlier
occurs_on node (Some effect) earlier = if effect.place.node == node then effect ∷ earlier else earlier

-- with the parts of the cell that occur with the issue: those on the issuer's node up to the first part that is not
abbrev pub cell_at_issue : (start : Place → Value) → Transfer → (node number cell : ℕ) →
    List Effect → List Effect
cell_at_issue start transfer node number cell earlier =
    let once : List Effect = occurs_on node (due start transfer node number cell earlier) earlier in
    occurs_on node (due start transfer node number cell once) once

-- the first cells, in cell order
abbrev pub at_issue : (start : Place → Value) → Transfer → (node number : ℕ) → (cells : ℕ) →
    List Effect → List Effect
at_issue start transfer node number zero earlier = earlier
at_issue start transfer node number (suc cell) earlier =
    cell_at_issue start transfer node number cell (at_issue start transfer node number cell earlier)

abbrev pub and_effect : Option Effect → List Effect → List Effect
and_effect None earlier = earlier
and_effect (Some effect) earlier = effect ∷ earlier

-- the part that a delivery for the cell of the access brings
abbrev pub at_delivery : (start : Place → Value) → Option Access → (node number cell : ℕ) →
    List Effect → Option Effect
at_delivery start None node number cell earlier = None
at_delivery start (Some access) node number cell earlier = due start (transfer_of access) node number cell earlier

-- all effects so far
abbrev pub effects : (start : Place → Value) → List Entry → List Effect
effects start [] = []
effects start (Issued node number access ∷ past) =
    at_issue start (transfer_of access) node number (transfer_of access).cells (effects start past)
effects start (Delivered node number cell value ∷ past) =
    and_effect (at_delivery start (access_at node number past) node number cell (effects start past))
    (effects start past)
effects start (_ ∷ past) = effects start past

-- ---- what a wait is answered

abbrev pub or_zero : Option Value → Value
or_zero None = Int (pos 0)
or_zero (Some value) = value

-- the values that the node's reads of these numbers have
abbrev pub values_of : (node : ℕ) → List Effect → List ℕ → List Value
values_of node earlier numbers = map (λ number. or_zero (part_value node number 0 false earlier)) numbers

-- the values that a wait of the node on the counter is answered
abbrev pub landed : (start : Place → Value) → (node counter : ℕ) → List Entry → List Value
landed start node counter past = values_of node (effects start past) (awaited node counter past)
