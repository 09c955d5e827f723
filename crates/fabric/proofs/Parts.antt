-- The parts of a cell: which comes next depends only on which of the two have occurred, and on what was read.
use Rattle.std.proofs.Common.{◌≡◌, ℕ, ◌≤◌, List, ◌∷◌, Option, Some, None, Bool, true, false, refl, sym, ap, ◌∙◌}
use Rattle.std.specs.Prelude.{is_some, IsSome}
use Rattle.std.proofs.lemmas.Bool.{le-ltb}
use Rattle.sc_base.specs.declared.value.Value.{Value}
use Rattle.sc_base.specs.declared.value.Place.{Place}
use Rattle.effect_order.specs.Effect.{Effect, held}
use Rattle.effect_order.specs.Transfer.{Transfer, part_place, part_value, is_part, or_read}
use Rattle.sc_isa.specs.declared.access.Track.{Track}
use Rattle.fabric.specs.Effects.{due, reading, writing, unless_occurred, or_else}
use Rattle.fabric.specs.Flight.{carried}

-- the effect is of no part of the cell
pub record IsOff (node number cell : ℕ) (e : Effect) : Type 0 where
  pub off : (wrote : Bool) → is_part node number cell wrote e ≡ false

pub value_off : (node number cell : ℕ) (wrote : Bool) (e : Effect) (earlier : List Effect) → IsOff node number cell e
    → part_value node number cell wrote (e ∷ earlier) ≡ part_value node number cell wrote earlier
value_off node number cell wrote e earlier o = rw (o.off wrote) refl

-- what a writing part writes, if its cell was read as this
abbrev pub written_with : Option Value → Option Value → Option Value
written_with (Some value) read = Some value
written_with None read = read

-- the part that comes next, by the two places, the transfer's value and the values of the two parts
abbrev pub due_with : (start : Place → Value) (node number cell : ℕ) → List Effect → (from to : Option Place) → (value read wrote : Option Value) → Option Effect
due_with start node number cell earlier from to value read wrote =
    or_else (unless_occurred read (reading start node number cell earlier from)) (unless_occurred wrote (writing node number cell to (written_with value read)))

pub written_is : (value : Option Value) (node number cell : ℕ) (earlier : List Effect)
    → or_read value node number cell earlier ≡ written_with value (part_value node number cell false earlier)
written_is (Some value) node number cell earlier = refl
written_is None node number cell earlier = refl

pub due_is : (start : Place → Value) (t : Transfer) (node number cell : ℕ) (earlier : List Effect)
    → due start t node number cell earlier
    ≡ due_with start node number cell earlier (part_place t cell false) (part_place t cell true) t.value
    (part_value node number cell false earlier) (part_value node number cell true earlier)
due_is start t node number cell earlier =
    ap (λ w. or_else (unless_occurred (part_value node number cell false earlier) (reading start node number cell earlier (part_place t cell false)))
    (unless_occurred (part_value node number cell true earlier) (writing node number cell (part_place t cell true) w)))
    (written_is t.value node number cell earlier)

-- ---- the effects so far matter by the cell's two parts alone

carried_with : (start : Place → Value) (t : Transfer) (node number cell : ℕ) (track : Track) (one other : List Effect) (from to : Option Place) (value read wrote : Option Value)
    → carried t node number cell track (due_with start node number cell one from to value read wrote)
    ≡ carried t node number cell track (due_with start node number cell other from to value read wrote)
carried_with start t node number cell track one other None to value None wrote = refl
carried_with start t node number cell track one other (Some from) to value None wrote = refl
carried_with start t node number cell track one other from to value (Some read) wrote = refl

open_with : (start : Place → Value) (node number cell : ℕ) (one other : List Effect) (from to : Option Place) (value read wrote : Option Value)
    → is_some (due_with start node number cell one from to value read wrote) ≡ is_some (due_with start node number cell other from to value read wrote)
open_with start node number cell one other None to value None wrote = refl
open_with start node number cell one other (Some from) to value None wrote = refl
open_with start node number cell one other from to value (Some read) wrote = refl

-- the two lists have the same parts of the cell
pub record SameParts (node number cell : ℕ) (one other : List Effect) : Type 0 where
  pub same : (wrote : Bool) → part_value node number cell wrote one ≡ part_value node number cell wrote other

pub off_same : (node number cell : ℕ) (e : Effect) (earlier : List Effect) → IsOff node number cell e → SameParts node number cell (e ∷ earlier) earlier
off_same node number cell e earlier o = record { same = λ wrote. value_off node number cell wrote e earlier o }

pub same_refl : (node number cell : ℕ) (earlier : List Effect) → SameParts node number cell earlier earlier
same_refl node number cell earlier = record { same = λ wrote. refl }

pub same_trans : (node number cell : ℕ) (one two three : List Effect) → SameParts node number cell one two → SameParts node number cell two three → SameParts node number cell one three
same_trans node number cell one two three a b = record { same = λ wrote. a.same wrote ∙ b.same wrote }

pub carried_same : (start : Place → Value) (t : Transfer) (node number cell : ℕ) (track : Track) (one other : List Effect) → SameParts node number cell one other
    → carried t node number cell track (due start t node number cell one) ≡ carried t node number cell track (due start t node number cell other)
carried_same start t node number cell track one other s =
    ap (carried t node number cell track) (due_is start t node number cell one)
    ∙ rw (s.same false, s.same true) (carried_with start t node number cell track one other (part_place t cell false) (part_place t cell true) t.value
    (part_value node number cell false other) (part_value node number cell true other))
    ∙ sym (ap (carried t node number cell track) (due_is start t node number cell other))

pub open_same : (start : Place → Value) (t : Transfer) (node number cell : ℕ) (one other : List Effect) → SameParts node number cell one other
    → is_some (due start t node number cell one) ≡ is_some (due start t node number cell other)
open_same start t node number cell one other s =
    ap is_some (due_is start t node number cell one)
    ∙ rw (s.same false, s.same true) (open_with start node number cell one other (part_place t cell false) (part_place t cell true) t.value
    (part_value node number cell false other) (part_value node number cell true other))
    ∙ sym (ap is_some (due_is start t node number cell other))

-- ---- whose part is due

-- the effect is of a part of the cell
pub record IsOf (node number cell : ℕ) (e : Effect) : Type 0 where
  pub its_node : e.node ≡ node
  pub its_number : e.number ≡ number
  pub its_cell : e.cell ≡ cell

-- what is due: a read, before which no part occurred; or a write, of what was read or of the transfer's value
pub data IsDue (start : Place → Value) (t : Transfer) (node number cell : ℕ) (earlier : List Effect) (e : Effect) : Type 0 where
  IsRead : (place : Place) → part_place t cell false ≡ Some place → part_value node number cell false earlier ≡ None
      → e ≡ record { node = node; number = number; cell = cell; wrote = false; place = place; value = held start place earlier }
      → IsDue start t node number cell earlier e
  IsWrite : (place : Place) (value : Value) → part_place t cell true ≡ Some place → part_value node number cell true earlier ≡ None
      → written_with t.value (part_value node number cell false earlier) ≡ Some value
      → (IsSome (part_place t cell false) → IsSome (part_value node number cell false earlier))
      → e ≡ record { node = node; number = number; cell = cell; wrote = true; place = place; value = value }
      → IsDue start t node number cell earlier e

write_due : (start : Place → Value) (t : Transfer) (node number cell : ℕ) (earlier : List Effect) (e : Effect) (to : Option Place) (what wrote : Option Value)
    → part_place t cell true ≡ to → part_value node number cell true earlier ≡ wrote → written_with t.value (part_value node number cell false earlier) ≡ what
    → (IsSome (part_place t cell false) → IsSome (part_value node number cell false earlier))
    → unless_occurred wrote (writing node number cell to what) ≡ Some e → IsDue start t node number cell earlier e
write_due start t node number cell earlier e (Some place) (Some value) None p w v first h = IsWrite place value p w v first (let s : record { node = node; number = number; cell = cell; wrote = true; place = place; value = value } ≡ e = cc in sym s)
write_due start t node number cell earlier e None what None p w v first h = cc
write_due start t node number cell earlier e (Some place) None None p w v first h = cc
write_due start t node number cell earlier e to what (Some value) p w v first h = cc

one_due : (start : Place → Value) (t : Transfer) (node number cell : ℕ) (earlier : List Effect) (e : Effect) (from : Option Place) (read : Option Value)
    → part_place t cell false ≡ from → part_value node number cell false earlier ≡ read
    → or_else (unless_occurred read (reading start node number cell earlier from))
    (unless_occurred (part_value node number cell true earlier) (writing node number cell (part_place t cell true) (written_with t.value (part_value node number cell false earlier)))) ≡ Some e
    → IsDue start t node number cell earlier e
one_due start t node number cell earlier e (Some place) None p r h =
    IsRead place p r (let s : record { node = node; number = number; cell = cell; wrote = false; place = place; value = held start place earlier } ≡ e = cc in sym s)
one_due start t node number cell earlier e None None p r h =
    write_due start t node number cell earlier e (part_place t cell true) (written_with t.value (part_value node number cell false earlier)) (part_value node number cell true earlier)
    refl refl refl (λ is. (let x : is_some {T = Place} None ≡ true = ap is_some (sym p) ∙ is in cc)) h
one_due start t node number cell earlier e from (Some value) p r h =
    write_due start t node number cell earlier e (part_place t cell true) (written_with t.value (part_value node number cell false earlier)) (part_value node number cell true earlier)
    refl refl refl (λ is. ap is_some r) h

pub is_due : (start : Place → Value) (t : Transfer) (node number cell : ℕ) (earlier : List Effect) (e : Effect) → due start t node number cell earlier ≡ Some e
    → IsDue start t node number cell earlier e
is_due start t node number cell earlier e h =
    one_due start t node number cell earlier e (part_place t cell false) (part_value node number cell false earlier) refl refl (sym (due_is start t node number cell earlier) ∙ h)

pub due_of : (start : Place → Value) (t : Transfer) (node number cell : ℕ) (earlier : List Effect) (e : Effect) → IsDue start t node number cell earlier e → IsOf node number cell e
due_of start t node number cell earlier e (IsRead place p r is) = record { its_node = ap (λ (x : Effect). x.node) is; its_number = ap (λ (x : Effect). x.number) is; its_cell = ap (λ (x : Effect). x.cell) is }
due_of start t node number cell earlier e (IsWrite place value p w v first is) = record { its_node = ap (λ (x : Effect). x.node) is; its_number = ap (λ (x : Effect). x.number) is; its_cell = ap (λ (x : Effect). x.cell) is }

-- no part stands past the last cell
pub place_past : (t : Transfer) (cell : ℕ) (wrote : Bool) → t.cells ≤ cell → part_place t cell wrote ≡ None
place_past t cell wrote h = rw (le-ltb cell t.cells h) refl

due_nowhere : (start : Place → Value) (node number cell : ℕ) (earlier : List Effect) (value read wrote : Option Value)
    → due_with start node number cell earlier None None value read wrote ≡ None
due_nowhere start node number cell earlier value None None = refl
due_nowhere start node number cell earlier value None (Some w) = refl
due_nowhere start node number cell earlier value (Some r) None = refl
due_nowhere start node number cell earlier value (Some r) (Some w) = refl

pub due_past : (start : Place → Value) (t : Transfer) (node number cell : ℕ) (earlier : List Effect) → t.cells ≤ cell → due start t node number cell earlier ≡ None
due_past start t node number cell earlier h =
    due_is start t node number cell earlier
    ∙ rw (place_past t cell false h, place_past t cell true h) (due_nowhere start node number cell earlier t.value (part_value node number cell false earlier) (part_value node number cell true earlier))
