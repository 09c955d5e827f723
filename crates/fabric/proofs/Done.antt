-- No cell of a node's accesses is outstanding exactly where all their parts have occurred.
use Rattle.std.proofs.Common.{◌≡◌, ◌⊎◌, inl, inr, ⊎_elim, ℕ, zero, suc, ◌+◌, ◌<◌, List, [], ◌∷◌, Option, Some, None, Bool, true, false, ◌&&◌, ◌==◌, refl, sym, ap, ◌∙◌, subst, arith}
use Rattle.std.specs.Prelude.{if◌then◌else◌, is_some, IsSome, nat_lt}
use Rattle.std.proofs.lemmas.Bool.{eq-eqb, eqb-true, and_parts, and_from}
use Rattle.sc_base.specs.declared.value.Value.{Value}
use Rattle.sc_base.specs.declared.value.Place.{Place}
use Rattle.effect_order.specs.Effect.{Effect}
use Rattle.effect_order.specs.Transfer.{Transfer, part_place, part_value, AllOccurred, further}
use Rattle.sc_isa.specs.declared.access.Access.{Access}
use Rattle.sc_isa.specs.declared.access.Access.TheVariants.{Read, Write, Copy}
use Rattle.sc_isa.specs.declared.access.Track.{Track}
use Rattle.sc_isa.specs.declared.journal.Entry.{Entry}
use Rattle.sc_isa.specs.declared.journal.Entry.TheVariants.{Issued, Delivered, Waited, Arrived, Passed, Finished}
use Rattle.fabric.specs.Access.{transfer_of, track_of}
use Rattle.fabric.specs.Effects.{due, access_at, issues, effects}
use Rattle.fabric.specs.Outstanding.{open_cells, open_in, outstanding}
use Rattle.fabric.specs.Wired.{Wired, AllDone}
use Rattle.fabric.proofs.Deciding.{decide_on, decide_eq, decide_lt}
use Rattle.fabric.proofs.Parts.{due_is, due_with, place_past}
use Rattle.fabric.proofs.Keys.{same_access, accesses_are_one, same_access_self}
use Rattle.fabric.proofs.Flying.{issued_below}
use Rattle.fabric.specs.Flight.{one_if}

-- ---- a cell

-- a writing part of the cell has the transfer's value, or is of what a reading part reads
pub record Sourced (t : Transfer) (cell : ℕ) : Type 0 where
  pub source : IsSome (part_place t cell true) → IsSome t.value ⊎ IsSome (part_place t cell false)

no_place : (b : Bool) → is_some {T = Place} (if b then None else None) ≡ true → ⊥
no_place true h = cc
no_place false h = cc

either_place : (b : Bool) (p q : Place) → is_some (if b then Some p else None) ≡ true → is_some (if b then Some q else None) ≡ true
either_place true p q h = refl
either_place false p q h = cc

sourced : (a : Access) (cell : ℕ) → Sourced (transfer_of a) cell
sourced (Read place track) cell = record { source = λ h. absurd (no_place (nat_lt cell 1) h) }
sourced (Write place value track) cell = record { source = λ h. inl refl }
sourced (Copy from to cells track) cell = record { source = λ h. inr (either_place (nat_lt cell cells) (further cell to) (further cell from) h) }

-- both parts of the cell, where it has them, have occurred
pub record CellDone (t : Transfer) (node number cell : ℕ) (earlier : List Effect) : Type 0 where
  pub done : (wrote : Bool) → IsSome (part_place t cell wrote) → IsSome (part_value node number cell wrote earlier)

none_left : (start : Place → Value) (node number cell : ℕ) (earlier : List Effect) (from to : Option Place) (value read wrote : Option Value)
    → (IsSome to → IsSome value ⊎ IsSome from) → due_with start node number cell earlier from to value read wrote ≡ None
    → (IsSome from → IsSome read) × (IsSome to → IsSome wrote)
none_left start node number cell earlier (Some p) to value None wrote s h = cc
none_left start node number cell earlier from None value read wrote s h = (λ has. has_read from read has h, λ has. (let x : is_some {T = Place} None ≡ true = has in cc))
  where
    has_read : (from : Option Place) (read : Option Value) → IsSome from → due_with start node number cell earlier from None value read wrote ≡ None → IsSome read
    has_read None read has h = cc
    has_read (Some p) None has h = cc
    has_read (Some p) (Some r) has h = refl
none_left start node number cell earlier from (Some q) value read (Some w) s h = (λ has. has_read from read has h, λ has. refl)
  where
    has_read : (from : Option Place) (read : Option Value) → IsSome from → due_with start node number cell earlier from (Some q) value read (Some w) ≡ None → IsSome read
    has_read None read has h = cc
    has_read (Some p) None has h = cc
    has_read (Some p) (Some r) has h = refl
none_left start node number cell earlier None (Some q) (Some v) None None s h = cc
none_left start node number cell earlier None (Some q) (Some v) (Some r) None s h = cc
none_left start node number cell earlier (Some p) (Some q) (Some v) (Some r) None s h = cc
none_left start node number cell earlier (Some p) (Some q) None (Some r) None s h = cc
none_left start node number cell earlier None (Some q) None (Some r) None s h = cc
none_left start node number cell earlier None (Some q) None None None s h =
    absurd (⊎_elim (λ x. (let y : is_some {T = Value} None ≡ true = x in cc)) (λ x. (let y : is_some {T = Place} None ≡ true = x in cc)) (s refl))

all_there : (start : Place → Value) (node number cell : ℕ) (earlier : List Effect) (from to : Option Place) (value read wrote : Option Value)
    → (IsSome from → IsSome read) → (IsSome to → IsSome wrote) → due_with start node number cell earlier from to value read wrote ≡ None
all_there start node number cell earlier (Some p) to value None wrote a b = let x : is_some {T = Value} None ≡ true = a refl in cc
all_there start node number cell earlier None (Some q) value None None a b = let x : is_some {T = Value} None ≡ true = b refl in cc
all_there start node number cell earlier None (Some q) value None (Some w) a b = refl
all_there start node number cell earlier None None value None None a b = refl
all_there start node number cell earlier None None value None (Some w) a b = refl
all_there start node number cell earlier from (Some q) value (Some r) None a b = let x : is_some {T = Value} None ≡ true = b refl in cc
all_there start node number cell earlier from (Some q) value (Some r) (Some w) a b = refl
all_there start node number cell earlier from None value (Some r) None a b = refl
all_there start node number cell earlier from None value (Some r) (Some w) a b = refl

cell_done : (start : Place → Value) (a : Access) (node number cell : ℕ) (earlier : List Effect) → due start (transfer_of a) node number cell earlier ≡ None
    → CellDone (transfer_of a) node number cell earlier
cell_done start a node number cell earlier h =
    let t : Transfer = transfer_of a in
    let both = none_left start node number cell earlier (part_place t cell false) (part_place t cell true) t.value (part_value node number cell false earlier) (part_value node number cell true earlier)
    (sourced a cell).source (sym (due_is start t node number cell earlier) ∙ h) in
    record { done = λ wrote. by_part both wrote }
  where
    by_part : (IsSome (part_place (transfer_of a) cell false) → IsSome (part_value node number cell false earlier))
        × (IsSome (part_place (transfer_of a) cell true) → IsSome (part_value node number cell true earlier))
        → (wrote : Bool) → IsSome (part_place (transfer_of a) cell wrote) → IsSome (part_value node number cell wrote earlier)
    by_part both true = both.1
    by_part both false = both.0

done_cell : (start : Place → Value) (t : Transfer) (node number cell : ℕ) (earlier : List Effect) → CellDone t node number cell earlier → due start t node number cell earlier ≡ None
done_cell start t node number cell earlier d =
    due_is start t node number cell earlier
    ∙ all_there start node number cell earlier (part_place t cell false) (part_place t cell true) t.value (part_value node number cell false earlier) (part_value node number cell true earlier) (d.done false) (d.done true)

-- ---- an access

none_due : (o : Option Effect) → one_if (is_some o) ≡ 0 → o ≡ None
none_due None h = refl
none_due (Some e) h = absurd (omega arith)

cells_closed : (start : Place → Value) (t : Transfer) (node number : ℕ) (earlier : List Effect) (cells : ℕ) → open_cells start t node number cells earlier ≡ 0
    → (cell : ℕ) → cell < cells → due start t node number cell earlier ≡ None
cells_closed start t node number earlier zero h cell below = absurd (omega arith)
cells_closed start t node number earlier (suc c) h cell below =
    decide_eq cell c
    (λ same. subst (λ x. due start t node number x earlier ≡ None) (sym same)
    (none_due (due start t node number c earlier) (omega arith)))
    (λ differ. cells_closed start t node number earlier c (omega arith) cell (omega arith))

closed_cells : (start : Place → Value) (t : Transfer) (node number : ℕ) (earlier : List Effect) (cells : ℕ)
    → ((cell : ℕ) → cell < cells → due start t node number cell earlier ≡ None) → open_cells start t node number cells earlier ≡ 0
closed_cells start t node number earlier zero f = refl
closed_cells start t node number earlier (suc c) f =
    rw (closed_cells start t node number earlier c (λ cell below. f cell (omega arith)), f c (omega arith)) refl

all_of_closed : (start : Place → Value) (a : Access) (node number : ℕ) (earlier : List Effect)
    → open_cells start (transfer_of a) node number (transfer_of a).cells earlier ≡ 0 → AllOccurred (transfer_of a) node number earlier
all_of_closed start a node number earlier h = λ cell wrote has.
    decide_lt cell (transfer_of a).cells
    (λ below. (cell_done start a node number cell earlier (cells_closed start (transfer_of a) node number earlier (transfer_of a).cells h cell below)).done wrote has)
    (λ past. absurd (let x : is_some {T = Place} None ≡ true = sym (ap is_some (place_past (transfer_of a) cell wrote past)) ∙ has in cc))

closed_of_all : (start : Place → Value) (a : Access) (node number : ℕ) (earlier : List Effect)
    → AllOccurred (transfer_of a) node number earlier → open_cells start (transfer_of a) node number (transfer_of a).cells earlier ≡ 0
closed_of_all start a node number earlier all =
    closed_cells start (transfer_of a) node number earlier (transfer_of a).cells
    (λ cell below. done_cell start (transfer_of a) node number cell earlier (record { done = λ wrote. all cell wrote }))

-- ---- all accesses of a node

no_rest : (b : Bool) (rest cells : ℕ) → (if b then rest + cells else rest) ≡ 0 → rest ≡ 0
no_rest true rest cells h = omega arith
no_rest false rest cells h = h

one_closed : (start : Place → Value) (on : Track → Bool) (node number : ℕ) (a : Access) (earlier : List Effect) (past : List Entry)
    → open_in start (λ other. other == node) on earlier past ≡ 0 → access_at node number past ≡ Some a → on (track_of a) ≡ true
    → open_cells start (transfer_of a) node number (transfer_of a).cells earlier ≡ 0
one_closed start on node number a earlier [] h at o = cc
one_closed start on node number a earlier (Issued q k x ∷ past) h at o =
    decide_on (same_access q k node number)
    (λ t. let z = accesses_are_one q k node number t in
    let y : Some x ≡ Some a = rw t at at in
    let is : x ≡ a = cc in
    let tests : ((q == node) && on (track_of x)) ≡ true = and_from _ _ (eq-eqb q node z.0) (ap (λ b. on (track_of b)) is ∙ o) in
    let sum : open_in start (λ other. other == node) on earlier past + open_cells start (transfer_of x) q k (transfer_of x).cells earlier ≡ 0 = rw tests at h in
    let own : open_cells start (transfer_of x) q k (transfer_of x).cells earlier ≡ 0 = omega (arith, sum) in
    subst (λ b. open_cells start (transfer_of b) node number (transfer_of b).cells earlier ≡ 0) is
    (subst (λ m. open_cells start (transfer_of x) node m (transfer_of x).cells earlier ≡ 0) z.1
    (subst (λ r. open_cells start (transfer_of x) r k (transfer_of x).cells earlier ≡ 0) z.0 own)))
    (λ f. one_closed start on node number a earlier past
    (no_rest ((q == node) && on (track_of x)) (open_in start (λ other. other == node) on earlier past) (open_cells start (transfer_of x) q k (transfer_of x).cells earlier) h)
    (rw f at at) o)
one_closed start on node number a earlier (Delivered q k c v ∷ past) h at o = one_closed start on node number a earlier past h at o
one_closed start on node number a earlier (Waited q c ∷ past) h at o = one_closed start on node number a earlier past h at o
one_closed start on node number a earlier (Arrived q s ∷ past) h at o = one_closed start on node number a earlier past h at o
one_closed start on node number a earlier (Passed q ∷ past) h at o = one_closed start on node number a earlier past h at o
one_closed start on node number a earlier (Finished q e ∷ past) h at o = one_closed start on node number a earlier past h at o

-- each access of the node on these tracks is closed
pub record AllClosed (start : Place → Value) (on : Track → Bool) (node : ℕ) (earlier : List Effect) (past : List Entry) : Type 0 where
  pub closed : (number : ℕ) (a : Access) → access_at node number past ≡ Some a → on (track_of a) ≡ true
      → open_cells start (transfer_of a) node number (transfer_of a).cells earlier ≡ 0

still_at : (q k : ℕ) (x : Access) (node number : ℕ) (a : Access) (past : List Entry) → (same_access q k node number ≡ true → ⊥) → access_at node number past ≡ Some a
    → access_at node number (Issued q k x ∷ past) ≡ Some a
still_at q k x node number a past differ at =
    decide_on (same_access q k node number) (λ t. absurd (differ t)) (λ f. rw f at)

none_open : (start : Place → Value) (nodes : ℕ) (on : Track → Bool) (node : ℕ) (earlier : List Effect) (past : List Entry) → Wired start nodes past
    → AllClosed start on node earlier past → open_in start (λ other. other == node) on earlier past ≡ 0
none_open start nodes on node earlier [] w all = refl
none_open start nodes on node earlier (Issued q k x ∷ past) w all =
    let rest : open_in start (λ other. other == node) on earlier past ≡ 0 =
    none_open start nodes on node earlier past w.1
    (record {
      closed = λ number a at. all.closed number a (still_at q k x node number a past
          (λ t. let z = accesses_are_one q k node number t in
          let below : number < issues node past = issued_below start nodes past w.1 node number a at in
          let numbered : k ≡ issues node past = subst (λ r. k ≡ issues r past) z.0 w.0.numbered in
          let same : k ≡ number = z.1 in
          absurd (omega arith)) at);
    }) in
    decide_on ((q == node) && on (track_of x))
    (λ t. let two = and_parts (q == node) (on (track_of x)) t in
    let is : q ≡ node = eqb-true q node two.0 in
    let there : access_at q k (Issued q k x ∷ past) ≡ Some x = rw (same_access_self q k) refl in
    let own : open_cells start (transfer_of x) node k (transfer_of x).cells earlier ≡ 0 =
    all.closed k x (subst (λ r. access_at r k (Issued q k x ∷ past) ≡ Some x) is there) two.1 in
    let own_q : open_cells start (transfer_of x) q k (transfer_of x).cells earlier ≡ 0 = subst (λ r. open_cells start (transfer_of x) r k (transfer_of x).cells earlier ≡ 0) (sym is) own in
    rw (t, rest, own_q) refl)
    (λ f. rw f rest)
none_open start nodes on node earlier (Delivered q k c v ∷ past) w all = none_open start nodes on node earlier past w.1 (record { closed = all.closed })
none_open start nodes on node earlier (Waited q c ∷ past) w all = none_open start nodes on node earlier past w.1 (record { closed = all.closed })
none_open start nodes on node earlier (Arrived q s ∷ past) w all = none_open start nodes on node earlier past w.1 (record { closed = all.closed })
none_open start nodes on node earlier (Passed q ∷ past) w all = none_open start nodes on node earlier past w.1 (record { closed = all.closed })
none_open start nodes on node earlier (Finished q e ∷ past) w all = none_open start nodes on node earlier past w.1 (record { closed = all.closed })

pub all_done : (start : Place → Value) (on : Track → Bool) (node : ℕ) (past : List Entry) → outstanding start (λ other. other == node) on past ≡ 0 → AllDone start past on node
all_done start on node past h = λ number a at o. all_of_closed start a node number (effects start past) (one_closed start on node number a (effects start past) past h at o)

pub done_all : (start : Place → Value) (nodes : ℕ) (on : Track → Bool) (node : ℕ) (past : List Entry) → Wired start nodes past → AllDone start past on node
    → outstanding start (λ other. other == node) on past ≡ 0
done_all start nodes on node past w all =
    none_open start nodes on node (effects start past) past w
    (record { closed = λ number a at o. closed_of_all start a node number (effects start past) (all number a at o) })
