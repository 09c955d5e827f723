-- How many cells are outstanding is how many messages are in flight.
use Rattle.std.proofs.Common.{◌≡◌, ℕ, zero, suc, ◌+◌, ◌<◌, List, [], ◌∷◌, ◌++◌, Option, Some, None, Bool, true, false, ◌&&◌, refl, sym, ap, ◌∙◌, subst, arith}
use Rattle.std.specs.Prelude.{if◌then◌else◌, is_some}
use Rattle.sc_base.specs.declared.value.Value.{Value}
use Rattle.sc_base.specs.declared.value.Place.{Place}
use Rattle.effect_order.specs.Effect.{Effect}
use Rattle.effect_order.specs.Transfer.{Transfer}
use Rattle.sc_isa.specs.declared.access.Access.{Access}
use Rattle.sc_isa.specs.declared.access.Track.{Track}
use Rattle.sc_isa.specs.declared.journal.Entry.{Entry}
use Rattle.sc_isa.specs.declared.journal.Entry.TheVariants.{Issued, Delivered, Waited, Arrived, Passed, Finished}
use Rattle.msg_pool.specs.declared.message.Message.{Message}
use Rattle.fabric.specs.Access.{transfer_of, track_of}
use Rattle.fabric.specs.Effects.{due, access_at, effects}
use Rattle.fabric.specs.Outstanding.{open_cells, open_in, outstanding}
use Rattle.fabric.specs.Flight.{one_if, flying_count, carried, sent, is_for, without, returned, in_flight}
use Rattle.fabric.specs.Wired.{Wired}
use Rattle.fabric.proofs.Deciding.{decide_on, decide_eq, decide_lt}
use Rattle.fabric.proofs.Parts.{SameParts, open_same, due_past}
use Rattle.fabric.proofs.Keys.{same_access, same_cell, access_apart, issue_same, due_same, accesses_are_one, same_access_self}
use Rattle.fabric.proofs.Flying.{next_is_free, only, cell_apart}
use Rattle.fabric.proofs.InFlight.{delivered_effects, back_is, expected, flying}

pub count_append : (of : ℕ → Bool) (on : Track → Bool) (xs ys : List Message) → flying_count of on (xs ++ ys) ≡ flying_count of on xs + flying_count of on ys
count_append of on [] ys = omega arith
count_append of on (m ∷ xs) ys = omega (arith, count_append of on xs ys)

-- those for a cell and the others are all
count_parted : (of : ℕ → Bool) (on : Track → Bool) (node number cell : ℕ) (ms : List Message)
    → flying_count of on ms ≡ flying_count of on (without node number cell ms) + flying_count of on (only node number cell ms)
count_parted of on node number cell [] = refl
count_parted of on node number cell (m ∷ ms) =
    decide_on (is_for node number cell m)
    (λ t. rw t (omega (arith, count_parted of on node number cell ms)))
    (λ f. rw f (omega (arith, count_parted of on node number cell ms)))

by_both : (b c : Bool) → (if b then one_if c else 0) + 0 ≡ (if b then one_if c else 0)
by_both b c = omega arith

count_carried : (of : ℕ → Bool) (on : Track → Bool) (t : Transfer) (node number cell : ℕ) (track : Track) (o : Option Effect)
    → flying_count of on (carried t node number cell track o) ≡ (if of node && on track then one_if (is_some o) else 0)
count_carried of on t node number cell track None = by_test (of node && on track)
  where
    by_test : (b : Bool) → zero ≡ (if b then zero else zero)
    by_test true = refl
    by_test false = refl
count_carried of on t node number cell track (Some e) = by_both (of node && on track) true

-- ---- an issue

count_sent : (of : ℕ → Bool) (on : Track → Bool) (start : Place → Value) (t : Transfer) (node number : ℕ) (track : Track) (later : List Effect) (cells : ℕ)
    → flying_count of on (sent start t node number track later cells) ≡ (if of node && on track then open_cells start t node number cells later else 0)
count_sent of on start t node number track later zero = by_test (of node && on track)
  where
    by_test : (b : Bool) → zero ≡ (if b then zero else zero)
    by_test true = refl
    by_test false = refl
count_sent of on start t node number track later (suc c) =
    count_append of on (sent start t node number track later c) (carried t node number c track (due start t node number c later))
    ∙ rw (count_sent of on start t node number track later c, count_carried of on t node number c track (due start t node number c later))
    (by_test (of node && on track))
  where
    by_test : (b : Bool) → (if b then open_cells start t node number c later else 0) + (if b then one_if (is_some (due start t node number c later)) else 0)
        ≡ (if b then open_cells start t node number c later + one_if (is_some (due start t node number c later)) else 0)
    by_test true = refl
    by_test false = refl

open_cells_same : (start : Place → Value) (t : Transfer) (node number : ℕ) (one other : List Effect) → ((cell : ℕ) → SameParts node number cell one other) → (cells : ℕ)
    → open_cells start t node number cells one ≡ open_cells start t node number cells other
open_cells_same start t node number one other s zero = refl
open_cells_same start t node number one other s (suc c) =
    rw (open_cells_same start t node number one other s c, open_same start t node number c one other (s c)) refl

-- each access of the past is another one
abbrev Others : (p n : ℕ) → List Entry → Type 0
Others p n [] = Unit {0}
Others p n (Issued q k a ∷ past) = (same_access p n q k ≡ false) × Others p n past
Others p n (_ ∷ past) = Others p n past

access_sym : (p n q k : ℕ) → same_access q k p n ≡ false → same_access p n q k ≡ false
access_sym p n q k h =
    decide_on (same_access p n q k)
    (λ t. let s = accesses_are_one p n q k t in
    let self : same_access q k p n ≡ true = subst (λ x. same_access x k p n ≡ true) s.0 (subst (λ y. same_access p y p n ≡ true) s.1 (same_access_self p n)) in
    cc)
    (λ f. f)

others_free : (p n : ℕ) (past : List Entry) → access_at p n past ≡ None → Others p n past
others_free p n [] h = tt
others_free p n (Issued q k a ∷ past) h =
    decide_on (same_access q k p n)
    (λ t. let x : Some a ≡ None = rw t at h in cc)
    (λ f. (access_sym p n q k f, others_free p n past (rw f at h)))
others_free p n (Delivered q k c v ∷ past) h = others_free p n past h
others_free p n (Waited q c ∷ past) h = others_free p n past h
others_free p n (Arrived q s ∷ past) h = others_free p n past h
others_free p n (Passed q ∷ past) h = others_free p n past h
others_free p n (Finished q e ∷ past) h = others_free p n past h

-- effects of an access leave what is open of others
open_in_same : (start : Place → Value) (of : ℕ → Bool) (on : Track → Bool) (p n : ℕ) (one other : List Effect)
    → ((q k cell : ℕ) → same_access p n q k ≡ false → SameParts q k cell one other)
    → (past : List Entry) → Others p n past → open_in start of on one past ≡ open_in start of on other past
open_in_same start of on p n one other s [] o = refl
open_in_same start of on p n one other s (Issued q k a ∷ past) o =
    rw (
      open_in_same start of on p n one other s past o.1,
      open_cells_same start (transfer_of a) q k one other (λ cell. s q k cell o.0) (transfer_of a).cells,
    ) refl
open_in_same start of on p n one other s (Delivered q k c v ∷ past) o = open_in_same start of on p n one other s past o
open_in_same start of on p n one other s (Waited q c ∷ past) o = open_in_same start of on p n one other s past o
open_in_same start of on p n one other s (Arrived q x ∷ past) o = open_in_same start of on p n one other s past o
open_in_same start of on p n one other s (Passed q ∷ past) o = open_in_same start of on p n one other s past o
open_in_same start of on p n one other s (Finished q e ∷ past) o = open_in_same start of on p n one other s past o

-- ---- a delivery

-- the cell's part in what is open changes, and nothing else of the access
open_cells_moved : (start : Place → Value) (t : Transfer) (p n c : ℕ) (one other : List Effect)
    → ((cell : ℕ) → same_cell p n c p n cell ≡ false → SameParts p n cell one other) → (cells : ℕ) → c < cells
    → open_cells start t p n cells one + one_if (is_some (due start t p n c other)) ≡ open_cells start t p n cells other + one_if (is_some (due start t p n c one))
open_cells_moved start t p n c one other s zero h = absurd (omega arith)
open_cells_moved start t p n c one other s (suc cell) h =
    decide_eq c cell
    (λ same. subst (λ x. open_cells start t p n x one + one_if (is_some (due start t p n x one)) + one_if (is_some (due start t p n c other))
    ≡ open_cells start t p n x other + one_if (is_some (due start t p n x other)) + one_if (is_some (due start t p n c one))) same
    (omega (arith, open_before c (λ x below. s x (cell_apart p n c x (λ e. absurd (omega arith)))))))
    (λ differ. let ih : open_cells start t p n cell one + one_if (is_some (due start t p n c other)) ≡ open_cells start t p n cell other + one_if (is_some (due start t p n c one)) =
    open_cells_moved start t p n c one other s cell (below c cell differ h) in
    let own : is_some (due start t p n cell one) ≡ is_some (due start t p n cell other) = open_same start t p n cell one other (s cell (cell_apart p n c cell differ)) in
    rw own (omega (arith, ih)))
  where
    below : (c cell : ℕ) → (c ≡ cell → ⊥) → c < suc cell → c < cell
    below c cell ne h = omega arith

    open_before : (cells : ℕ) → ((x : ℕ) → x < cells → SameParts p n x one other) → open_cells start t p n cells one ≡ open_cells start t p n cells other
    open_before zero f = refl
    open_before (suc k) f = rw (open_before k (λ x below. f x (omega arith)), open_same start t p n k one other (f k (omega arith))) refl

-- the access's cell c has its part in what is open, and all else stays
open_in_moved : (start : Place → Value) (nodes : ℕ) (of : ℕ → Bool) (on : Track → Bool) (p n c : ℕ) (a : Access) (one other : List Effect)
    → ((q k cell : ℕ) → same_cell p n c q k cell ≡ false → SameParts q k cell one other)
    → c < (transfer_of a).cells
    → (past : List Entry) → Wired start nodes past → access_at p n past ≡ Some a
    → open_in start of on one past + flying_count of on (carried (transfer_of a) p n c (track_of a) (due start (transfer_of a) p n c other))
    ≡ open_in start of on other past + flying_count of on (carried (transfer_of a) p n c (track_of a) (due start (transfer_of a) p n c one))
open_in_moved start nodes of on p n c a one other s within [] w h = cc
open_in_moved start nodes of on p n c a one other s within (Issued q k x ∷ past) w h =
    rw (count_carried of on (transfer_of a) p n c (track_of a) (due start (transfer_of a) p n c other), count_carried of on (transfer_of a) p n c (track_of a) (due start (transfer_of a) p n c one))
    (decide_on (same_access q k p n)
    (λ t. let z = accesses_are_one q k p n t in
    let y : Some x ≡ Some a = rw t at h in
    let is : x ≡ a = cc in
    let free : access_at q k past ≡ None = next_is_free start nodes past w.1 q k w.0.numbered in
    let left : open_in start of on one past ≡ open_in start of on other past =
    open_in_same start of on p n one other (λ r m cell apart. s r m cell (access_apart p n c r m cell apart)) past
    (subst (λ m. Others p m past) z.1 (subst (λ r. Others r k past) z.0 (others_free q k past free))) in
    let moved = open_cells_moved start (transfer_of a) p n c one other (λ cell. s p n cell) (transfer_of a).cells within in
    let of_issue : (if of q && on (track_of x) then open_in start of on other past + open_cells start (transfer_of x) q k (transfer_of x).cells one else open_in start of on other past)
    ≡ (if of p && on (track_of a) then open_in start of on other past + open_cells start (transfer_of a) p n (transfer_of a).cells one else open_in start of on other past) =
    ap (λ r. if of r && on (track_of x) then open_in start of on other past + open_cells start (transfer_of x) r k (transfer_of x).cells one else open_in start of on other past) z.0
    ∙ ap (λ m. if of p && on (track_of x) then open_in start of on other past + open_cells start (transfer_of x) p m (transfer_of x).cells one else open_in start of on other past) z.1
    ∙ ap (λ b. if of p && on (track_of b) then open_in start of on other past + open_cells start (transfer_of b) p n (transfer_of b).cells one else open_in start of on other past) is in
    let of_issue_other : (if of q && on (track_of x) then open_in start of on other past + open_cells start (transfer_of x) q k (transfer_of x).cells other else open_in start of on other past)
    ≡ (if of p && on (track_of a) then open_in start of on other past + open_cells start (transfer_of a) p n (transfer_of a).cells other else open_in start of on other past) =
    ap (λ r. if of r && on (track_of x) then open_in start of on other past + open_cells start (transfer_of x) r k (transfer_of x).cells other else open_in start of on other past) z.0
    ∙ ap (λ m. if of p && on (track_of x) then open_in start of on other past + open_cells start (transfer_of x) p m (transfer_of x).cells other else open_in start of on other past) z.1
    ∙ ap (λ b. if of p && on (track_of b) then open_in start of on other past + open_cells start (transfer_of b) p n (transfer_of b).cells other else open_in start of on other past) is in
    rw (left, of_issue, of_issue_other)
    (on_track (of p && on (track_of a)) (open_in start of on other past) (open_cells start (transfer_of a) p n (transfer_of a).cells one) (open_cells start (transfer_of a) p n (transfer_of a).cells other)
    (one_if (is_some (due start (transfer_of a) p n c one))) (one_if (is_some (due start (transfer_of a) p n c other))) moved))
    (λ f. let ih : open_in start of on one past + (if of p && on (track_of a) then one_if (is_some (due start (transfer_of a) p n c other)) else 0)
    ≡ open_in start of on other past + (if of p && on (track_of a) then one_if (is_some (due start (transfer_of a) p n c one)) else 0) =
    rw (count_carried of on (transfer_of a) p n c (track_of a) (due start (transfer_of a) p n c other), count_carried of on (transfer_of a) p n c (track_of a) (due start (transfer_of a) p n c one))
    at (open_in_moved start nodes of on p n c a one other s within past w.1 (rw f at h)) in
    let kept = open_cells_same start (transfer_of x) q k one other (λ cell. s q k cell (access_apart p n c q k cell (access_sym p n q k f))) (transfer_of x).cells in
    rw kept (aside (of q && on (track_of x)) (open_in start of on one past) (open_in start of on other past) (open_cells start (transfer_of x) q k (transfer_of x).cells other)
    (if of p && on (track_of a) then one_if (is_some (due start (transfer_of a) p n c one)) else 0) (if of p && on (track_of a) then one_if (is_some (due start (transfer_of a) p n c other)) else 0) ih)))
  where
    on_track : (b : Bool) (rest cells_one cells_other d_one d_other : ℕ) → cells_one + d_other ≡ cells_other + d_one
        → (if b then rest + cells_one else rest) + (if b then d_other else 0) ≡ (if b then rest + cells_other else rest) + (if b then d_one else 0)
    on_track true rest cells_one cells_other d_one d_other e = omega (arith, e)
    on_track false rest cells_one cells_other d_one d_other e = refl

    aside : (b : Bool) (rest_one rest_other cells x_one x_other : ℕ) → rest_one + x_other ≡ rest_other + x_one
        → (if b then rest_one + cells else rest_one) + x_other ≡ (if b then rest_other + cells else rest_other) + x_one
    aside true rest_one rest_other cells x_one x_other e = omega (arith, e)
    aside false rest_one rest_other cells x_one x_other e = e
open_in_moved start nodes of on p n c a one other s within (Delivered q k d v ∷ past) w h = open_in_moved start nodes of on p n c a one other s within past w.1 h
open_in_moved start nodes of on p n c a one other s within (Waited q d ∷ past) w h = open_in_moved start nodes of on p n c a one other s within past w.1 h
open_in_moved start nodes of on p n c a one other s within (Arrived q x ∷ past) w h = open_in_moved start nodes of on p n c a one other s within past w.1 h
open_in_moved start nodes of on p n c a one other s within (Passed q ∷ past) w h = open_in_moved start nodes of on p n c a one other s within past w.1 h
open_in_moved start nodes of on p n c a one other s within (Finished q e ∷ past) w h = open_in_moved start nodes of on p n c a one other s within past w.1 h

-- what is due stands below the last cell
due_below : (start : Place → Value) (t : Transfer) (p n c : ℕ) (earlier : List Effect) (e : Effect) → due start t p n c earlier ≡ Some e → c < t.cells
due_below start t p n c earlier e d =
    decide_lt c t.cells (λ lt. lt) (λ ge. absurd (let x : None ≡ Some e = sym (due_past start t p n c earlier ge) ∙ d in cc))

-- the cells that are outstanding are as many as the messages in flight
pub outstanding_flies : (start : Place → Value) (nodes : ℕ) (of : ℕ → Bool) (on : Track → Bool) (past : List Entry) → Wired start nodes past
    → outstanding start of on past ≡ flying_count of on (in_flight start past)
outstanding_flies start nodes of on [] h = refl
outstanding_flies start nodes of on (Issued p n a ∷ past) h =
    let later : List Effect = effects start (Issued p n a ∷ past) in
    let free : access_at p n past ≡ None = next_is_free start nodes past h.1 p n h.0.numbered in
    let kept : open_in start of on later past ≡ open_in start of on (effects start past) past =
    open_in_same start of on p n later (effects start past)
    (λ q k cell apart. issue_same start (transfer_of a) p n q k cell apart (transfer_of a).cells (effects start past)) past (others_free p n past free) in
    rw (
      kept,
      outstanding_flies start nodes of on past h.1,
      count_append of on (in_flight start past) (sent start (transfer_of a) p n (track_of a) later (transfer_of a).cells),
      count_sent of on start (transfer_of a) p n (track_of a) later (transfer_of a).cells,
    )
    (with_new (of p && on (track_of a)) (flying_count of on (in_flight start past)) (open_cells start (transfer_of a) p n (transfer_of a).cells later))
  where
    with_new : (b : Bool) (x y : ℕ) → (if b then x + y else x) ≡ x + (if b then y else 0)
    with_new true x y = refl
    with_new false x y = omega arith
outstanding_flies start nodes of on (Delivered p n c v ∷ past) h =
    let a : Access = h.0.access in
    let e : Effect = h.0.part in
    let now : List Effect = e ∷ effects start past in
    let track : Track = track_of a in
    let moved = open_in_moved start nodes of on p n c a now (effects start past)
    (λ q k cell apart. due_same start (transfer_of a) p n c q k cell (effects start past) e h.0.is_due apart)
    (due_below start (transfer_of a) p n c (effects start past) e h.0.is_due) past h.1 h.0.issued in
    let ih : open_in start of on (effects start past) past ≡ flying_count of on (in_flight start past) = outstanding_flies start nodes of on past h.1 in
    let own : only p n c (in_flight start past) ≡ carried (transfer_of a) p n c track (due start (transfer_of a) p n c (effects start past)) =
    flying start nodes past h.1 p n c ∙ ap (λ o. expected start o p n c (effects start past)) h.0.issued in
    let parted : flying_count of on (in_flight start past) ≡ flying_count of on (without p n c (in_flight start past)) + flying_count of on (carried (transfer_of a) p n c track (due start (transfer_of a) p n c (effects start past))) =
    count_parted of on p n c (in_flight start past) ∙ ap (λ l. flying_count of on (without p n c (in_flight start past)) + flying_count of on l) own in
    let back : flying_count of on (returned p n c v (in_flight start past)) ≡ flying_count of on (carried (transfer_of a) p n c track (due start (transfer_of a) p n c now)) =
    ap (flying_count of on) (back_is start nodes past p n c v h.1 h.0 (flying start nodes past h.1 p n c)) in
    let joined = count_append of on (without p n c (in_flight start past)) (returned p n c v (in_flight start past)) in
    let as_now : open_in start of on (effects start (Delivered p n c v ∷ past)) past ≡ open_in start of on now past =
    ap (λ l. open_in start of on l past) (delivered_effects start nodes past p n c v h.0) in
    as_now ∙ omega (arith, moved, ih, parted, joined, back)
outstanding_flies start nodes of on (Waited q c ∷ past) h = outstanding_flies start nodes of on past h.1
outstanding_flies start nodes of on (Arrived q s ∷ past) h = outstanding_flies start nodes of on past h.1
outstanding_flies start nodes of on (Passed q ∷ past) h = outstanding_flies start nodes of on past h.1
outstanding_flies start nodes of on (Finished q e ∷ past) h = outstanding_flies start nodes of on past h.1
