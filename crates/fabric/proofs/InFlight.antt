-- In a journal that the fabric keeps, each cell has in flight just the message of the part that is due.
use Rattle.std.proofs.Common.{◌≡◌, ℕ, List, [], ◌∷◌, ◌++◌, Option, Some, None, Bool, true, false, refl, sym, ap, ◌∙◌, subst}
use Rattle.std.specs.Prelude.{if◌then◌else◌, is_some, IsSome, nat_lt}
use Rattle.fabric.proofs.Deciding.{decide_on, decide_eq}
use Rattle.sc_base.specs.declared.value.Value.{Value}
use Rattle.sc_base.specs.declared.value.Place.{Place}
use Rattle.effect_order.specs.Effect.{Effect}
use Rattle.effect_order.specs.Transfer.{Transfer, part_place, part_value}
use Rattle.sc_isa.specs.declared.access.Access.{Access}
use Rattle.sc_isa.specs.declared.access.Access.TheVariants.{Read, Write, Copy}
use Rattle.sc_isa.specs.declared.access.Track.{Track}
use Rattle.sc_isa.specs.declared.journal.Entry.{Entry}
use Rattle.sc_isa.specs.declared.journal.Entry.TheVariants.{Issued, Delivered, Waited, Arrived, Passed, Finished}
use Rattle.msg_pool.specs.declared.message.Message.{Message}
use Rattle.msg_pool.specs.declared.message.Part.TheVariants as part
use Rattle.fabric.specs.Access.{transfer_of, track_of}
use Rattle.fabric.specs.Effects.{due, access_at, effects}
use Rattle.fabric.specs.Flight.{message, part_of, carried, sent, without, back_from, returned, in_flight}
use Rattle.fabric.specs.Wired.{Wired, DeliveryWired}
use Rattle.fabric.proofs.Parts.{IsDue, IsRead, IsWrite, SameParts, carried_same, is_due, due_is, due_of, due_with}
use Rattle.fabric.proofs.Keys.{same_access, same_cell, access_apart, issue_same, due_same, cells_are_one, accesses_are_one, value_of, value_kept, issue_keeps}
use Rattle.fabric.proofs.Flying.{next_is_free, only, only_append, only_without_same, only_without_other, first_back, returned_is, sent_apart, sent_all, cell_apart, carried_one, carried_apart}

-- ---- reads come first

-- where the cell has a reading part, it occurred if the writing one did
pub record ReadFirst (t : Transfer) (node number cell : ℕ) (earlier : List Effect) : Type 0 where
  pub first : IsSome (part_place t cell false) → IsSome (part_value node number cell true earlier) → IsSome (part_value node number cell false earlier)

first_same : (t : Transfer) (node number cell : ℕ) (one other : List Effect) → SameParts node number cell one other → ReadFirst t node number cell other → ReadFirst t node number cell one
first_same t node number cell one other s r = record { first = λ has wrote. ap is_some (s.same false) ∙ r.first has (sym (ap is_some (s.same true)) ∙ wrote) }

first_due : (start : Place → Value) (t : Transfer) (node number cell : ℕ) (earlier : List Effect) (e : Effect) → ReadFirst t node number cell earlier
    → IsDue start t node number cell earlier e → ReadFirst t node number cell (e ∷ earlier)
first_due start t node number cell earlier e r (IsRead place p none is) =
    let of = due_of start t node number cell earlier e (IsRead place p none is) in
    record { first = λ has wrote. ap is_some (value_of node number cell false e earlier of (ap (λ (x : Effect). x.wrote) is)) }
first_due start t node number cell earlier e r (IsWrite place value p none w first is) =
    record { first = λ has wrote. ap is_some (value_kept node number cell false e earlier (rw (ap (λ (x : Effect). x.wrote) is) refl)) ∙ first has }

pub first_kept : (start : Place → Value) (t : Transfer) (node number cell c : ℕ) (earlier : List Effect) (e : Effect) → ReadFirst t node number cell earlier
    → due start t node number c earlier ≡ Some e → ReadFirst t node number cell (e ∷ earlier)
first_kept start t node number cell c earlier e r d =
    decide_eq c cell (λ same. first_due start t node number cell earlier e r (is_due start t node number cell earlier e (subst (λ x. due start t node number x earlier ≡ Some e) same d)))
    (λ differ. first_same t node number cell (e ∷ earlier) earlier (due_same start t node number c node number cell earlier e d (cell_apart node number c cell differ)) r)

-- ---- the effects of an entry

pub delivered_effects : (start : Place → Value) (nodes : ℕ) (past : List Entry) (p n c : ℕ) (v : Value) → (h : DeliveryWired start nodes past p n c v)
    → effects start (Delivered p n c v ∷ past) ≡ h.part ∷ effects start past
delivered_effects start nodes past p n c v h = rw (h.issued, h.is_due) refl

-- an access that is not issued has no part
pub unissued : (start : Place → Value) (nodes : ℕ) (past : List Entry) → Wired start nodes past → (node number cell : ℕ) (wrote : Bool)
    → access_at node number past ≡ None → part_value node number cell wrote (effects start past) ≡ None
unissued start nodes [] h node number cell wrote e = refl
unissued start nodes (Issued p n a ∷ past) h node number cell wrote e =
    decide_on (same_access p n node number) (λ t. let x : Some a ≡ None = rw t at e in cc)
    (λ f. (issue_same start (transfer_of a) p n node number cell f (transfer_of a).cells (effects start past)).same wrote
    ∙ unissued start nodes past h.1 node number cell wrote (rw f at e))
unissued start nodes (Delivered p n c v ∷ past) h node number cell wrote e =
    ap (part_value node number cell wrote) (delivered_effects start nodes past p n c v h.0)
    ∙ decide_on (same_access p n node number) (λ t. let s = accesses_are_one p n node number t in
    let x : access_at node number past ≡ Some h.0.access = subst (λ q. access_at q number past ≡ Some h.0.access) s.0 (subst (λ k. access_at p k past ≡ Some h.0.access) s.1 h.0.issued) in
    absurd (let y : None ≡ Some h.0.access = sym e ∙ x in cc))
    (λ f. (due_same start (transfer_of h.0.access) p n c node number cell (effects start past) h.0.part h.0.is_due (access_apart p n c node number cell f)).same wrote
    ∙ unissued start nodes past h.1 node number cell wrote e)
unissued start nodes (Waited q c ∷ past) h node number cell wrote e = unissued start nodes past h.1 node number cell wrote e
unissued start nodes (Arrived q s ∷ past) h node number cell wrote e = unissued start nodes past h.1 node number cell wrote e
unissued start nodes (Passed q ∷ past) h node number cell wrote e = unissued start nodes past h.1 node number cell wrote e
unissued start nodes (Finished q end ∷ past) h node number cell wrote e = unissued start nodes past h.1 node number cell wrote e

pub reads_first : (start : Place → Value) (nodes : ℕ) (past : List Entry) → Wired start nodes past → (node number cell : ℕ) (a : Access)
    → access_at node number past ≡ Some a → ReadFirst (transfer_of a) node number cell (effects start past)
reads_first start nodes [] h node number cell a e = cc
reads_first start nodes (Issued p n x ∷ past) h node number cell a e =
    decide_on (same_access p n node number) (λ t. let s = accesses_are_one p n node number t in
    let y : Some x ≡ Some a = rw t at e in
    let is : x ≡ a = cc in
    let free : access_at p n past ≡ None = next_is_free start nodes past h.1 p n h.0.numbered in
    subst (λ k. ReadFirst (transfer_of a) node k cell (effects start (Issued p n x ∷ past))) s.1
    (subst (λ q. ReadFirst (transfer_of a) q n cell (effects start (Issued p n x ∷ past))) s.0
    (subst (λ b. ReadFirst (transfer_of b) p n cell (effects start (Issued p n x ∷ past))) is
    (issue_keeps (λ l. ReadFirst (transfer_of x) p n cell l) start (transfer_of x) p n
    (λ c l f r d. first_kept start (transfer_of x) p n cell c l f r d) (transfer_of x).cells (effects start past)
    (record { first = λ has wrote. (let z : is_some {T = Value} None ≡ true = sym (ap is_some (unissued start nodes past h.1 p n cell true free)) ∙ wrote in cc) })))))
    (λ f. first_same (transfer_of a) node number cell (effects start (Issued p n x ∷ past)) (effects start past)
    (issue_same start (transfer_of x) p n node number cell f (transfer_of x).cells (effects start past))
    (reads_first start nodes past h.1 node number cell a (rw f at e)))
reads_first start nodes (Delivered p n c v ∷ past) h node number cell a e =
    subst (λ l. ReadFirst (transfer_of a) node number cell l) (sym (delivered_effects start nodes past p n c v h.0))
    (decide_on (same_access p n node number) (λ t. let s = accesses_are_one p n node number t in
    let x : access_at node number past ≡ Some h.0.access = subst (λ q. access_at q number past ≡ Some h.0.access) s.0 (subst (λ k. access_at p k past ≡ Some h.0.access) s.1 h.0.issued) in
    let y : Some h.0.access ≡ Some a = sym x ∙ e in
    let is : h.0.access ≡ a = cc in
    let d : due start (transfer_of a) node number c (effects start past) ≡ Some h.0.part =
    subst (λ b. due start (transfer_of b) node number c (effects start past) ≡ Some h.0.part) is
    (subst (λ k. due start (transfer_of h.0.access) node k c (effects start past) ≡ Some h.0.part) s.1
    (subst (λ q. due start (transfer_of h.0.access) q n c (effects start past) ≡ Some h.0.part) s.0 h.0.is_due)) in
    first_kept start (transfer_of a) node number cell c (effects start past) h.0.part (reads_first start nodes past h.1 node number cell a e) d)
    (λ f. first_same (transfer_of a) node number cell (h.0.part ∷ effects start past) (effects start past)
    (due_same start (transfer_of h.0.access) p n c node number cell (effects start past) h.0.part h.0.is_due (access_apart p n c node number cell f))
    (reads_first start nodes past h.1 node number cell a e)))
reads_first start nodes (Waited q c ∷ past) h node number cell a e = reads_first start nodes past h.1 node number cell a e
reads_first start nodes (Arrived q s ∷ past) h node number cell a e = reads_first start nodes past h.1 node number cell a e
reads_first start nodes (Passed q ∷ past) h node number cell a e = reads_first start nodes past h.1 node number cell a e
reads_first start nodes (Finished q end ∷ past) h node number cell a e = reads_first start nodes past h.1 node number cell a e

-- ---- the message that is left after a delivery

-- where a cell has a reading part, its writing part has no other value
pub record WritesRead (t : Transfer) : Type 0 where
  pub no_value : (cell : ℕ) → IsSome (part_place t cell false) → t.value ≡ None

no_read : (b : Bool) → is_some {T = Place} (if b then None else None) ≡ true → ⊥
no_read true h = cc
no_read false h = cc

pub writes_read : (a : Access) → WritesRead (transfer_of a)
writes_read (Read place track) = record { no_value = λ cell has. refl }
writes_read (Write place value track) = record { no_value = λ cell has. absurd (no_read (nat_lt cell 1) has) }
writes_read (Copy from to cells track) = record { no_value = λ cell has. refl }

read_back : (start : Place → Value) (t : Transfer) (node number cell : ℕ) (track : Track) (earlier : List Effect) (place : Place) (v : Value) (to : Option Place)
    → t.value ≡ None
    → back_from (message node number cell track (part.Read place to)) v (part.Read place to)
    ≡ carried t node number cell track (due_with start node number cell earlier (Some place) to t.value (Some v) None)
read_back start t node number cell track earlier place v None none = refl
read_back start t node number cell track earlier place v (Some q) none = rw none refl

write_over : (start : Place → Value) (node number cell : ℕ) (earlier : List Effect) (from to : Option Place) (value read : Option Value) (v : Value)
    → (IsSome from → IsSome read) → due_with start node number cell earlier from to value read (Some v) ≡ None
write_over start node number cell earlier None to value None v h = refl
write_over start node number cell earlier (Some place) to value None v h = let x : is_some {T = Value} None ≡ true = h refl in cc
write_over start node number cell earlier from to value (Some r) v h = refl

-- the message after a part that was due is that of the part that is then due
pub after_due : (start : Place → Value) (t : Transfer) (node number cell : ℕ) (track : Track) (earlier : List Effect) (e : Effect) → WritesRead t
    → ReadFirst t node number cell earlier → IsDue start t node number cell earlier e
    → back_from (message node number cell track (part_of t cell e)) e.value (part_of t cell e) ≡ carried t node number cell track (due start t node number cell (e ∷ earlier))
after_due start t node number cell track earlier e well r (IsRead place p none is) =
    let of = due_of start t node number cell earlier e (IsRead place p none is) in
    let wrote : e.wrote ≡ false = ap (λ (x : Effect). x.wrote) is in
    let at : e.place ≡ place = ap (λ (x : Effect). x.place) is in
    let has : IsSome (part_place t cell false) = ap is_some p in
    let not_written : part_value node number cell true earlier ≡ None = unwritten (part_value node number cell true earlier) (λ w. (let z : is_some {T = Value} None ≡ true = sym (ap is_some none) ∙ r.first has w in cc)) in
    let now_read : part_value node number cell false (e ∷ earlier) ≡ Some e.value = value_of node number cell false e earlier of wrote in
    let part_is : part_of t cell e ≡ part.Read place (part_place t cell true) = rw (wrote, at) refl in
    let now_wrote : part_value node number cell true (e ∷ earlier) ≡ None = value_kept node number cell true e earlier (rw wrote refl) ∙ not_written in
    let next : carried t node number cell track (due start t node number cell (e ∷ earlier))
    ≡ carried t node number cell track (due_with start node number cell (e ∷ earlier) (Some place) (part_place t cell true) t.value (Some e.value) None) =
    ap (carried t node number cell track) (due_is start t node number cell (e ∷ earlier)) ∙ rw (p, now_read, now_wrote) refl in
    ap (λ w. back_from (message node number cell track w) e.value w) part_is
    ∙ read_back start t node number cell track (e ∷ earlier) place e.value (part_place t cell true) (well.no_value cell has) ∙ sym next
  where
    unwritten : (o : Option Value) → (is_some o ≡ true → ⊥) → o ≡ None
    unwritten None h = refl
    unwritten (Some v) h = absurd (h refl)
after_due start t node number cell track earlier e well r (IsWrite place value p none w first is) =
    let of = due_of start t node number cell earlier e (IsWrite place value p none w first is) in
    let wrote : e.wrote ≡ true = ap (λ (x : Effect). x.wrote) is in
    let now_wrote : part_value node number cell true (e ∷ earlier) ≡ Some e.value = value_of node number cell true e earlier of wrote in
    let now_read : part_value node number cell false (e ∷ earlier) ≡ part_value node number cell false earlier = value_kept node number cell false e earlier (rw wrote refl) in
    let part_is : part_of t cell e ≡ part.Write e.place e.value = rw wrote refl in
    let gone : due start t node number cell (e ∷ earlier) ≡ None =
    due_is start t node number cell (e ∷ earlier)
    ∙ rw (now_read, now_wrote) (write_over start node number cell (e ∷ earlier) (part_place t cell false) (part_place t cell true) t.value (part_value node number cell false earlier) e.value first) in
    ap (λ w. back_from (message node number cell track w) e.value w) part_is ∙ sym (ap (carried t node number cell track) gone)

-- ---- the messages of a cell

-- the message of the part that is due, where the access is issued
abbrev pub expected : (start : Place → Value) → Option Access → (node number cell : ℕ) → List Effect → List Message
expected start None node number cell earlier = []
expected start (Some a) node number cell earlier = carried (transfer_of a) node number cell (track_of a) (due start (transfer_of a) node number cell earlier)

expected_same : (start : Place → Value) (o : Option Access) (node number cell : ℕ) (one other : List Effect) → SameParts node number cell one other
    → expected start o node number cell one ≡ expected start o node number cell other
expected_same start None node number cell one other s = refl
expected_same start (Some a) node number cell one other s = carried_same start (transfer_of a) node number cell (track_of a) one other s

-- the message for the cell, behind a delivery for it
pub back_is : (start : Place → Value) (nodes : ℕ) (past : List Entry) (p n c : ℕ) (v : Value) → Wired start nodes past → (h : DeliveryWired start nodes past p n c v)
    → only p n c (in_flight start past) ≡ expected start (access_at p n past) p n c (effects start past)
    → returned p n c v (in_flight start past)
    ≡ carried (transfer_of h.access) p n c (track_of h.access) (due start (transfer_of h.access) p n c (h.part ∷ effects start past))
back_is start nodes past p n c v w h ih =
    returned_is p n c v (in_flight start past)
    ∙ ap (first_back v) (ih ∙ ap (λ o. expected start o p n c (effects start past)) h.issued ∙ ap (carried (transfer_of h.access) p n c (track_of h.access)) h.is_due)
    ∙ ap (λ x. back_from (message p n c (track_of h.access) (part_of (transfer_of h.access) c h.part)) x (part_of (transfer_of h.access) c h.part)) h.its_value
    ∙ after_due start (transfer_of h.access) p n c (track_of h.access) (effects start past) h.part (writes_read h.access)
    (reads_first start nodes past w p n c h.access h.issued) (is_due start (transfer_of h.access) p n c (effects start past) h.part h.is_due)

pub flying : (start : Place → Value) (nodes : ℕ) (past : List Entry) → Wired start nodes past → (node number cell : ℕ)
    → only node number cell (in_flight start past) ≡ expected start (access_at node number past) node number cell (effects start past)
flying start nodes [] h node number cell = refl
flying start nodes (Issued p n a ∷ past) h node number cell =
    let later : List Effect = effects start (Issued p n a ∷ past) in
    let new : List Message = sent start (transfer_of a) p n (track_of a) later (transfer_of a).cells in
    only_append node number cell (in_flight start past) new
    ∙ decide_on (same_access p n node number)
    (λ t. let s = accesses_are_one p n node number t in
    let free : access_at p n past ≡ None = next_is_free start nodes past h.1 p n h.0.numbered in
    let before : only p n cell (in_flight start past) ≡ [] = flying start nodes past h.1 p n cell ∙ ap (λ o. expected start o p n cell (effects start past)) free in
    let own : only p n cell (in_flight start past) ++ only p n cell new ≡ carried (transfer_of a) p n cell (track_of a) (due start (transfer_of a) p n cell later) =
    ap (λ l. l ++ only p n cell new) before ∙ sent_all start (transfer_of a) p n cell (track_of a) later in
    rw t (subst (λ k. only node k cell (in_flight start past) ++ only node k cell new ≡ carried (transfer_of a) node k cell (track_of a) (due start (transfer_of a) node k cell later)) s.1
    (subst (λ q. only q n cell (in_flight start past) ++ only q n cell new ≡ carried (transfer_of a) q n cell (track_of a) (due start (transfer_of a) q n cell later)) s.0 own)))
    (λ f. rw f (ap (λ l. only node number cell (in_flight start past) ++ l) (sent_apart start (transfer_of a) p n node number cell (track_of a) later f (transfer_of a).cells)
    ∙ none_more (only node number cell (in_flight start past))
    ∙ flying start nodes past h.1 node number cell
    ∙ sym (expected_same start (access_at node number past) node number cell later (effects start past) (issue_same start (transfer_of a) p n node number cell f (transfer_of a).cells (effects start past)))))
  where
    none_more : (xs : List Message) → xs ++ [] ≡ xs
    none_more [] = refl
    none_more (x ∷ xs) = ap (λ l. x ∷ l) (none_more xs)
flying start nodes (Delivered p n c v ∷ past) h node number cell =
    let e : Effect = h.0.part in
    let a : Access = h.0.access in
    let back : List Message = returned p n c v (in_flight start past) in
    let back_as : back ≡ carried (transfer_of a) p n c (track_of a) (due start (transfer_of a) p n c (e ∷ effects start past)) =
    back_is start nodes past p n c v h.1 h.0 (flying start nodes past h.1 p n c) in
    only_append node number cell (without p n c (in_flight start past)) back
    ∙ decide_on (same_cell p n c node number cell)
    (λ t. let s = cells_are_one p n c node number cell t in
    let own : only p n c (without p n c (in_flight start past)) ++ only p n c back ≡ expected start (access_at p n past) p n c (effects start (Delivered p n c v ∷ past)) =
    ap (λ l. l ++ only p n c back) (only_without_same p n c (in_flight start past))
    ∙ ap (only p n c) back_as
    ∙ carried_one (transfer_of a) p n c (track_of a) (due start (transfer_of a) p n c (e ∷ effects start past))
    ∙ ap (λ l. carried (transfer_of a) p n c (track_of a) (due start (transfer_of a) p n c l)) (sym (delivered_effects start nodes past p n c v h.0))
    ∙ sym (ap (λ o. expected start o p n c (effects start (Delivered p n c v ∷ past))) h.0.issued) in
    subst (λ d. only node number d (without p n c (in_flight start past)) ++ only node number d back ≡ expected start (access_at node number past) node number d (effects start (Delivered p n c v ∷ past))) s.2
    (subst (λ k. only node k c (without p n c (in_flight start past)) ++ only node k c back ≡ expected start (access_at node k past) node k c (effects start (Delivered p n c v ∷ past))) s.1
    (subst (λ q. only q n c (without p n c (in_flight start past)) ++ only q n c back ≡ expected start (access_at q n past) q n c (effects start (Delivered p n c v ∷ past))) s.0 own)))
    (λ f. ap (λ l. l ++ only node number cell back) (only_without_other p n c node number cell f (in_flight start past))
    ∙ ap (λ l. only node number cell (in_flight start past) ++ l) (ap (only node number cell) back_as
    ∙ carried_apart (transfer_of a) p n c node number cell (track_of a) (due start (transfer_of a) p n c (e ∷ effects start past)) f)
    ∙ none_more (only node number cell (in_flight start past))
    ∙ flying start nodes past h.1 node number cell
    ∙ sym (expected_same start (access_at node number past) node number cell (effects start (Delivered p n c v ∷ past)) (effects start past)
    (subst (λ l. SameParts node number cell l (effects start past)) (sym (delivered_effects start nodes past p n c v h.0))
    (due_same start (transfer_of a) p n c node number cell (effects start past) e h.0.is_due f))))
  where
    none_more : (xs : List Message) → xs ++ [] ≡ xs
    none_more [] = refl
    none_more (x ∷ xs) = ap (λ l. x ∷ l) (none_more xs)
flying start nodes (Waited q c ∷ past) h node number cell = flying start nodes past h.1 node number cell
flying start nodes (Arrived q s ∷ past) h node number cell = flying start nodes past h.1 node number cell
flying start nodes (Passed q ∷ past) h node number cell = flying start nodes past h.1 node number cell
flying start nodes (Finished q end ∷ past) h node number cell = flying start nodes past h.1 node number cell
