-- In a journal that the fabric keeps, each cell has just the message in flight that carries the part that is due.
use Rattle.std.proofs.Common.{◌≡◌, ℕ, zero, suc, ◌+◌, ◌<◌, ◌≤◌, List, [], ◌∷◌, ◌++◌, Option, Some, None, Bool, true, false, ◌&&◌, ◌==◌, refl, sym, ap, ◌∙◌, subst, arith}
use Rattle.std.specs.Prelude.{if◌then◌else◌}
use Rattle.std.proofs.lemmas.Bool.{eq-eqb, ne_eqb}
use Rattle.fabric.proofs.Deciding.{decide_on, decide_eq, decide_lt}
use Rattle.sc_base.specs.declared.value.Value.{Value}
use Rattle.sc_base.specs.declared.value.Place.{Place}
use Rattle.effect_order.specs.Effect.{Effect}
use Rattle.effect_order.specs.Transfer.{Transfer}
use Rattle.sc_isa.specs.declared.access.Access.{Access}
use Rattle.sc_isa.specs.declared.access.Track.{Track}
use Rattle.sc_isa.specs.declared.journal.Entry.{Entry}
use Rattle.sc_isa.specs.declared.journal.Entry.TheVariants.{Issued, Delivered, Waited, Arrived, Passed, Finished}
use Rattle.msg_pool.specs.declared.message.Message.{Message}
use Rattle.fabric.specs.Effects.{due, access_at, issues}
use Rattle.fabric.specs.Flight.{carried, sent, is_for, without, back_from, returned}
use Rattle.fabric.specs.Wired.{Wired}
use Rattle.fabric.proofs.Parts.{due_past}
use Rattle.fabric.proofs.Keys.{same_access, same_cell, access_apart, cells_are_one, accesses_are_one, same_cell_self}

-- ---- numbers

one_more : (b : Bool) (number k : ℕ) → number < k → number < (if b then k + 1 else k)
one_more true number k h = omega arith
one_more false number k h = h

-- an issue has a number below that of the next
pub issued_below : (start : Place → Value) (nodes : ℕ) (past : List Entry) → Wired start nodes past → (node number : ℕ) (a : Access)
    → access_at node number past ≡ Some a → number < issues node past
issued_below start nodes [] h node number a e = cc
issued_below start nodes (Issued p n x ∷ past) h node number a e =
    decide_on (same_access p n node number) (λ t. let s = accesses_are_one p n node number t in
    let it : (p == node) ≡ true = eq-eqb p node s.0 in
    let w : n ≡ issues p past = h.0.numbered in
    rw it (let v : n ≡ issues node past = subst (λ q. n ≡ issues q past) s.0 w in omega (arith, s.1, v)))
    (λ f. let before : access_at node number past ≡ Some a = rw f at e in
    one_more (p == node) number (issues node past) (issued_below start nodes past h.1 node number a before))
issued_below start nodes (Delivered q n c v ∷ past) h node number a e = issued_below start nodes past h.1 node number a e
issued_below start nodes (Waited q c ∷ past) h node number a e = issued_below start nodes past h.1 node number a e
issued_below start nodes (Arrived q s ∷ past) h node number a e = issued_below start nodes past h.1 node number a e
issued_below start nodes (Passed q ∷ past) h node number a e = issued_below start nodes past h.1 node number a e
issued_below start nodes (Finished q end ∷ past) h node number a e = issued_below start nodes past h.1 node number a e

-- the next number is not taken
pub next_is_free : (start : Place → Value) (nodes : ℕ) (past : List Entry) → Wired start nodes past → (node number : ℕ) → number ≡ issues node past
    → access_at node number past ≡ None
next_is_free start nodes past h node number e = by_case (access_at node number past) refl
  where
    by_case : (o : Option Access) → access_at node number past ≡ o → access_at node number past ≡ None
    by_case None s = s
    by_case (Some a) s = let below : number < issues node past = issued_below start nodes past h node number a s in absurd (omega arith)

-- ---- messages for one cell

abbrev pub only : (node number cell : ℕ) → List Message → List Message
only node number cell [] = []
only node number cell (m ∷ ms) = if is_for node number cell m then m ∷ only node number cell ms else only node number cell ms

if_append : (b : Bool) (m : Message) (xs ys : List Message) → (if b then m ∷ (xs ++ ys) else xs ++ ys) ≡ (if b then m ∷ xs else xs) ++ ys
if_append true m xs ys = refl
if_append false m xs ys = refl

pub only_append : (node number cell : ℕ) (xs ys : List Message) → only node number cell (xs ++ ys) ≡ only node number cell xs ++ only node number cell ys
only_append node number cell [] ys = refl
only_append node number cell (m ∷ xs) ys =
    ap (λ l. if is_for node number cell m then m ∷ l else l) (only_append node number cell xs ys)
    ∙ if_append (is_for node number cell m) m (only node number cell xs) (only node number cell ys)

pub only_without_same : (node number cell : ℕ) (ms : List Message) → only node number cell (without node number cell ms) ≡ []
only_without_same node number cell [] = refl
only_without_same node number cell (m ∷ ms) =
    decide_on (is_for node number cell m) (λ t. rw t (only_without_same node number cell ms)) (λ f. rw (f, f) (only_without_same node number cell ms))

-- a message for one cell is for no other
for_one : (p n c node number cell : ℕ) (m : Message) → same_cell p n c node number cell ≡ false → is_for p n c m ≡ true → is_for node number cell m ≡ false
for_one p n c node number cell m apart h =
    let a = cells_are_one m.issuer m.number m.cell p n c h in
    ap (λ x. (x == node) && (m.number == number) && (m.cell == cell)) a.0
    ∙ ap (λ x. (p == node) && (x == number) && (m.cell == cell)) a.1
    ∙ ap (λ x. (p == node) && (n == number) && (x == cell)) a.2
    ∙ apart

pub only_without_other : (p n c node number cell : ℕ) → same_cell p n c node number cell ≡ false → (ms : List Message)
    → only node number cell (without p n c ms) ≡ only node number cell ms
only_without_other p n c node number cell apart [] = refl
only_without_other p n c node number cell apart (m ∷ ms) =
    decide_on (is_for p n c m) (λ t. rw (t, for_one p n c node number cell m apart t) (only_without_other p n c node number cell apart ms))
    (λ f. rw f (ap (λ l. if is_for node number cell m then m ∷ l else l) (only_without_other p n c node number cell apart ms)))

-- what the first of the messages becomes
abbrev pub first_back : Value → List Message → List Message
first_back value [] = []
first_back value (m ∷ ms) = back_from m value m.part

pub returned_is : (node number cell : ℕ) (value : Value) (ms : List Message) → returned node number cell value ms ≡ first_back value (only node number cell ms)
returned_is node number cell value [] = refl
returned_is node number cell value (m ∷ ms) =
    decide_on (is_for node number cell m) (λ t. rw t refl) (λ f. rw f (returned_is node number cell value ms))

-- ---- messages of an issue

pub carried_one : (t : Transfer) (node number cell : ℕ) (track : Track) (o : Option Effect)
    → only node number cell (carried t node number cell track o) ≡ carried t node number cell track o
carried_one t node number cell track None = refl
carried_one t node number cell track (Some e) = rw (same_cell_self node number cell) refl

pub carried_apart : (t : Transfer) (p n c node number cell : ℕ) (track : Track) (o : Option Effect) → same_cell p n c node number cell ≡ false
    → only node number cell (carried t p n c track o) ≡ []
carried_apart t p n c node number cell track None apart = refl
carried_apart t p n c node number cell track (Some e) apart = rw apart refl

pub sent_apart : (start : Place → Value) (t : Transfer) (p n node number cell : ℕ) (track : Track) (later : List Effect) → same_access p n node number ≡ false → (cells : ℕ)
    → only node number cell (sent start t p n track later cells) ≡ []
sent_apart start t p n node number cell track later apart zero = refl
sent_apart start t p n node number cell track later apart (suc c) =
    only_append node number cell (sent start t p n track later c) (carried t p n c track (due start t p n c later))
    ∙ ap (λ l. l ++ only node number cell (carried t p n c track (due start t p n c later))) (sent_apart start t p n node number cell track later apart c)
    ∙ carried_apart t p n c node number cell track (due start t p n c later) (access_apart p n c node number cell apart)

-- cells of one access apart
pub cell_apart : (node number c cell : ℕ) → (c ≡ cell → ⊥) → same_cell node number c node number cell ≡ false
cell_apart node number c cell ne = rw (eq-eqb node node refl, eq-eqb number number refl) (ne_eqb c cell ne)

sent_none : (start : Place → Value) (t : Transfer) (node number cell : ℕ) (track : Track) (later : List Effect) (cells : ℕ) → cells ≤ cell
    → only node number cell (sent start t node number track later cells) ≡ []
sent_none start t node number cell track later zero h = refl
sent_none start t node number cell track later (suc c) h =
    only_append node number cell (sent start t node number track later c) (carried t node number c track (due start t node number c later))
    ∙ ap (λ l. l ++ only node number cell (carried t node number c track (due start t node number c later))) (sent_none start t node number cell track later c (omega arith))
    ∙ carried_apart t node number c node number cell track (due start t node number c later) (cell_apart node number c cell (λ e. absurd (omega arith)))

append_none : (xs : List Message) → xs ++ [] ≡ xs
append_none [] = refl
append_none (x ∷ xs) = ap (λ l. x ∷ l) (append_none xs)

sent_one : (start : Place → Value) (t : Transfer) (node number cell : ℕ) (track : Track) (later : List Effect) (cells : ℕ) → cell < cells
    → only node number cell (sent start t node number track later cells) ≡ carried t node number cell track (due start t node number cell later)
sent_one start t node number cell track later zero h = absurd (omega arith)
sent_one start t node number cell track later (suc c) h =
    only_append node number cell (sent start t node number track later c) (carried t node number c track (due start t node number c later))
    ∙ decide_eq c cell (λ same. subst (λ x. only node number cell (sent start t node number track later x) ++ only node number cell (carried t node number x track (due start t node number x later)) ≡ carried t node number cell track (due start t node number cell later))
    (sym same)
    (ap (λ l. l ++ only node number cell (carried t node number cell track (due start t node number cell later))) (sent_none start t node number cell track later cell (omega arith))
    ∙ carried_one t node number cell track (due start t node number cell later)))
    (λ differ. ap (λ l. l ++ only node number cell (carried t node number c track (due start t node number c later))) (sent_one start t node number cell track later c (let ne : c ≡ cell → ⊥ = differ in below c cell ne h))
    ∙ ap (λ l. carried t node number cell track (due start t node number cell later) ++ l) (carried_apart t node number c node number cell track (due start t node number c later) (cell_apart node number c cell differ))
    ∙ append_none (carried t node number cell track (due start t node number cell later)))
  where
    below : (c cell : ℕ) → (c ≡ cell → ⊥) → cell < suc c → cell < c
    below c cell ne h = omega arith

-- the issue makes for each cell the message of what is due there
pub sent_all : (start : Place → Value) (t : Transfer) (node number cell : ℕ) (track : Track) (later : List Effect)
    → only node number cell (sent start t node number track later t.cells) ≡ carried t node number cell track (due start t node number cell later)
sent_all start t node number cell track later =
    decide_lt cell t.cells (λ lt. sent_one start t node number cell track later t.cells lt)
    (λ ge. sent_none start t node number cell track later t.cells ge ∙ sym (ap (carried t node number cell track) (due_past start t node number cell later ge)))
