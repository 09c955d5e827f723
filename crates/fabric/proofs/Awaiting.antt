-- Which reads are awaited, through an issue and a delivery.
use Rattle.std.proofs.Common.{◌≡◌, ℕ, List, [], ◌∷◌, ◌++◌, map, Some, None, Bool, true, false, ◌&&◌, ◌==◌, refl, sym, ap, ◌∙◌, subst}
use Rattle.std.specs.Prelude.{if◌then◌else◌, cond, pos}
use Rattle.sc_base.specs.declared.value.Value.{Value}
use Rattle.sc_base.specs.declared.value.Place.{Place}
use Rattle.sc_base.specs.declared.value.Value.TheVariants.{Int}
use Rattle.effect_order.specs.Effect.{Effect, held}
use Rattle.effect_order.proofs.Members.{each-map, each-append}
use Rattle.effect_order.specs.Transfer.{part_value, taking}
use Rattle.sc_layout.specs.Place.{IsPlace}
use Rattle.sc_layout.specs.Start.{start as start_in}
use Rattle.node_memory.specs.Memory.{Memory, cell as cell_of}
use Rattle.sc_isa.specs.declared.access.Access.{Access}
use Rattle.sc_isa.specs.declared.access.Access.TheVariants.{Read, Write, Copy}
use Rattle.sc_isa.specs.declared.access.Track.{Track}
use Rattle.sc_isa.specs.declared.access.Track.TheVariants.{Counter, Store, Covered}
use Rattle.sc_isa.specs.declared.journal.Entry.{Entry}
use Rattle.sc_isa.specs.declared.journal.Entry.TheVariants.{Issued}
use Rattle.fabric.specs.declared.reads.Awaited.{Awaited}
use Rattle.fabric.specs.Access.{transfer_of, is_read_on}
use Rattle.fabric.specs.Effects.{access_at, awaited, effects, or_zero}
use Rattle.fabric.specs.Reads.{is_on, reads_on, filled}
use Rattle.fabric.specs.Kept.{IsRead, AreAwaited}
use Rattle.fabric.specs.Issuing.{Untouched, Unissued, HoldsAfter}
use Rattle.fabric.proofs.Cells.{read_effect, due_read, due_after_read, cell_away, cell_over}
use Rattle.fabric.proofs.CellSteps.{taken_at}
use Rattle.fabric.proofs.Deciding.{decide_on}
use Rattle.fabric.proofs.Keys.{same_access, accesses_are_one, same_access_self, issue_same, value_of}

-- an issue under a free number leaves the reads that were awaited
pub read_issued : (start : Place → Value) (past : List Entry) (p k : ℕ) (a : Access) (r : Awaited) → access_at p k past ≡ None
    → IsRead past (effects start past) r → IsRead (Issued p k a ∷ past) (effects start (Issued p k a ∷ past)) r
read_issued start past p k a r free i =
    decide_on (same_access p k r.node r.number)
    (λ t. let z = accesses_are_one p k r.node r.number t in
    let none : access_at r.node r.number past ≡ None = subst (λ n. access_at r.node n past ≡ None) z.1 (subst (λ q. access_at q k past ≡ None) z.0 free) in
    absurd (let x : None ≡ Some (Read i.place (Counter r.counter)) = sym none ∙ i.issued in cc))
    (λ f. record {
      place = i.place;
      issued = rw f i.issued;
      value = i.value ∙ ap or_zero (sym ((issue_same start (transfer_of a) p k r.node r.number 0 f (transfer_of a).cells (effects start past)).same false));
    })

-- the access is awaited on no counter
pub record NotAwaited (a : Access) : Type 0 where
  pub no_counter : (counter : ℕ) → is_read_on counter a ≡ false

pub issued_other : (start : Place → Value) (past : List Entry) (p k : ℕ) (a : Access) (rs : List Awaited) → access_at p k past ≡ None → NotAwaited a
    → AreAwaited start past rs → AreAwaited start (Issued p k a ∷ past) rs
issued_other start past p k a rs free other w = record {
  numbers = λ node counter. w.numbers node counter ∙ sym (rw (other.no_counter counter) (unless (p == node) (awaited node counter past) k));
  each = each-map (IsRead past (effects start past)) (IsRead (Issued p k a ∷ past) (effects start (Issued p k a ∷ past))) rs (λ r i. read_issued start past p k a r free i) w.each;
}
  where
    unless : (b : Bool) (xs : List ℕ) (k : ℕ) → (if b && false then xs ++ k ∷ [] else xs) ≡ xs
    unless true xs k = refl
    unless false xs k = refl

on_append : (node counter : ℕ) (rs : List Awaited) (r : Awaited)
    → map (λ (x : Awaited). x.number) (reads_on node counter (rs ++ r ∷ []))
    ≡ (if is_on node counter r then map (λ (x : Awaited). x.number) (reads_on node counter rs) ++ r.number ∷ [] else map (λ (x : Awaited). x.number) (reads_on node counter rs))
on_append node counter [] r = by_test (is_on node counter r)
  where
    by_test : (b : Bool) → map (λ (x : Awaited). x.number) (cond b (r ∷ []) []) ≡ (if b then [] ++ r.number ∷ [] else [])
    by_test true = refl
    by_test false = refl
on_append node counter (x ∷ xs) r =
    decide_on (is_on node counter x)
    (λ t. ap (λ b. map (λ (y : Awaited). y.number) (cond b (x ∷ reads_on node counter (xs ++ r ∷ [])) (reads_on node counter (xs ++ r ∷ [])))) t
    ∙ ap (λ l. x.number ∷ l) (on_append node counter xs r)
    ∙ pull (is_on node counter r) x.number (map (λ (y : Awaited). y.number) (reads_on node counter xs)) r.number
    ∙ sym (ap (λ b. if is_on node counter r then map (λ (y : Awaited). y.number) (cond b (x ∷ reads_on node counter xs) (reads_on node counter xs)) ++ r.number ∷ [] else map (λ (y : Awaited). y.number) (cond b (x ∷ reads_on node counter xs) (reads_on node counter xs))) t))
    (λ f. ap (λ b. map (λ (y : Awaited). y.number) (cond b (x ∷ reads_on node counter (xs ++ r ∷ [])) (reads_on node counter (xs ++ r ∷ [])))) f
    ∙ on_append node counter xs r
    ∙ sym (ap (λ b. if is_on node counter r then map (λ (y : Awaited). y.number) (cond b (x ∷ reads_on node counter xs) (reads_on node counter xs)) ++ r.number ∷ [] else map (λ (y : Awaited). y.number) (cond b (x ∷ reads_on node counter xs) (reads_on node counter xs))) f))
  where
    pull : (b : Bool) (n : ℕ) (ns : List ℕ) (k : ℕ) → n ∷ (if b then ns ++ k ∷ [] else ns) ≡ (if b then (n ∷ ns) ++ k ∷ [] else n ∷ ns)
    pull true n ns k = refl
    pull false n ns k = refl

pub issued_read : (start : Place → Value) (past : List Entry) (p k d : ℕ) (place : Place) (v : Value) (rs : List Awaited) → access_at p k past ≡ None
    → v ≡ or_zero (part_value p k 0 false (effects start (Issued p k (Read place (Counter d)) ∷ past)))
    → AreAwaited start past rs
    → AreAwaited start (Issued p k (Read place (Counter d)) ∷ past) (rs ++ record { node = p; counter = d; number = k; value = v } ∷ [])
issued_read start past p k d place v rs free value w =
    let a : Access = Read place (Counter d) in
    record {
      numbers = λ node counter.
          on_append node counter rs (record { node = p; counter = d; number = k; value = v })
          ∙ ap (λ l. if (p == node) && (d == counter) then l ++ k ∷ [] else l) (w.numbers node counter);
      each = each-append (IsRead (Issued p k a ∷ past) (effects start (Issued p k a ∷ past))) rs (record { node = p; counter = d; number = k; value = v } ∷ [])
          (each-map (IsRead past (effects start past)) (IsRead (Issued p k a ∷ past) (effects start (Issued p k a ∷ past))) rs (λ r i. read_issued start past p k a r free i) w.each)
          (record { place = place; issued = rw (same_access_self p k) refl; value = value }, tt);
    }

-- ---- a delivery

pub filled_on : (node counter p n : ℕ) (v : Value) (rs : List Awaited)
    → map (λ (x : Awaited). x.number) (reads_on node counter (map (filled p n v) rs)) ≡ map (λ (x : Awaited). x.number) (reads_on node counter rs)
filled_on node counter p n v [] = refl
filled_on node counter p n v (r ∷ rs) =
    decide_on ((r.node == p) && (r.number == n))
    (λ t. ap (λ (x : Awaited). map (λ (y : Awaited). y.number) (cond (is_on node counter x) (x ∷ reads_on node counter (map (filled p n v) rs)) (reads_on node counter (map (filled p n v) rs))))
    (ap (λ b. if b then record r { value = v } else r) t)
    ∙ by_test (record r { value = v }) (is_on node counter r) refl (filled_on node counter p n v rs))
    (λ f. ap (λ (x : Awaited). map (λ (y : Awaited). y.number) (cond (is_on node counter x) (x ∷ reads_on node counter (map (filled p n v) rs)) (reads_on node counter (map (filled p n v) rs))))
    (ap (λ b. if b then record r { value = v } else r) f)
    ∙ by_test r (is_on node counter r) refl (filled_on node counter p n v rs))
  where
    by_test : (x : Awaited) (b : Bool) → x.number ≡ r.number
        → map (λ (y : Awaited). y.number) (reads_on node counter (map (filled p n v) rs)) ≡ map (λ (y : Awaited). y.number) (reads_on node counter rs)
        → map (λ (y : Awaited). y.number) (cond b (x ∷ reads_on node counter (map (filled p n v) rs)) (reads_on node counter (map (filled p n v) rs)))
        ≡ map (λ (y : Awaited). y.number) (cond b (r ∷ reads_on node counter rs) (reads_on node counter rs))
    by_test x true same ih = ap (λ k. k ∷ map (λ (y : Awaited). y.number) (reads_on node counter (map (filled p n v) rs))) same ∙ ap (λ l. r.number ∷ l) ih
    by_test x false same ih = ih

-- ---- what a read of the node's own has at once

pub value_here : (memory : Memory) (past : List Entry) (node number d : ℕ) (place : Place) (v : Value) → place.node ≡ node → IsPlace memory.layout place
    → Unissued node number (effects (start_in memory.layout) past)
    → HoldsAfter memory (effects (start_in memory.layout) (Issued node number (Read place (Counter d)) ∷ past)) → cell_of memory place ≡ Some v
    → v ≡ or_zero (part_value node number 0 false (effects (start_in memory.layout) (Issued node number (Read place (Counter d)) ∷ past)))
value_here memory past node number d place v here p u h is =
    let s : Place → Value = start_in memory.layout in
    let earlier : List Effect = effects s past in
    let untouched : Untouched node number 0 earlier = record { none = λ wrote. u.none 0 wrote } in
    let e : Effect = read_effect s node number 0 place earlier in
    let due_is_e = due_read s (taking place) node number 0 earlier place untouched (taken_at place) in
    let at : effects s (Issued node number (Read place (Counter d)) ∷ past) ≡ e ∷ earlier =
    cell_over s (taking place) node number 0 earlier e due_is_e here (due_after_read s (taking place) node number 0 earlier place None untouched (taken_at place) refl refl) in
    let read : part_value node number 0 false (e ∷ earlier) ≡ Some (held s place earlier) = value_of node number 0 false e earlier (record { its_node = refl; its_number = refl; its_cell = refl }) refl in
    let shown : Some v ≡ Some (held s place (e ∷ earlier)) = sym is ∙ subst (λ l. HoldsAfter memory l) at h place p in
    let same : v ≡ held s place earlier = some_same v (held s place earlier) shown in
    same ∙ sym (ap or_zero (ap (part_value node number 0 false) at ∙ read))
  where
    some_same : (a b : Value) → Some a ≡ Some b → a ≡ b
    some_same a b e = cc

pub value_away : (memory : Memory) (past : List Entry) (node number d : ℕ) (place : Place) → (place.node ≡ node → ⊥)
    → Unissued node number (effects (start_in memory.layout) past)
    → Int (pos 0) ≡ or_zero (part_value node number 0 false (effects (start_in memory.layout) (Issued node number (Read place (Counter d)) ∷ past)))
value_away memory past node number d place away u =
    let s : Place → Value = start_in memory.layout in
    let earlier : List Effect = effects s past in
    let untouched : Untouched node number 0 earlier = record { none = λ wrote. u.none 0 wrote } in
    let e : Effect = read_effect s node number 0 place earlier in
    let due_is_e = due_read s (taking place) node number 0 earlier place untouched (taken_at place) in
    let at : effects s (Issued node number (Read place (Counter d)) ∷ past) ≡ earlier = cell_away s (taking place) node number 0 earlier e due_is_e away in
    sym (ap or_zero (ap (part_value node number 0 false) at ∙ u.none 0 false))

pub write_not_awaited : (place : Place) (value : Value) (track : Track) → NotAwaited (Write place value track)
write_not_awaited place value track = record { no_counter = λ counter. refl }

pub copy_not_awaited : (from to : Place) (cells : ℕ) (track : Track) → NotAwaited (Copy from to cells track)
copy_not_awaited from to cells track = record { no_counter = λ counter. refl }

pub store_not_awaited : (place : Place) → NotAwaited (Read place Store)
store_not_awaited place = record { no_counter = λ counter. refl }

pub covered_not_awaited : (place : Place) → NotAwaited (Read place Covered)
covered_not_awaited place = record { no_counter = λ counter. refl }
