-- What a fabric keeps stays through a wait, whose answers are the values of the reads that it awaits.
use Rattle.std.proofs.Common.{◌≡◌, ℕ, suc, ◌+◌, ◌-◌, ◌<◌, ◌≤◌, List, [], ◌∷◌, length, map, Bool, true, false, not, ◌&&◌, ◌==◌, refl, sym, ap, ◌∙◌, subst}
use Rattle.std.specs.Prelude.{cond}
use Rattle.std.specs.List.{filter}
use Rattle.std.proofs.lemmas.Bool.{and_parts, eqb-true}
use Rattle.sc_base.specs.declared.value.Value.{Value}
use Rattle.sc_base.specs.declared.value.Place.{Place}
use Rattle.effect_order.specs.Lists.{Each}
use Rattle.effect_order.proofs.Members.{each-map}
use Rattle.effect_order.specs.Transfer.{part_value}
use Rattle.sc_isa.specs.declared.journal.Entry.{Entry}
use Rattle.sc_isa.specs.declared.journal.Entry.TheVariants.{Waited}
use Rattle.fabric.specs.declared.reads.Awaited.{Awaited}
use Rattle.sync_book.specs.Book.{outstanding as in_books}
use Rattle.fabric.specs.Access.{is_counter}
use Rattle.fabric.specs.Effects.{awaited, effects, or_zero, landed}
use Rattle.fabric.specs.Outstanding.{outstanding}
use Rattle.fabric.specs.Wired.{Going}
use Rattle.fabric.specs.Reads.{Waiting, is_on, reads_on, reads_off, values_in}
use Rattle.fabric.specs.Log.{Log}
use Rattle.fabric.specs.State.{State, start_of, nodes_of}
use Rattle.fabric.specs.Kept.{IsOfJournal, IsRead, AreAwaited, IsFabric}
use Rattle.fabric.proofs.Deciding.{decide_on}
use Rattle.fabric.proofs.Counting.{outstanding_flies}
use Rattle.fabric.proofs.Done.{all_done}
use Rattle.fabric.proofs.Quiet.{SameCounts, Quiet, read_quiet, kept_quiet}

-- ---- reads on a counter

each_off : (P : Awaited → Type 0) (test : Awaited → Bool) (rs : List Awaited) → Each P rs → Each P (filter test rs)
each_off P test [] e = tt
each_off P test (r ∷ rs) e = by_test (test r) (each_off P test rs e.1)
  where
    by_test : (b : Bool) → Each P (filter test rs) → Each P (cond b (r ∷ filter test rs) (filter test rs))
    by_test true h = (e.0, h)
    by_test false h = h

on_off_same : (node counter : ℕ) (rs : List Awaited) → reads_on node counter (reads_off node counter rs) ≡ []
on_off_same node counter [] = refl
on_off_same node counter (r ∷ rs) =
    decide_on (is_on node counter r)
    (λ t. rw t (on_off_same node counter rs))
    (λ f. rw f (rw f (on_off_same node counter rs)))

-- a read on one counter of one node is on no other
on_one : (node counter n c : ℕ) (r : Awaited) → ((node == n) && (counter == c)) ≡ false → is_on node counter r ≡ true → is_on n c r ≡ false
on_one node counter n c r apart h =
    let a = and_parts (r.node == node) (r.counter == counter) h in
    ap (λ x. (x == n) && (r.counter == c)) (eqb-true r.node node a.0) ∙ ap (λ x. (node == n) && (x == c)) (eqb-true r.counter counter a.1) ∙ apart

on_off_other : (node counter n c : ℕ) → ((node == n) && (counter == c)) ≡ false → (rs : List Awaited) → reads_on n c (reads_off node counter rs) ≡ reads_on n c rs
on_off_other node counter n c apart [] = refl
on_off_other node counter n c apart (r ∷ rs) =
    decide_on (is_on node counter r)
    (λ t. let off : is_on n c r ≡ false = on_one node counter n c r apart t in
    ap (λ b. reads_on n c (cond (not b) (r ∷ reads_off node counter rs) (reads_off node counter rs))) t
    ∙ on_off_other node counter n c apart rs
    ∙ sym (ap (λ b. cond b (r ∷ reads_on n c rs) (reads_on n c rs)) off))
    (λ f. ap (λ b. reads_on n c (cond (not b) (r ∷ reads_off node counter rs) (reads_off node counter rs))) f
    ∙ ap (λ l. cond (is_on n c r) (r ∷ l) l) (on_off_other node counter n c apart rs))

pub values_landed : (start : Place → Value) (past : List Entry) (node counter : ℕ) (rs : List Awaited) → Each (IsRead past (effects start past)) rs
    → values_in (reads_on node counter rs)
    ≡ map (λ number. or_zero (part_value node number 0 false (effects start past))) (map (λ (r : Awaited). r.number) (reads_on node counter rs))
values_landed start past node counter [] e = refl
values_landed start past node counter (r ∷ rs) e =
    decide_on (is_on node counter r)
    (λ t. let a = and_parts (r.node == node) (r.counter == counter) t in
    let own : r.value ≡ or_zero (part_value node r.number 0 false (effects start past)) =
    subst (λ n. r.value ≡ or_zero (part_value n r.number 0 false (effects start past))) (eqb-true r.node node a.0) e.0.value in
    rw t (ap (λ v. v ∷ values_in (reads_on node counter rs)) own
    ∙ ap (λ l. or_zero (part_value node r.number 0 false (effects start past)) ∷ l) (values_landed start past node counter rs e.1)))
    (λ f. rw f (values_landed start past node counter rs e.1))

pub lands : (start : Place → Value) (past : List Entry) (node counter : ℕ) (rs : List Awaited) → AreAwaited start past rs
    → values_in (reads_on node counter rs) ≡ landed start node counter past
lands start past node counter rs a =
    values_landed start past node counter rs a.each
    ∙ ap (map (λ number. or_zero (part_value node number 0 false (effects start past)))) (a.numbers node counter)

count_map : (rs : List Awaited) → length (map (λ (r : Awaited). r.number) rs) ≡ length rs
count_map [] = refl
count_map (r ∷ rs) = ap suc (count_map rs)

pub as_many : (start : Place → Value) (past : List Entry) (node counter : ℕ) (rs : List Awaited) → AreAwaited start past rs
    → length (reads_on node counter rs) ≡ length (awaited node counter past)
as_many start past node counter rs a = sym (count_map (reads_on node counter rs)) ∙ ap length (a.numbers node counter)

-- ---- the wait

same_counts : (state : State) → SameCounts state.book state.book
same_counts state = record { nodes = refl; sites = refl; counters = λ node counter below. refl; stores = refl; covered = refl; all = refl; lists = λ node below. refl }

pub wait_kept : (state : State) (reads reads' : Waiting) (log log' : Log) (node counter : ℕ) → IsFabric state reads log.nodes log.room → Going (nodes_of state) state.past node
    → outstanding (start_of state) (λ other. other == node) (is_counter counter) state.past ≡ 0 → 0 < state.spare
    → log'.nodes ≡ log.nodes → log'.room + 1 ≡ log.room → reads'.reads ≡ reads_off node counter reads.reads → reads.spare ≤ reads'.spare
    → IsFabric (record state { past = Waited node counter ∷ state.past; spare = state.spare - 1 }) reads' log'.nodes log'.room
wait_kept state reads reads' log log' node counter h g none some nodes room off more =
    let j = h.of_journal in
    let start : Place → Value = start_of state in
    let past : List Entry = state.past in
    let quiet : Quiet start past (Waited node counter) = record { effects_same = refl; flight_same = refl; access_same = λ n k. refl } in
    let left : AreAwaited start (Waited node counter ∷ past) (reads_off node counter reads.reads) = record {
      numbers = λ n c.
          decide_on ((node == n) && (counter == c))
          (λ t. let two = and_parts (node == n) (counter == c) t in
          rw t (ap (map (λ (r : Awaited). r.number))
          (subst (λ x. reads_on x c (reads_off node counter reads.reads) ≡ []) (eqb-true node n two.0)
          (subst (λ x. reads_on node x (reads_off node counter reads.reads) ≡ []) (eqb-true counter c two.1) (on_off_same node counter reads.reads)))))
          (λ f. rw f (ap (map (λ (r : Awaited). r.number)) (on_off_other node counter n c f reads.reads) ∙ h.awaited_are.numbers n c));
      each = each_off (IsRead (Waited node counter ∷ past) (effects start (Waited node counter ∷ past))) (λ r. not (is_on node counter r)) reads.reads
          (each-map (IsRead past (effects start past)) (IsRead (Waited node counter ∷ past) (effects start (Waited node counter ∷ past))) reads.reads
          (λ r i. read_quiet start past (Waited node counter) r quiet i) h.awaited_are.each);
    } in
    kept_quiet state reads reads' log log' (Waited node counter) state.book h
    (record { going = g; all_done = all_done start (is_counter counter) node past none }) quiet
    (record { standing = j.stands.standing; ended = j.stands.ended })
    (same_counts state) some nodes room
    (subst (λ rs. AreAwaited start (Waited node counter ∷ past) rs) (sym off) left) more

-- the books' count is that of the journal
pub book_counts : (state : State) → IsOfJournal state → (node counter : ℕ) → node < nodes_of state → counter ≤ state.book.sites
    → outstanding (start_of state) (λ other. other == node) (is_counter counter) state.past ≡ in_books state.book node counter
book_counts state j node counter below known =
    outstanding_flies (start_of state) (nodes_of state) (λ other. other == node) (is_counter counter) state.past j.wired
    ∙ sym (j.counts.counters node counter (subst (λ n. node < n) (sym j.rows) below) known)
