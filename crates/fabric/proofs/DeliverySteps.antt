-- What a fabric keeps stays through a delivery.
use Rattle.std.proofs.Common.{◌≡◌, ℕ, ◌+◌, ◌-◌, ◌<◌, ◌≤◌, ◌^◌, List, [], ◌∷◌, ◌++◌, length, map, Option, Some, None, Bool, true, false, ◌&&◌, ◌==◌, refl, sym, ap, ◌∙◌, subst, arith}
use Rattle.std.specs.Prelude.{if◌then◌else◌}
use Rattle.std.proofs.lemmas.Bool.{eq-eqb, lt-ltb}
use Rattle.sc_base.specs.declared.value.Value.{Value}
use Rattle.sc_base.specs.declared.value.Place.{Place}
use Rattle.effect_order.specs.Effect.{Effect, held}
use Rattle.effect_order.specs.Lists.{Each}
use Rattle.effect_order.specs.Transfer.{Transfer, taking, cell_past}
use Rattle.effect_order.proofs.Members.{each-right, each-append, each-without}
use Rattle.sc_layout.specs.Layout.{Arrangement}
use Rattle.sc_layout.specs.Place.{IsPlace, Fits}
use Rattle.sc_layout.specs.Start.{start as start_in}
use Rattle.sc_isa.specs.declared.access.Access.{Access}
use Rattle.sc_isa.specs.declared.access.Access.TheVariants.{Read}
use Rattle.sc_isa.specs.declared.access.Track.{Track}
use Rattle.sc_isa.specs.declared.access.Track.TheVariants.{Counter, Store, Covered}
use Rattle.sc_isa.specs.declared.journal.Entry.{Entry}
use Rattle.sc_isa.specs.declared.journal.Entry.TheVariants.{Delivered}
use Rattle.msg_pool.specs.declared.message.Message.{Message}
use Rattle.msg_pool.specs.declared.message.MsgId.{MsgId}
use Rattle.msg_pool.specs.declared.message.Part.{Part}
use Rattle.msg_pool.specs.declared.message.Part.TheVariants as part
use Rattle.msg_pool.specs.Pool.{Pool, Pending, Takes}
use Rattle.node_memory.specs.Memory.{Memory, Holds as HoldsIn, cell as cell_of}
use Rattle.sync_book.specs.Book.{Book, IsTrackOf, outstanding_on, all_outstanding}
use Rattle.fabric.specs.declared.reads.Awaited.{Awaited}
use Rattle.fabric.specs.Access.{transfer_of, is_counter, is_store, is_covered}
use Rattle.fabric.specs.Effects.{due, access_at, at_delivery, and_effect, effects, or_zero}
use Rattle.fabric.specs.Flight.{part_of, back_from, in_flight, one_if, flying_count}
use Rattle.fabric.specs.Wired.{Wired, DeliveryWired}
use Rattle.fabric.specs.Books.{Counts, Stands}
use Rattle.fabric.specs.Reads.{Waiting, filled}
use Rattle.fabric.specs.Log.{Log}
use Rattle.fabric.specs.State.{State, messages_of, start_of, nodes_of, IsTrack}
use Rattle.fabric.specs.Kept.{PartReady, IsReady, IsRead as IsReadOf, AreAwaited, IsFabric, deliveries, deliveries_of}
use Rattle.fabric.specs.Issuing.{HoldsAfter, IsSendable}
use Rattle.fabric.specs.Delivering.{value_in, back_of, ends_read, HasPart, book_after, reads_after}
use Rattle.fabric.proofs.Deciding.{decide_on, decide_lt}
use Rattle.fabric.proofs.Parts.{IsDue, IsRead, IsWrite, IsOf, is_due, due_of, due_past}
use Rattle.fabric.proofs.Keys.{same_access, access_apart, accesses_are_one, due_same, value_of}
use Rattle.fabric.proofs.Counting.{count_append}
use Rattle.fabric.proofs.Sums.{More}
use Rattle.fabric.proofs.Fewer.{counts_less}
use Rattle.fabric.proofs.Counted.{counted_rows, counted_sites, counted_stands}
use Rattle.fabric.proofs.CellSteps.{shown_is, moved_fits, none_more}
use Rattle.fabric.proofs.IssueSteps.{deliveries_both, some_deliveries, length_both}
use Rattle.fabric.proofs.Awaiting.{filled_on}
use Rattle.fabric.proofs.Delivering.{Due, is_flying, flight_after}

-- ---- a message taken out

pub record Took (pool : Pool) (m : Message) (taken : Pool) : Type 0 where
  pub before : List Message
  pub after : List Message
  pub was : messages_of pool ≡ before ++ m ∷ after
  pub is : messages_of taken ≡ before ++ after
  pub spare : taken.spare ≡ pool.spare + 1
  pub puts : taken.puts ≡ pool.puts
  pub nodes : taken.nodes ≡ pool.nodes

messages_both : (xs ys : List Pending) → map (λ (p : Pending). p.message) (xs ++ ys) ≡ map (λ (p : Pending). p.message) xs ++ map (λ (p : Pending). p.message) ys
messages_both [] ys = refl
messages_both (x ∷ xs) ys = ap (λ l. x.message ∷ l) (messages_both xs ys)

pub took : (pool : Pool) (id : MsgId) (m : Message) (taken : Pool) → Takes pool id m taken → Took pool m taken
took pool id m taken t = record {
  before = map (λ (p : Pending). p.message) t.before;
  after = map (λ (p : Pending). p.message) t.after;
  was = ap (map (λ (p : Pending). p.message)) t.was ∙ messages_both t.before (record { id = id; message = m } ∷ t.after);
  is = ap messages_of t.is ∙ messages_both t.before t.after;
  spare = ap (λ (p : Pool). p.spare) t.is;
  puts = ap (λ (p : Pool). p.puts) t.is;
  nodes = ap (λ (p : Pool). p.nodes) t.is;
}

pub ready_of : (state : State) (reads : Waiting) (nodes room : ℕ) (m : Message) (taken : Pool) → IsFabric state reads nodes room → Took state.pool m taken
    → IsReady state.memory.layout state.book.sites m
ready_of state reads nodes room m taken h t =
    (each-right (IsReady state.memory.layout state.book.sites) t.before (m ∷ t.after) (subst (Each (IsReady state.memory.layout state.book.sites)) t.was h.ready)).0

pub due_message : (state : State) (reads : Waiting) (nodes room : ℕ) (m : Message) (taken : Pool) → IsFabric state reads nodes room → (t : Took state.pool m taken)
    → Due (start_of state) state.past t.before t.after m
due_message state reads nodes room m taken h t =
    is_flying (start_of state) (nodes_of state) state.past t.before t.after m h.of_journal.wired (sym h.of_journal.messages ∙ t.was)

-- ---- the part takes effect

pub read_shows : (memory : Memory) (from : Place) (v : Value) (earlier : List Effect) → IsPlace memory.layout from → cell_of memory from ≡ Some v → HoldsAfter memory earlier
    → v ≡ held (start_in memory.layout) from earlier
read_shows memory from v earlier p is h = sym (shown_is memory from v earlier p is h)

pub from_placed : (layout : Arrangement) (from : Place) (back : Option Place) → PartReady layout (part.Read from back) → IsPlace layout from
from_placed layout from None p = p
from_placed layout from (Some to) p = p.0

pub fits_back : (layout : Arrangement) (from : Place) (back : Option Place) (to : Place) (v : Value) → back ≡ Some to → PartReady layout (part.Read from back) → Fits layout from v → Fits layout to v
fits_back layout from None to v e p f = cc
fits_back layout from (Some x) to v e p f =
    let same : x ≡ to = cc in
    subst (λ (y : Place). Fits layout y v) same (moved_fits layout v _ _ p.2 f)

-- the value is the due part's, and the part is the effect's
due_value : (start : Place → Value) (t : Transfer) (node number cell : ℕ) (earlier : List Effect) (e : Effect) → IsDue start t node number cell earlier e
    → value_in start earlier (part_of t cell e) ≡ e.value
due_value start t node number cell earlier e (IsRead place p none is) = ap (λ (x : Effect). value_in start earlier (part_of t cell x)) is ∙ sym (ap (λ (x : Effect). x.value) is)
due_value start t node number cell earlier e (IsWrite place value p none w first is) = ap (λ (x : Effect). value_in start earlier (part_of t cell x)) is ∙ sym (ap (λ (x : Effect). x.value) is)

due_has : (start : Place → Value) (t : Transfer) (node number cell : ℕ) (earlier : List Effect) (e : Effect) → IsDue start t node number cell earlier e → HasPart e (part_of t cell e)
due_has start t node number cell earlier e (IsRead place p none is) = subst (λ (x : Effect). HasPart x (part_of t cell x)) (sym is) refl
due_has start t node number cell earlier e (IsWrite place value p none w first is) = subst (λ (x : Effect). HasPart x (part_of t cell x)) (sym is) (refl, refl, refl)

its_value : (start : Place → Value) (past : List Entry) (before after : List Message) (m : Message) (d : Due start past before after m)
    → value_in start (effects start past) m.part ≡ d.part.value
its_value start past before after m d =
    ap (value_in start (effects start past)) d.its_part
    ∙ due_value start (transfer_of d.access) m.issuer m.number m.cell (effects start past) d.part
    (is_due start (transfer_of d.access) m.issuer m.number m.cell (effects start past) d.part d.is_due)

has_part : (start : Place → Value) (past : List Entry) (before after : List Message) (m : Message) (d : Due start past before after m) → HasPart d.part m.part
has_part start past before after m d =
    subst (HasPart d.part) (sym d.its_part)
    (due_has start (transfer_of d.access) m.issuer m.number m.cell (effects start past) d.part
    (is_due start (transfer_of d.access) m.issuer m.number m.cell (effects start past) d.part d.is_due))

delivered_effects : (start : Place → Value) (past : List Entry) (before after : List Message) (m : Message) (v : Value) (d : Due start past before after m)
    → effects start (Delivered m.issuer m.number m.cell v ∷ past) ≡ d.part ∷ effects start past
delivered_effects start past before after m v d =
    ap (λ o. and_effect (at_delivery start o m.issuer m.number m.cell (effects start past)) (effects start past)) d.issued
    ∙ ap (λ o. and_effect o (effects start past)) d.is_due

-- ---- what the message becomes

pub back_is : (m : Message) (v : Value) (p : Part) (to : Place) → back_of p ≡ Some to → back_from m v p ≡ record m { part = part.Write to v } ∷ []
back_is m v (part.Read from None) to e = cc
back_is m v (part.Read from (Some x)) to e = let same : x ≡ to = cc in ap (λ (y : Place). record m { part = part.Write y v } ∷ []) same
back_is m v (part.Write x w) to e = cc

pub back_none : (m : Message) (v : Value) (p : Part) → back_of p ≡ None → back_from m v p ≡ []
back_none m v (part.Read from None) e = refl
back_none m v (part.Read from (Some x)) e = cc
back_none m v (part.Write x w) e = refl

one_less : (m : Message) (v : Value) (p : Part) → deliveries_of p ≡ deliveries (back_from m v p) + 1
one_less m v (part.Read from None) = refl
one_less m v (part.Read from (Some x)) = refl
one_less m v (part.Write x w) = refl

back_ready : (layout : Arrangement) (sites : ℕ) (m : Message) (v : Value) (p : Part) → IsReady layout sites m → PartReady layout p
    → ((to : Place) → back_of p ≡ Some to → Fits layout to v) → Each (IsReady layout sites) (back_from m v p)
back_ready layout sites m v (part.Read from None) r q f = tt
back_ready layout sites m v (part.Read from (Some x)) r q f = (record { issuer_within = r.issuer_within; track = r.track; part = (q.1, f x refl) }, tt)
back_ready layout sites m v (part.Write x w) r q f = tt

-- ---- the books

in_middle : (of : ℕ → Bool) (on : Track → Bool) (before after : List Message) (m : Message)
    → flying_count of on (before ++ m ∷ after) ≡ flying_count of on (before ++ after) + one_if (of m.issuer && on m.track)
in_middle of on before after m =
    (let a = count_append of on before (m ∷ after) in let b = count_append of on before after in omega (arith, a, b))

one_more : (before after : List Message) (m : Message) → More m.issuer m.track 1 (before ++ after) (before ++ m ∷ after)
one_more before after m = record {
  counted = λ of on. in_middle of on before after m;
  long = (let a = length_both before (m ∷ after) in let b = length_both before after in omega (arith, a, b));
}

put_last : (of : ℕ → Bool) (on : Track → Bool) (before after : List Message) (m : Message) (what : Part)
    → flying_count of on ((before ++ after) ++ record m { part = what } ∷ []) ≡ flying_count of on (before ++ m ∷ after)
put_last of on before after m what =
    (let a = in_middle of on before after m in let b = count_append of on (before ++ after) (record m { part = what } ∷ []) in omega (arith, a, b))

long_last : (before after : List Message) (m k : Message) → length ((before ++ after) ++ k ∷ []) ≡ length (before ++ m ∷ after)
long_last before after m k =
    (let a = length_both before (m ∷ after) in let b = length_both before after in let c = length_both (before ++ after) (k ∷ []) in omega (arith, a, b, c))

counts_alike : (ms ms' : List Message) (book : Book) → Counts ms book → ((of : ℕ → Bool) (on : Track → Bool) → flying_count of on ms' ≡ flying_count of on ms) → length ms' ≡ length ms
    → Counts ms' book
counts_alike ms ms' book c same long = record {
  counters = λ node counter below known. c.counters node counter below known ∙ sym (same (λ other. other == node) (is_counter counter));
  stores = c.stores ∙ sym (same (λ other. true) is_store);
  covered = c.covered ∙ sym (same (λ other. true) is_covered);
  all = c.all ∙ sym long;
  lists = c.lists;
}

counts_after : (before after : List Message) (m : Message) (v : Value) (book book' : Book) (o : Option Place) → back_of m.part ≡ o → Counts (before ++ m ∷ after) book
    → m.issuer < length book.nodes → IsTrack book.sites m.track → book' ≡ book_after book m.issuer m.track o
    → all_outstanding book' + 1 ≡ all_outstanding book + length (back_from m v m.part)
    → Counts ((before ++ after) ++ back_from m v m.part) book'
counts_after before after m v book book' None none c within known is all =
    let no : back_from m v m.part ≡ [] = back_none m v m.part none in
    let total : all_outstanding book' + 1 ≡ all_outstanding book = (let l : length (back_from m v m.part) ≡ 0 = ap length no in omega (arith, all, l)) in
    subst (λ l. Counts l book') (none_more (before ++ after) ∙ ap (λ l. (before ++ after) ++ l) (sym no))
    (counts_less (before ++ m ∷ after) (before ++ after) book book' m.issuer m.track c (one_more before after m) within known is total)
counts_after before after m v book book' (Some to) some c within known is all =
    let one : back_from m v m.part ≡ record m { part = part.Write to v } ∷ [] = back_is m v m.part to some in
    subst (λ l. Counts ((before ++ after) ++ l) book') (sym one)
    (subst (λ (b : Book). Counts ((before ++ after) ++ record m { part = part.Write to v } ∷ []) b) (sym is)
    (counts_alike (before ++ m ∷ after) ((before ++ after) ++ record m { part = part.Write to v } ∷ []) book c
    (λ of on. put_last of on before after m (part.Write to v)) (long_last before after m (record m { part = part.Write to v }))))

rows_after : (book : Book) (node : ℕ) (track : Track) (o : Option Place) → length (book_after book node track o).nodes ≡ length book.nodes
rows_after book node track None = counted_rows book node track (outstanding_on book node track - 1)
rows_after book node track (Some to) = refl

pub sites_after : (book : Book) (node : ℕ) (track : Track) (o : Option Place) → (book_after book node track o).sites ≡ book.sites
sites_after book node track None = counted_sites book node track (outstanding_on book node track - 1)
sites_after book node track (Some to) = refl

stands_after : (past : List Entry) (book : Book) (node : ℕ) (track : Track) (o : Option Place) → node < length book.nodes → Stands past book → Stands past (book_after book node track o)
stands_after past book node track None within s = counted_stands past book node track (outstanding_on book node track - 1) within s
stands_after past book node track (Some to) within s = s

counted_at : (ms : List Message) (book : Book) (node : ℕ) (track : Track) (on : Track → Bool) → Counts ms book → node < length book.nodes → IsTrack book.sites track
    → ((of : ℕ → Bool) (on : Track → Bool) → of node ≡ true → on track ≡ true → 0 < flying_count of on ms) → 0 < outstanding_on book node track
counted_at ms book node (Counter d) on c within known some =
    (let s = some (λ other. other == node) (is_counter d) (eq-eqb node node refl) (eq-eqb d d refl) in let n = c.counters node d within known in omega (arith, s, n))
counted_at ms book node Store on c within known some = (let s = some (λ other. true) is_store refl refl in let n = c.stores in omega (arith, s, n))
counted_at ms book node Covered on c within known some = (let s = some (λ other. true) is_covered refl refl in let n = c.covered in omega (arith, s, n))

counts_one : (of : ℕ → Bool) (on : Track → Bool) (before after : List Message) (m : Message) → of m.issuer ≡ true → on m.track ≡ true → 0 < flying_count of on (before ++ m ∷ after)
counts_one of on before after m a b =
    (let c = in_middle of on before after m in
    let one : one_if (of m.issuer && on m.track) ≡ 1 = rw (a, b) refl in
    omega (arith, c, one))

pub some_outstanding : (state : State) (reads : Waiting) (nodes room : ℕ) (m : Message) (taken : Pool) → IsFabric state reads nodes room → Took state.pool m taken
    → 0 < outstanding_on state.book m.issuer m.track
some_outstanding state reads nodes room m taken h t =
    let r = ready_of state reads nodes room m taken h t in
    let c : Counts (t.before ++ m ∷ t.after) state.book = subst (λ ms. Counts ms state.book) (sym h.of_journal.messages ∙ t.was) h.of_journal.counts in
    counted_at (t.before ++ m ∷ t.after) state.book m.issuer m.track is_store c (subst (λ n. m.issuer < n) (sym h.of_journal.rows) r.issuer_within) r.track
    (λ of on a b. counts_one of on t.before t.after m a b)

track_in_book : (book : Book) (track : Track) → IsTrack book.sites track → IsTrackOf book track
track_in_book book (Counter d) known = known
track_in_book book Store known = tt
track_in_book book Covered known = tt

pub track_known : (state : State) (reads : Waiting) (nodes room : ℕ) (m : Message) (taken : Pool) → IsFabric state reads nodes room → Took state.pool m taken → IsTrackOf state.book m.track
track_known state reads nodes room m taken h t = track_in_book state.book m.track (ready_of state reads nodes room m taken h t).track

pub issuer_known : (state : State) (reads : Waiting) (nodes room : ℕ) (m : Message) (taken : Pool) → IsFabric state reads nodes room → Took state.pool m taken → m.issuer < length state.book.nodes
issuer_known state reads nodes room m taken h t = subst (λ n. m.issuer < n) (sym h.of_journal.rows) (ready_of state reads nodes room m taken h t).issuer_within

-- ---- room

one_taken : (state : State) (m : Message) (taken : Pool) (t : Took state.pool m taken) → length (messages_of state.pool) ≡ length t.before + length t.after + 1
one_taken state m taken t = (let a = length_both t.before (m ∷ t.after) in let b : length (messages_of state.pool) ≡ length (t.before ++ m ∷ t.after) = ap length t.was in omega (arith, a, b))

pub entry_room : (state : State) (reads : Waiting) (nodes room : ℕ) (m : Message) (taken : Pool) → IsFabric state reads nodes room → Took state.pool m taken → 0 < room
entry_room state reads nodes room m taken h t =
    (let e = h.entries_fit in let d = some_deliveries (messages_of state.pool) in let o = one_taken state m taken t in omega (arith, e, d, o))

to_placed : (layout : Arrangement) (p : Part) (to : Place) → back_of p ≡ Some to → PartReady layout p → IsPlace layout to
to_placed layout (part.Read from None) to e q = cc
to_placed layout (part.Read from (Some x)) to e q = let same : x ≡ to = cc in subst (IsPlace layout) same q.1
to_placed layout (part.Write x w) to e q = cc

pub sendable_back : (state : State) (reads : Waiting) (nodes room : ℕ) (m : Message) (taken : Pool) (v : Value) (to : Place) → IsFabric state reads nodes room → Took state.pool m taken
    → length state.past + room + 1 < 2 ^ 64 → back_of m.part ≡ Some to → IsSendable taken (record m { part = part.Write to v })
sendable_back state reads nodes room m taken v to h t short is =
    let r = ready_of state reads nodes room m taken h t in
    record {
      spare = (let s = t.spare in omega (arith, s));
      puts = (let f = h.few_puts in let d = some_deliveries (messages_of state.pool) in let e = h.entries_fit in let p = t.puts in omega (arith, f, d, e, p, short));
      issuer = subst (λ n. m.issuer < n) (sym (t.nodes ∙ h.of_journal.pool_nodes)) r.issuer_within;
      target = subst (λ n. to.node < n) (sym (t.nodes ∙ h.of_journal.pool_nodes)) (to_placed state.memory.layout m.part to is r.part).node;
    }

-- ---- the reads that waits will answer

access_turned : (p n q k : ℕ) → same_access p n q k ≡ false → same_access q k p n ≡ false
access_turned p n q k f =
    decide_on (same_access q k p n)
    (λ t. let s = accesses_are_one q k p n t in
    let x : true ≡ false = sym (rw (eq-eqb p q (sym s.0)) (eq-eqb n k (sym s.1))) ∙ f in cc)
    (λ g. g)

-- what is known of a message that carries a read's part
record OwnRead (m : Message) (e : Effect) : Type 0 where
  pub first : m.cell ≡ 0
  pub reads : e.wrote ≡ false
  pub ends : ends_read m.part ≡ true

read_due : (start : Place → Value) (m : Message) (place : Place) (earlier : List Effect) (e : Effect) → IsDue start (taking place) m.issuer m.number m.cell earlier e → m.cell < 1
    → m.part ≡ part_of (taking place) m.cell e → OwnRead m e
read_due start m place earlier e (IsRead from p none is) lt carried = record {
  first = omega arith;
  reads = ap (λ (x : Effect). x.wrote) is;
  ends = ap ends_read carried ∙ ap (λ (x : Effect). ends_read (part_of (taking place) m.cell x)) is
      ∙ ap (λ b. ends_read (part.Read from (if b then cell_past m.cell None else None))) (lt-ltb m.cell 1 lt);
}
read_due start m place earlier e (IsWrite to value p none w first is) lt carried =
    let x : None ≡ Some to = sym (ap (λ b. if b then cell_past m.cell None else None) (lt-ltb m.cell 1 lt)) ∙ p in cc

own_read : (start : Place → Value) (past : List Entry) (before after : List Message) (m : Message) (place : Place) (track : Track) (d : Due start past before after m)
    → d.access ≡ Read place track → OwnRead m d.part
own_read start past before after m place track d is =
    let due_is : due start (taking place) m.issuer m.number m.cell (effects start past) ≡ Some d.part =
    subst (λ (a : Access). due start (transfer_of a) m.issuer m.number m.cell (effects start past) ≡ Some d.part) is d.is_due in
    let carried : m.part ≡ part_of (taking place) m.cell d.part = subst (λ (a : Access). m.part ≡ part_of (transfer_of a) m.cell d.part) is d.its_part in
    decide_lt m.cell 1
    (λ lt. read_due start m place (effects start past) d.part (is_due start (taking place) m.issuer m.number m.cell (effects start past) d.part due_is) lt carried)
    (λ ge. let x : None ≡ Some d.part = sym (due_past start (taking place) m.issuer m.number m.cell (effects start past) ge) ∙ due_is in cc)

-- the read is the message's own
own_of : (start : Place → Value) (past : List Entry) (before after : List Message) (m : Message) (r : Awaited) (d : Due start past before after m) → IsReadOf past (effects start past) r
    → same_access m.issuer m.number r.node r.number ≡ true → OwnRead m d.part
own_of start past before after m r d i t =
    let s = accesses_are_one m.issuer m.number r.node r.number t in
    let at : access_at m.issuer m.number past ≡ Some (Read i.place (Counter r.counter)) =
    subst (λ x. access_at x m.number past ≡ Some (Read i.place (Counter r.counter))) (sym s.0)
    (subst (λ x. access_at r.node x past ≡ Some (Read i.place (Counter r.counter))) (sym s.1) i.issued) in
    own_read start past before after m i.place (Counter r.counter) d
    (let both : Some d.access ≡ Some (Read i.place (Counter r.counter)) = sym d.issued ∙ at in some_same d.access (Read i.place (Counter r.counter)) both)
  where
    some_same : (a b : Access) → Some a ≡ Some b → a ≡ b
    some_same a b e = cc

-- a read of another access keeps what it has
read_apart : (start : Place → Value) (past : List Entry) (before after : List Message) (m : Message) (v : Value) (r : Awaited) (d : Due start past before after m)
    → IsReadOf past (effects start past) r → same_access m.issuer m.number r.node r.number ≡ false
    → IsReadOf (Delivered m.issuer m.number m.cell v ∷ past) (d.part ∷ effects start past) r
read_apart start past before after m v r d i f = record {
  place = i.place;
  issued = i.issued;
  value = i.value ∙ ap or_zero (sym ((due_same start (transfer_of d.access) m.issuer m.number m.cell r.node r.number 0 (effects start past) d.part d.is_due
      (access_apart m.issuer m.number m.cell r.node r.number 0 f)).same false));
}

-- the message's own read has the value
read_filled : (start : Place → Value) (past : List Entry) (before after : List Message) (m : Message) (v : Value) (r : Awaited) (d : Due start past before after m) → v ≡ d.part.value
    → IsReadOf past (effects start past) r → same_access m.issuer m.number r.node r.number ≡ true → OwnRead m d.part
    → IsReadOf (Delivered m.issuer m.number m.cell v ∷ past) (d.part ∷ effects start past) (record r { value = v })
read_filled start past before after m v r d is i t own =
    let s = accesses_are_one m.issuer m.number r.node r.number t in
    let of : IsOf m.issuer m.number m.cell d.part = due_of start (transfer_of d.access) m.issuer m.number m.cell (effects start past) d.part
    (is_due start (transfer_of d.access) m.issuer m.number m.cell (effects start past) d.part d.is_due) in
    let its : IsOf r.node r.number 0 d.part = record { its_node = of.its_node ∙ s.0; its_number = of.its_number ∙ s.1; its_cell = of.its_cell ∙ own.first } in
    record {
      place = i.place;
      issued = i.issued;
      value = is ∙ sym (ap or_zero (value_of r.node r.number 0 false d.part (effects start past) its own.reads));
    }

each_filled : (start : Place → Value) (past : List Entry) (before after : List Message) (m : Message) (v : Value) (rs : List Awaited) (d : Due start past before after m) → v ≡ d.part.value
    → Each (IsReadOf past (effects start past)) rs
    → Each (IsReadOf (Delivered m.issuer m.number m.cell v ∷ past) (d.part ∷ effects start past)) (map (filled m.issuer m.number v) rs)
each_filled start past before after m v [] d is a = tt
each_filled start past before after m v (r ∷ rs) d is a = (
  decide_on (same_access m.issuer m.number r.node r.number)
      (λ t. let s = accesses_are_one m.issuer m.number r.node r.number t in
      let same : same_access r.node r.number m.issuer m.number ≡ true = rw (eq-eqb r.node m.issuer (sym s.0)) (eq-eqb r.number m.number (sym s.1)) in
      subst (IsReadOf (Delivered m.issuer m.number m.cell v ∷ past) (d.part ∷ effects start past)) (sym (ap (λ b. if b then record r { value = v } else r) same))
      (read_filled start past before after m v r d is a.0 t (own_of start past before after m r d a.0 t)))
      (λ f. subst (IsReadOf (Delivered m.issuer m.number m.cell v ∷ past) (d.part ∷ effects start past))
      (sym (ap (λ b. if b then record r { value = v } else r) (access_turned m.issuer m.number r.node r.number f)))
      (read_apart start past before after m v r d a.0 f)),
  each_filled start past before after m v rs d is a.1,
)

each_kept : (start : Place → Value) (past : List Entry) (before after : List Message) (m : Message) (v : Value) (rs : List Awaited) (d : Due start past before after m) → ends_read m.part ≡ false
    → Each (IsReadOf past (effects start past)) rs
    → Each (IsReadOf (Delivered m.issuer m.number m.cell v ∷ past) (d.part ∷ effects start past)) rs
each_kept start past before after m v [] d other a = tt
each_kept start past before after m v (r ∷ rs) d other a = (
  decide_on (same_access m.issuer m.number r.node r.number)
      (λ t. let own = own_of start past before after m r d a.0 t in absurd (let x : true ≡ false = sym own.ends ∙ other in cc))
      (λ f. read_apart start past before after m v r d a.0 f),
  each_kept start past before after m v rs d other a.1,
)

awaited_after : (start : Place → Value) (past : List Entry) (before after : List Message) (m : Message) (v : Value) (rs : List Awaited) (d : Due start past before after m) → v ≡ d.part.value
    → AreAwaited start past rs → AreAwaited start (Delivered m.issuer m.number m.cell v ∷ past) (reads_after m v rs)
awaited_after start past before after m v rs d is a =
    let after_it : effects start (Delivered m.issuer m.number m.cell v ∷ past) ≡ d.part ∷ effects start past = delivered_effects start past before after m v d in
    decide_on (ends_read m.part)
    (λ t. subst (AreAwaited start (Delivered m.issuer m.number m.cell v ∷ past)) (sym (ap (λ b. if b then map (filled m.issuer m.number v) rs else rs) t))
    (record {
      numbers = λ node counter. filled_on node counter m.issuer m.number v rs ∙ a.numbers node counter;
      each = subst (λ l. Each (IsReadOf (Delivered m.issuer m.number m.cell v ∷ past) l) (map (filled m.issuer m.number v) rs)) (sym after_it)
          (each_filled start past before after m v rs d is a.each);
    }))
    (λ f. subst (AreAwaited start (Delivered m.issuer m.number m.cell v ∷ past)) (sym (ap (λ b. if b then map (filled m.issuer m.number v) rs else rs) f))
    (record {
      numbers = a.numbers;
      each = subst (λ l. Each (IsReadOf (Delivered m.issuer m.number m.cell v ∷ past) l) rs) (sym after_it) (each_kept start past before after m v rs d f a.each);
    }))

-- ---- the delivery

pub deliver_kept : (state : State) (reads reads' : Waiting) (log log' : Log) (m : Message) (taken pool : Pool) (memory : Memory) (book : Book) (v : Value)
    → IsFabric state reads log.nodes log.room → Took state.pool m taken
    → memory.layout ≡ state.memory.layout
    → v ≡ value_in (start_of state) (effects (start_of state) state.past) m.part
    → ((e : Effect) → HasPart e m.part → HoldsAfter memory (e ∷ effects (start_of state) state.past))
    → ((to : Place) → back_of m.part ≡ Some to → Fits state.memory.layout to v)
    → messages_of pool ≡ messages_of taken ++ back_from m v m.part
    → pool.spare + length (back_from m v m.part) ≡ taken.spare
    → pool.puts ≡ taken.puts + length (back_from m v m.part)
    → pool.nodes ≡ taken.nodes
    → book ≡ book_after state.book m.issuer m.track (back_of m.part)
    → all_outstanding book + 1 ≡ all_outstanding state.book + length (back_from m v m.part)
    → reads'.reads ≡ reads_after m v reads.reads → reads'.spare ≡ reads.spare
    → log'.nodes ≡ log.nodes → log'.room + 1 ≡ log.room
    → IsFabric (record { memory = memory; pool = pool; book = book; past = Delivered m.issuer m.number m.cell v ∷ state.past; spare = state.spare }) reads' log'.nodes log'.room
deliver_kept state reads reads' log log' m taken pool memory book v h t same is holds fits messages spare puts nodes books total filled_in room_reads log_nodes room =
    let j = h.of_journal in
    let s : Place → Value = start_of state in
    let entry : Entry = Delivered m.issuer m.number m.cell v in
    let back : List Message = back_from m v m.part in
    let ready : IsReady state.memory.layout state.book.sites m = ready_of state reads log.nodes log.room m taken h t in
    let within : m.issuer < length state.book.nodes = issuer_known state reads log.nodes log.room m taken h t in
    let d : Due s state.past t.before t.after m = due_message state reads log.nodes log.room m taken h t in
    let value : v ≡ d.part.value = is ∙ its_value s state.past t.before t.after m d in
    let now : effects s (entry ∷ state.past) ≡ d.part ∷ effects s state.past = delivered_effects s state.past t.before t.after m v d in
    let flight : in_flight s (entry ∷ state.past) ≡ (t.before ++ t.after) ++ back = flight_after s state.past t.before t.after m v d (sym j.messages ∙ t.was) in
    let left : messages_of pool ≡ (t.before ++ t.after) ++ back = messages ∙ ap (λ l. l ++ back) t.is in
    let wired : DeliveryWired s (nodes_of state) state.past m.issuer m.number m.cell v =
    record { node_within = ready.issuer_within; access = d.access; issued = d.issued; part = d.part; is_due = d.is_due; its_value = value } in
    let held_now : HoldsIn memory (λ place. held (start_in memory.layout) place (effects s (entry ∷ state.past))) =
    subst (λ l. HoldsAfter memory l) (sym now) (holds d.part (has_part s state.past t.before t.after m d)) in
    let held_on : HoldsIn memory (λ place. held s place (effects s (entry ∷ state.past))) =
    subst (λ (l : Arrangement). HoldsIn memory (λ place. held (start_in l) place (effects s (entry ∷ state.past)))) same held_now in
    let counts : Counts ((t.before ++ t.after) ++ back) book =
    counts_after t.before t.after m v state.book book (back_of m.part) refl (subst (λ ms. Counts ms state.book) (sym j.messages ∙ t.was) j.counts) within ready.track books total in
    let stood : Stands state.past book = subst (λ (b : Book). Stands state.past b) (sym books) (stands_after state.past state.book m.issuer m.track (back_of m.part) within j.stands) in
    let rows : length book.nodes ≡ length state.book.nodes = ap (λ (b : Book). length b.nodes) books ∙ rows_after state.book m.issuer m.track (back_of m.part) in
    let sites : book.sites ≡ state.book.sites = ap (λ (b : Book). b.sites) books ∙ sites_after state.book m.issuer m.track (back_of m.part) in
    let all_ready : Each (IsReady state.memory.layout state.book.sites) (messages_of pool) =
    subst (Each (IsReady state.memory.layout state.book.sites)) (sym left)
    (each-append (IsReady state.memory.layout state.book.sites) (t.before ++ t.after) back
    (each-without (IsReady state.memory.layout state.book.sites) t.before m t.after (subst (Each (IsReady state.memory.layout state.book.sites)) t.was h.ready))
    (back_ready state.memory.layout state.book.sites m v m.part ready ready.part fits)) in
    let waiting : AreAwaited s (entry ∷ state.past) reads'.reads =
    subst (AreAwaited s (entry ∷ state.past)) (sym filled_in) (awaited_after s state.past t.before t.after m v reads.reads d value h.awaited_are) in
    let was_long : length (messages_of state.pool) ≡ length t.before + length t.after + 1 = one_taken state m taken t in
    let is_long : length (messages_of pool) ≡ length t.before + length t.after + length back =
    (let a : length (messages_of pool) ≡ length ((t.before ++ t.after) ++ back) = ap length left in let b = length_both (t.before ++ t.after) back in let c = length_both t.before t.after in omega (arith, a, b, c)) in
    let fewer : deliveries (messages_of pool) + 1 ≡ deliveries (messages_of state.pool) =
    (let a : deliveries (messages_of pool) ≡ deliveries ((t.before ++ t.after) ++ back) = ap deliveries left in
    let b = deliveries_both (t.before ++ t.after) back in
    let c = deliveries_both t.before t.after in
    let e : deliveries (messages_of state.pool) ≡ deliveries (t.before ++ m ∷ t.after) = ap deliveries t.was in
    let f = deliveries_both t.before (m ∷ t.after) in
    let g : deliveries_of m.part ≡ deliveries back + 1 = one_less m v m.part in
    omega (arith, a, b, c, e, f, g)) in
    record {
      of_journal = record {
        wired = subst (λ (l : Arrangement). Wired (start_in l) l.nodes (entry ∷ state.past)) (sym same) (wired, j.wired);
        memory = subst (λ (l : Arrangement). HoldsIn memory (λ place. held (start_in l) place (effects (start_in l) (entry ∷ state.past)))) (sym same) held_on;
        messages = subst (λ (l : Arrangement). messages_of pool ≡ in_flight (start_in l) (entry ∷ state.past)) (sym same) (left ∙ sym flight);
        counts = subst (λ (l : Arrangement). Counts (in_flight (start_in l) (entry ∷ state.past)) book) (sym same) (subst (λ ms. Counts ms book) (sym flight) counts);
        stands = record { standing = stood.standing; ended = stood.ended };
        rows = rows ∙ j.rows ∙ ap (λ (l : Arrangement). l.nodes) (sym same);
        pool_nodes = nodes ∙ t.nodes ∙ j.pool_nodes ∙ ap (λ (l : Arrangement). l.nodes) (sym same);
      };
      ready = subst (λ (l : Arrangement). Each (IsReady l book.sites) (messages_of pool)) (sym same) (subst (λ k. Each (IsReady state.memory.layout k) (messages_of pool)) (sym sites) all_ready);
      awaited_are = subst (λ (l : Arrangement). AreAwaited (start_in l) (entry ∷ state.past) reads'.reads) (sym same) waiting;
      log_nodes = log_nodes ∙ h.log_nodes ∙ ap (λ (l : Arrangement). l.nodes) (sym same);
      entries_fit = (let f = h.entries_fit in omega (arith, f, fewer, room));
      puts_fit = (let f = h.puts_fit in let u = t.spare in let k = few_back m v m.part in omega (arith, f, u, spare, k));
      reads_fit = (let f = h.reads_fit in omega (arith, f, room_reads));
      few_puts = (let f = h.few_puts in let u = t.puts in omega (arith, f, u, puts, was_long, is_long));
    }
  where
    few_back : (m : Message) (v : Value) (p : Part) → length (back_from m v p) ≤ 1
    few_back m v (part.Read from None) = omega arith
    few_back m v (part.Read from (Some x)) = omega arith
    few_back m v (part.Write x w) = omega arith
