-- What a fabric keeps stays through each call that moves no cell.
use Rattle.std.proofs.Common.{◌≡◌, inl, inr, ⊎_elim, ℕ, zero, suc, ◌+◌, ◌*◌, ◌-◌, map, ◌<◌, ◌≤◌, List, [], ◌∷◌, length, Some, None, Bool, true, false, not, refl, sym, ap, ◌∙◌, subst, arith}
use Rattle.std.specs.Prelude.{is_some, slice_index_or, cond}
use Rattle.std.specs.List.{list_any, list_all, position, position_or_len}
use Rattle.std.proofs.lemmas.Bool.{and_from, or_left, or_right, lt-ltb}
use Rattle.std.proofs.lemmas.List.Folds.{list_any_at}
use Rattle.sc_base.specs.declared.value.Value.{Value}
use Rattle.sc_base.specs.declared.value.Place.{Place}
use Rattle.sc_base.specs.declared.value.End.{End}
use Rattle.sc_base.specs.declared.value.End.TheVariants.{Ended, Fault, Cut, Waiting as GaveUp}
use Rattle.sc_isa.specs.declared.journal.Entry.{Entry}
use Rattle.sc_isa.specs.declared.journal.Entry.TheVariants.{Arrived as Arrives, Passed, Finished}
use Rattle.sync_book.specs.declared.standing.Standing.TheVariants.{Away, Arrived, Released}
use Rattle.sync_book.specs.Book.{NodeBook, fresh_node, node_at, with_node, after_release, is_arrived, CanRelease, MayFinish, stands, is_settled}
use Rattle.fabric.specs.Wired.{Running, Going, StandsNext, IsBroken, EntryWired}
use Rattle.fabric.specs.Books.{standing_of}
use Rattle.fabric.specs.Reads.{Waiting}
use Rattle.fabric.specs.Log.{Log}
use Rattle.msg_pool.specs.declared.message.Message.{Message}
use Rattle.msg_pool.specs.declared.message.Part.{Part}
use Rattle.msg_pool.specs.declared.message.Part.TheVariants as part
use Rattle.msg_pool.specs.Pool.{Pending}
use Rattle.fabric.specs.State.{State, messages_of, start_of, nodes_of}
use Rattle.fabric.specs.Kept.{IsOfJournal, AreAwaited, IsFabric, deliveries, deliveries_of}
use Rattle.fabric.proofs.Barrier.{stand}
use Rattle.fabric.proofs.BookSteps.{is_away, is_waiting, arrives, finishes, leaves, releases, length_map}
use Rattle.fabric.proofs.Gaps.{all_next, pass_first, pass_later}
use Rattle.fabric.proofs.Quiet.{with_row, released_rows, then_same, Quiet, kept_quiet, waiting_quiet}

le_same : (n : ℕ) → n ≤ n
le_same n = omega arith

-- ---- a node in the books

pub in_book : (state : State) (node : ℕ) → IsOfJournal state → node < nodes_of state → node < length state.book.nodes
in_book state node h below = subst (λ n. node < n) (sym h.rows) below

pub runs_in_book : (state : State) (node : ℕ) → IsOfJournal state → Running (nodes_of state) state.past node → (node_at state.book node).finished ≡ false
runs_in_book state node h r = h.stands.ended node (in_book state node h r.node_within) ∙ ap is_some r.not_finished

pub away_in_book : (state : State) (node : ℕ) → IsOfJournal state → Going (nodes_of state) state.past node → (node_at state.book node).standing ≡ Away
away_in_book state node h g = h.stands.standing node (in_book state node h g.running.node_within) ∙ is_away node state.past g.at_no_barrier

pub stands_in_book : (state : State) (node : ℕ) → IsOfJournal state → node < nodes_of state → (node_at state.book node).standing ≡ standing_of node state.past
stands_in_book state node h below = h.stands.standing node (in_book state node h below)

-- ---- arrivals

pub arrive_kept : (state : State) (reads : Waiting) (log log' : Log) (node : ℕ) (s : Bool) → IsFabric state reads log.nodes log.room → Going (nodes_of state) state.past node → 0 < state.spare
    → log'.nodes ≡ log.nodes → log'.room + 1 ≡ log.room
    → IsFabric (record state { book = with_node state.book node (record (node_at state.book node) { standing = Arrived s }); past = Arrives node s ∷ state.past; spare = state.spare - 1 }) reads log'.nodes log'.room
arrive_kept state reads log log' node s h g some nodes room =
    let j = h.of_journal in
    let quiet : Quiet (start_of state) state.past (Arrives node s) = record { effects_same = refl; flight_same = refl; access_same = λ n k. refl } in
    kept_quiet state reads reads log log' (Arrives node s) (with_node state.book node (record (node_at state.book node) { standing = Arrived s })) h g quiet
    (arrives (start_of state) (nodes_of state) state.past state.book node s j.wired j.rows g j.stands)
    (with_row state.book node (record (node_at state.book node) { standing = Arrived s }) (in_book state node j g.running.node_within) refl)
    some nodes room
    (waiting_quiet (start_of state) state.past (Arrives node s) reads.reads quiet (λ n c. refl) h.awaited_are) (le_same reads.spare)

-- ---- passes

pub leave_kept : (state : State) (reads : Waiting) (log log' : Log) (node : ℕ) → IsFabric state reads log.nodes log.room → Running (nodes_of state) state.past node
    → (node_at state.book node).standing ≡ Released → 0 < state.spare → log'.nodes ≡ log.nodes → log'.room + 1 ≡ log.room
    → IsFabric (record state { book = with_node state.book node (record (node_at state.book node) { standing = Away }); past = Passed node ∷ state.past; spare = state.spare - 1 }) reads log'.nodes log'.room
leave_kept state reads log log' node h r st some nodes room =
    let j = h.of_journal in
    let at : standing_of node state.past ≡ Released = sym (stands_in_book state node j r.node_within) ∙ st in
    let quiet : Quiet (start_of state) state.past (Passed node) = record { effects_same = refl; flight_same = refl; access_same = λ n k. refl } in
    kept_quiet state reads reads log log' (Passed node) (with_node state.book node (record (node_at state.book node) { standing = Away })) h
    (pass_later (start_of state) (nodes_of state) state.past node j.wired r at) quiet
    (leaves (start_of state) (nodes_of state) state.past state.book node j.wired j.rows r.node_within at j.stands)
    (with_row state.book node (record (node_at state.book node) { standing = Away }) (in_book state node j r.node_within) refl)
    some nodes room
    (waiting_quiet (start_of state) state.past (Passed node) reads.reads quiet (λ n c. refl) h.awaited_are) (le_same reads.spare)

pub release_kept : (state : State) (reads : Waiting) (log log' : Log) (node : ℕ) → IsFabric state reads log.nodes log.room → Running (nodes_of state) state.past node
    → CanRelease state.book → 0 < state.spare → log'.nodes ≡ log.nodes → log'.room + 1 ≡ log.room
    → IsFabric (record state { book = with_node (after_release state.book) node (record (node_at (after_release state.book) node) { standing = Away }); past = Passed node ∷ state.past; spare = state.spare - 1 }) reads log'.nodes log'.room
release_kept state reads log log' node h r c some nodes room =
    let j = h.of_journal in
    let quiet : Quiet (start_of state) state.past (Passed node) = record { effects_same = refl; flight_same = refl; access_same = λ n k. refl } in
    kept_quiet state reads reads log log' (Passed node) (with_node (after_release state.book) node (record (node_at (after_release state.book) node) { standing = Away })) h
    (pass_first (start_of state) (nodes_of state) state.past state.book node j.wired j.rows r j.stands j.counts c) quiet
    (releases (start_of state) (nodes_of state) state.past state.book node j.wired j.rows r.node_within
    (λ other below. all_next state.past state.book j.stands c other (in_book state other j below)) j.stands)
    (then_same state.book (after_release state.book) (with_node (after_release state.book) node (record (node_at (after_release state.book) node) { standing = Away }))
    (released_rows state.book)
    (with_row (after_release state.book) node (record (node_at (after_release state.book) node) { standing = Away }) (released_in state node j r.node_within) refl))
    some nodes room
    (waiting_quiet (start_of state) state.past (Passed node) reads.reads quiet (λ n c. refl) h.awaited_are) (le_same reads.spare)
  where
    released_in : (state : State) (node : ℕ) → IsOfJournal state → node < nodes_of state → node < length (after_release state.book).nodes
    released_in state node j below = subst (λ n. node < n) (sym (length_map _ state.book.nodes)) (in_book state node j below)

-- ---- ends

pub finish_kept : (state : State) (reads : Waiting) (log log' : Log) (node : ℕ) (end : End) → IsFabric state reads log.nodes log.room
    → EntryWired (start_of state) (nodes_of state) state.past (Finished node end) → node < nodes_of state → 0 < state.spare → log'.nodes ≡ log.nodes → log'.room + 1 ≡ log.room
    → IsFabric (record state { book = with_node state.book node (record (node_at state.book node) { finished = true }); past = Finished node end ∷ state.past; spare = state.spare - 1 }) reads log'.nodes log'.room
finish_kept state reads log log' node end h w below some nodes room =
    let j = h.of_journal in
    let quiet : Quiet (start_of state) state.past (Finished node end) = record { effects_same = refl; flight_same = refl; access_same = λ n k. refl } in
    kept_quiet state reads reads log log' (Finished node end) (with_node state.book node (record (node_at state.book node) { finished = true })) h w quiet
    (finishes state.past state.book node end (in_book state node j below) j.stands)
    (with_row state.book node (record (node_at state.book node) { finished = true }) (in_book state node j below) refl)
    some nodes room
    (waiting_quiet (start_of state) state.past (Finished node end) reads.reads quiet (λ n c. refl) h.awaited_are) (le_same reads.spare)

-- there is room for an entry
pub log_room : (state : State) (reads : Waiting) (log : Log) → IsFabric state reads log.nodes log.room → 0 < state.spare → 0 < log.room
log_room state reads log h some = let f = h.entries_fit in omega (arith, f, some)

-- ---- a node that may finish

pub ends_within : (start : Place → Value) (nodes : ℕ) (past : List Entry) (node : ℕ) (end : End) → EntryWired start nodes past (Finished node end) → node < nodes
ends_within start nodes past node Ended w = w.running.node_within
ends_within start nodes past node (Fault kind line) w = w.running.node_within
ends_within start nodes past node Cut w = w.running.node_within
ends_within start nodes past node GaveUp w = w.running.node_within

all_rows : (rows : List NodeBook) (d : NodeBook) (p : NodeBook → Bool) → ((i : ℕ) → i < length rows → p (slice_index_or rows i d) ≡ true) → list_all p rows ≡ true
all_rows [] d p f = refl
all_rows (x ∷ xs) d p f = and_from (p x) (list_all p xs) (f 0 (omega arith)) (all_rows xs d p (λ i below. f (suc i) (omega arith)))

first_one : (rows : List NodeBook) (d : NodeBook) (p : NodeBook → Bool) (i : ℕ) → i < length rows → p (slice_index_or rows i d) ≡ true → position_or_len p rows < length rows
first_one [] d p i below h = absurd (omega arith)
first_one (x ∷ xs) d p zero below h = rw h (omega arith)
first_one (x ∷ xs) d p (suc i) below h = by_test (p x) (first_one xs d p i (omega arith) h)
  where
    by_test : (t : Bool) → position_or_len p xs < length xs → cond (not t) (1 + position_or_len p xs) 0 < suc (length xs)
    by_test true e = omega arith
    by_test false e = omega (arith, e)

has_one : (rows : List NodeBook) (d : NodeBook) (p : NodeBook → Bool) (i : ℕ) → i < length rows → p (slice_index_or rows i d) ≡ true → is_some (position p rows) ≡ true
has_one rows d p i below h = rw (lt-ltb (position_or_len p rows) (length rows) (first_one rows d p i below h)) refl

next_in_book : (state : State) (node : ℕ) → IsOfJournal state → node < nodes_of state → StandsNext state.past node → is_arrived (node_at state.book node).standing ≡ true
next_in_book state node j below s =
    let t = stand (start_of state) (nodes_of state) state.past j.wired node below in
    ap is_arrived (stands_in_book state node j below ∙ is_waiting node state.past (λ e. absurd (omega (arith, e, s, t.passed_below))) (omega (arith, s)))

broken_in_book : (state : State) (node : ℕ) → IsOfJournal state → Running (nodes_of state) state.past node → IsBroken (nodes_of state) state.past node → MayFinish state.book node
broken_in_book state node j r b = record {
  running = runs_in_book state node j r;
  free = inr (stands_now, rw (and_from (list_any stands state.book.nodes) (list_all is_settled state.book.nodes) any_stands all_settled) gone);
}
  where
    d : NodeBook
    d = fresh_node state.book.sites

    stands_now : stands (node_at state.book node) ≡ true
    stands_now = and_from (is_arrived (node_at state.book node).standing) (not (node_at state.book node).finished)
        (next_in_book state node j r.node_within b.stands) (ap not (runs_in_book state node j r))

    any_stands : list_any stands state.book.nodes ≡ true
    any_stands = list_any_at stands state.book.nodes node (fresh_node state.book.sites) (in_book state node j r.node_within) stands_now

    settled : (i : ℕ) → i < length state.book.nodes → is_settled (node_at state.book i) ≡ true
    settled i below =
        let within : i < nodes_of state = subst (λ n. i < n) j.rows below in
        ⊎_elim (λ s. or_left (is_arrived (node_at state.book i).standing) (node_at state.book i).finished (next_in_book state i j within s))
        (λ g. or_right (is_arrived (node_at state.book i).standing) (node_at state.book i).finished (j.stands.ended i below ∙ g))
        (b.others i within)

    all_settled : list_all is_settled state.book.nodes ≡ true
    all_settled = all_rows state.book.nodes (fresh_node state.book.sites) is_settled settled

    gone : is_some (position (λ row. row.finished) state.book.nodes) ≡ true
    gone = has_one state.book.nodes (fresh_node state.book.sites) (λ row. row.finished) b.gone (in_book state b.gone j b.gone_within)
        (j.stands.ended b.gone (in_book state b.gone j b.gone_within) ∙ b.is_gone)

free_in_book : (state : State) (node : ℕ) → IsOfJournal state → Going (nodes_of state) state.past node → MayFinish state.book node
free_in_book state node j g = record { running = runs_in_book state node j g.running; free = inl (away_in_book state node j g) }

pub may_finish : (state : State) (node : ℕ) (end : End) → IsOfJournal state → EntryWired (start_of state) (nodes_of state) state.past (Finished node end) → MayFinish state.book node
may_finish state node Ended j w = free_in_book state node j w
may_finish state node (Fault kind line) j w = free_in_book state node j w
may_finish state node Cut j w = free_in_book state node j w
may_finish state node GaveUp j w = broken_in_book state node j w.running w.broken

-- ---- room

few_deliveries : (ms : List Message) → deliveries ms ≤ length ms * 2
few_deliveries [] = omega arith
few_deliveries (m ∷ ms) = (let d = at_most_two m.part in omega (arith, d, few_deliveries ms))
  where
    at_most_two : (p : Part) → deliveries_of p ≤ 2
    at_most_two (part.Read from None) = omega arith
    at_most_two (part.Read from (Some to)) = omega arith
    at_most_two (part.Write to value) = omega arith

pub count_messages : (ps : List Pending) → length (map (λ (p : Pending). p.message) ps) ≡ length ps
count_messages [] = refl
count_messages (p ∷ ps) = ap suc (count_messages ps)

-- more room is kept too
pub room_kept : (state : State) (reads reads' : Waiting) (nodes nodes' room room' spare pool_spare : ℕ) → IsFabric state reads nodes room
    → nodes' ≡ nodes → reads'.reads ≡ reads.reads → spare ≤ pool_spare → spare ≤ reads'.spare → spare + length state.pool.pending * 2 ≤ room'
    → IsFabric (record state { pool = record state.pool { spare = pool_spare }; spare = spare }) reads' nodes' room'
room_kept state reads reads' nodes nodes' room room' spare pool_spare h same_nodes same_reads pool_fits reads_fits fits = record {
  of_journal = record { wired = h.of_journal.wired; memory = h.of_journal.memory; messages = h.of_journal.messages; counts = h.of_journal.counts; stands = h.of_journal.stands; rows = h.of_journal.rows; pool_nodes = h.of_journal.pool_nodes };
  ready = h.ready;
  awaited_are = subst (λ rs. AreAwaited (start_of state) state.past rs) (sym same_reads) h.awaited_are;
  log_nodes = same_nodes ∙ h.log_nodes;
  entries_fit = (let d = few_deliveries (messages_of state.pool) in let c = count_messages state.pool.pending in omega (arith, d, c, fits));
  puts_fit = pool_fits;
  reads_fit = reads_fits;
  few_puts = h.few_puts;
}
