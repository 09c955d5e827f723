-- What a fabric keeps stays through an issue.
use Rattle.std.proofs.Common.{◌≡◌, ℕ, zero, suc, ◌+◌, ◌*◌, ◌-◌, ◌<◌, ◌≤◌, List, [], ◌∷◌, ◌++◌, length, Option, Some, None, refl, sym, ap, ◌∙◌, subst, arith}
use Rattle.sc_base.specs.declared.value.Value.{Value}
use Rattle.sc_base.specs.declared.value.Place.{Place}
use Rattle.effect_order.specs.Effect.{Effect, held}
use Rattle.effect_order.specs.Lists.{Each}
use Rattle.effect_order.specs.Transfer.{Transfer, further}
use Rattle.std.specs.Prelude.{slice_get, ◌^◌}
use Rattle.std.specs.Option.{option_map_or}
use Rattle.sc_layout.specs.Layout.{Arrangement, LaidObject, IsLayout, cells_of}
use Rattle.sc_layout.specs.Place.{IsPlace, extent_of}
use Rattle.sc_layout.proofs.Kept.{few_cells, cells-le-first}
use Rattle.sc_layout.specs.Start.{start as start_in}
use Rattle.sc_isa.specs.declared.access.Access.{Access}
use Rattle.sc_isa.specs.declared.access.Access.TheVariants.{Read, Write, Copy}
use Rattle.sc_isa.specs.declared.access.Track.{Track}
use Rattle.sc_isa.specs.declared.journal.Entry.{Entry}
use Rattle.sc_isa.specs.declared.journal.Entry.TheVariants.{Issued}
use Rattle.msg_pool.specs.declared.message.Message.{Message}
use Rattle.msg_pool.specs.declared.message.Part.{Part}
use Rattle.msg_pool.specs.declared.message.Part.TheVariants as part
use Rattle.msg_pool.specs.Pool.{Pool}
use Rattle.node_memory.specs.Memory.{Memory, Holds as HoldsIn}
use Rattle.sync_book.specs.Book.{Book, outstanding_on, with_outstanding, all_outstanding}
use Rattle.fabric.specs.Access.{transfer_of, track_of}
use Rattle.fabric.specs.Effects.{due, effects, issues}
use Rattle.fabric.specs.Flight.{carried, sent, in_flight}
use Rattle.fabric.specs.Wired.{Going, Wired}
use Rattle.fabric.specs.Books.{Counts, Stands}
use Rattle.fabric.specs.Reads.{Waiting}
use Rattle.fabric.specs.Log.{Log}
use Rattle.fabric.specs.State.{State, messages_of, start_of, nodes_of, IsTrack, IsPlaced, need_of}
use Rattle.fabric.specs.Kept.{IsReady, AreAwaited, IsFabric, deliveries, deliveries_of}
use Rattle.fabric.specs.Issuing.{HoldsAfter, CellsIssued, CanSendMany, AtMost}
use Rattle.fabric.proofs.Calls.{count_messages}
use Rattle.fabric.proofs.Sums.{AllOf, More, more_sent, counts_more}

-- ---- the messages of an issue

all_append : (node : ℕ) (track : Track) (xs ys : List Message) → AllOf node track xs → AllOf node track ys → AllOf node track (xs ++ ys)
all_append node track [] ys a b = b
all_append node track (x ∷ xs) ys a b = (a.0, all_append node track xs ys a.1 b)

all_carried : (t : Transfer) (node number cell : ℕ) (track : Track) (o : Option Effect) → AllOf node track (carried t node number cell track o)
all_carried t node number cell track None = tt
all_carried t node number cell track (Some e) = ((refl, refl), tt)

pub all_sent : (start : Place → Value) (t : Transfer) (node number : ℕ) (track : Track) (later : List Effect) (cells : ℕ) → AllOf node track (sent start t node number track later cells)
all_sent start t node number track later zero = tt
all_sent start t node number track later (suc c) =
    all_append node track (sent start t node number track later c) (carried t node number c track (due start t node number c later))
    (all_sent start t node number track later c) (all_carried t node number c track (due start t node number c later))

pub deliveries_both : (xs ys : List Message) → deliveries (xs ++ ys) ≡ deliveries xs + deliveries ys
deliveries_both [] ys = omega arith
deliveries_both (x ∷ xs) ys = omega (arith, deliveries_both xs ys)

at_most_two : (p : Part) → deliveries_of p ≤ 2
at_most_two (part.Read from None) = omega arith
at_most_two (part.Read from (Some to)) = omega arith
at_most_two (part.Write to value) = omega arith

few_deliveries : (ms : List Message) → deliveries ms ≤ length ms * 2
few_deliveries [] = omega arith
few_deliveries (m ∷ ms) = (let d = at_most_two m.part in omega (arith, d, few_deliveries ms))

pub length_both : (ms ns : List Message) → length (ms ++ ns) ≡ length ms + length ns
length_both [] ns = omega arith
length_both (m ∷ ms) ns = omega (arith, length_both ms ns)

-- ---- the issue

pub issue_kept : (state : State) (reads reads' : Waiting) (log log' : Log) (memory : Memory) (pool : Pool) (book : Book) (node number need cells : ℕ) (access : Access) → number ≡ issues node state.past
    → IsFabric state reads log.nodes log.room → Going (nodes_of state) state.past node → IsTrack state.book.sites (track_of access)
    → memory.layout ≡ state.memory.layout
    → CellsIssued node number (transfer_of access).cells access (effects (start_of state) state.past) state.memory memory state.pool pool
    → AtMost cells state.pool pool → 1 + 2 * cells ≤ need → 3 ≤ need → need ≤ state.spare
    → Each (IsReady state.memory.layout state.book.sites) (messages_of pool)
    → (added : ℕ) → added + length state.pool.pending ≡ length pool.pending
    → book ≡ with_outstanding state.book node (track_of access) (outstanding_on state.book node (track_of access) + added)
    → all_outstanding book ≡ all_outstanding state.book + added → length book.nodes ≡ length state.book.nodes → book.sites ≡ state.book.sites
    → Stands (Issued node number access ∷ state.past) book
    → AreAwaited (start_of state) (Issued node number access ∷ state.past) reads'.reads → reads.spare ≤ reads'.spare + 1
    → log'.nodes ≡ log.nodes → log'.room + 1 ≡ log.room
    → IsFabric (record { memory = memory; pool = pool; book = book; past = Issued node number access ∷ state.past; spare = state.spare - need }) reads' log'.nodes log'.room
issue_kept state reads reads' log log' memory pool book node number need cells access numbered h g known same issued few enough three fits ready added grown counted all rows sites stands waiting room_reads log_nodes room =
    let j = h.of_journal in
    let entry : Entry = Issued node number access in
    let s : Place → Value = start_of state in
    let new : List Message = sent s (transfer_of access) node number (track_of access) (effects s (entry ∷ state.past)) (transfer_of access).cells in
    let flight : messages_of pool ≡ in_flight s (entry ∷ state.past) = issued.messages ∙ ap (λ ms. ms ++ new) j.messages in
    let lengths : length (messages_of pool) ≡ length (messages_of state.pool) + length new = ap length issued.messages ∙ length_both (messages_of state.pool) new in
    let is_added : length new ≡ added = omega (arith, lengths, grown, count_messages pool.pending, count_messages state.pool.pending) in
    let more : More node (track_of access) added (in_flight s state.past) (in_flight s (entry ∷ state.past)) =
    subst (λ k. More node (track_of access) k (in_flight s state.past) (in_flight s (entry ∷ state.past))) is_added
    (more_sent node (track_of access) (in_flight s state.past) new
    (all_sent s (transfer_of access) node number (track_of access) (effects s (entry ∷ state.past)) (transfer_of access).cells)) in
    let counts : Counts (in_flight s (entry ∷ state.past)) book =
    counts_more (in_flight s state.past) (in_flight s (entry ∷ state.past)) state.book book node added (track_of access) j.counts more
    (subst (λ n. node < n) (sym j.rows) g.running.node_within) known counted all in
    let at_most : added ≤ cells = omega (arith, few.few, grown) in
    let some : deliveries (messages_of pool) ≤ deliveries (messages_of state.pool) + added * 2 =
    (let d = few_deliveries new in omega (arith, d, is_added, ap deliveries issued.messages ∙ deliveries_both (messages_of state.pool) new)) in
    record {
      of_journal = record {
        wired = subst (λ (l : Arrangement). Wired (start_in l) l.nodes (entry ∷ state.past)) (sym same) (record { going = g; numbered = numbered }, j.wired);
        memory = subst (λ (l : Arrangement). HoldsIn memory (λ place. held (start_in l) place (effects (start_in l) (entry ∷ state.past)))) (sym same) (holds_in issued.holds);
        messages = subst (λ (l : Arrangement). messages_of pool ≡ in_flight (start_in l) (entry ∷ state.past)) (sym same) flight;
        counts = subst (λ (l : Arrangement). Counts (in_flight (start_in l) (entry ∷ state.past)) book) (sym same) counts;
        stands = stands;
        rows = rows ∙ j.rows ∙ ap (λ (l : Arrangement). l.nodes) (sym same);
        pool_nodes = few.nodes ∙ j.pool_nodes ∙ ap (λ (l : Arrangement). l.nodes) (sym same);
      };
      ready = subst (λ (l : Arrangement). Each (IsReady l book.sites) (messages_of pool)) (sym same) (subst (λ k. Each (IsReady state.memory.layout k) (messages_of pool)) (sym sites) ready);
      awaited_are = subst (λ (l : Arrangement). AreAwaited (start_in l) (entry ∷ state.past) reads'.reads) (sym same) waiting;
      log_nodes = log_nodes ∙ h.log_nodes ∙ ap (λ (l : Arrangement). l.nodes) (sym same);
      entries_fit = (let f = h.entries_fit in omega (arith, f, some, at_most, enough, fits, room));
      puts_fit = (let f = h.puts_fit in omega (arith, f, few.spare, grown, at_most, enough, fits));
      reads_fit = (let f = h.reads_fit in omega (arith, f, room_reads, three, fits));
      few_puts = (let f = h.few_puts in omega (arith, f, few.puts, grown, count_messages pool.pending, count_messages state.pool.pending));
    }
  where
    holds_in : HoldsAfter memory (effects (start_of state) (Issued node number access ∷ state.past))
        → HoldsIn memory (λ place. held (start_of state) place (effects (start_of state) (Issued node number access ∷ state.past)))
    holds_in f = subst (λ (l : Arrangement). HoldsIn memory (λ place. held (start_in l) place (effects (start_of state) (Issued node number access ∷ state.past)))) same f

-- ---- what an issue asks

at_least_one : (p : Part) → 1 ≤ deliveries_of p
at_least_one (part.Read from None) = omega arith
at_least_one (part.Read from (Some to)) = omega arith
at_least_one (part.Write to value) = omega arith

pub some_deliveries : (ms : List Message) → length ms ≤ deliveries ms
some_deliveries [] = omega arith
some_deliveries (m ∷ ms) = (let d = at_least_one m.part in omega (arith, d, some_deliveries ms))

-- what an access needs is enough
pub record Enough (access : Access) : Type 0 where
  pub for_cells : 1 + 2 * (transfer_of access).cells ≤ need_of access
  pub for_one : 3 ≤ need_of access

pub need_enough : (layout : Arrangement) (access : Access) → IsPlaced layout access → Enough access
need_enough layout (Read place track) p = record { for_cells = omega arith; for_one = omega arith }
need_enough layout (Write place value track) p = record { for_cells = omega arith; for_one = omega arith }
need_enough layout (Copy from to cells track) p = (let s = p.some_cell in record { for_cells = omega arith; for_one = omega (arith, s) })

pub can_send : (state : State) (reads : Waiting) (nodes room node need cells : ℕ) → IsFabric state reads nodes room → node < nodes_of state → length state.past + room + 1 < 2 ^ 64
    → need ≤ state.spare → 1 + 2 * cells ≤ need → CanSendMany state.memory state.pool node cells
can_send state reads nodes room node need cells h below short fits enough = record {
  spare = (let f = h.puts_fit in omega (arith, f, fits, enough));
  puts = (let f = h.few_puts in let d = some_deliveries (messages_of state.pool) in let e = h.entries_fit in omega (arith, f, d, e, fits, enough, short));
  issuer = below;
  nodes = h.of_journal.pool_nodes;
}

cells_few : (layout : Arrangement) (place : Place) (o : Option LaidObject) → IsLayout layout → slice_get layout.objects place.object ≡ o
    → option_map_or (λ x. cells_of layout.nodes x place.node) o 0 ≤ 65536
cells_few layout place None l e = omega arith
cells_few layout place (Some x) l e =
    (let few : cells_of layout.nodes x 0 ≤ 65536 = few_cells layout l place.object x e in
    let le : cells_of layout.nodes x place.node ≤ cells_of layout.nodes x 0 = cells-le-first layout.nodes x place.node l.some_node in
    omega (arith, few, le))

-- a copy ends at a small offset
pub ends_small : (layout : Arrangement) (place : Place) (cells : ℕ) → IsLayout layout → 0 < cells → ((cell : ℕ) → cell < cells → IsPlace layout (further cell place))
    → place.offset + cells < 4294967296
ends_small layout place cells l some inside =
    (let last = inside (cells - 1) (omega arith) in
    let at : place.offset + (cells - 1) < extent_of layout place.node place.object = last.offset in
    let few : extent_of layout place.node place.object ≤ 65536 = cells_few layout place (slice_get layout.objects place.object) l refl in
    omega (arith, at, few, some))
