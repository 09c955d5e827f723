-- What a fabric keeps stays through entries that change no cell and no message.
use Rattle.std.proofs.Common.{◌≡◌, ℕ, ◌+◌, ◌-◌, ◌<◌, ◌≤◌, List, [], ◌∷◌, length, map, sum, false, refl, sym, ap, ◌∙◌, subst, arith}
use Rattle.std.specs.Prelude.{sum_by, slice_set, slice_index_or}
use Rattle.std.proofs.lemmas.List.Sums.{sum_by-cons, sum_by-set}
use Rattle.std.proofs.lemmas.List.{length-set}
use Rattle.sc_base.specs.declared.value.Value.{Value}
use Rattle.sc_base.specs.declared.value.Place.{Place}
use Rattle.effect_order.specs.Effect.{held}
use Rattle.effect_order.specs.Lists.{Each}
use Rattle.effect_order.proofs.Members.{each-map}
use Rattle.sc_isa.specs.declared.journal.Entry.{Entry}
use Rattle.msg_pool.specs.declared.message.Message.{Message}
use Rattle.node_memory.specs.Memory.{Holds}
use Rattle.sync_book.specs.Book.{NodeBook, Book, fresh_node, node_at, with_node, outstanding, all_outstanding, released_node, after_release}
use Rattle.fabric.specs.declared.reads.Awaited.{Awaited}
use Rattle.effect_order.specs.Transfer.{part_value}
use Rattle.fabric.specs.Effects.{access_at, awaited, effects, or_zero}
use Rattle.fabric.specs.Flight.{in_flight}
use Rattle.fabric.specs.Wired.{EntryWired}
use Rattle.fabric.specs.Books.{Counts, Stands}
use Rattle.fabric.specs.Reads.{Waiting}
use Rattle.fabric.specs.Log.{Log}
use Rattle.fabric.specs.State.{State, messages_of, start_of, nodes_of}
use Rattle.fabric.specs.Kept.{IsOfJournal, IsReady, IsRead, AreAwaited, IsFabric}
use Rattle.fabric.proofs.Deciding.{decide_eq}
use Rattle.fabric.proofs.BookSteps.{at_same, at_other, length_map, mapped}

-- ---- books with the same counts

pub record SameCounts (old new : Book) : Type 0 where
  pub nodes : length new.nodes ≡ length old.nodes
  pub sites : new.sites ≡ old.sites
  pub counters : (node counter : ℕ) → node < length old.nodes → outstanding new node counter ≡ outstanding old node counter
  pub stores : new.stores ≡ old.stores
  pub covered : new.covered ≡ old.covered
  pub all : all_outstanding new ≡ all_outstanding old
  pub lists : (node : ℕ) → node < length old.nodes → length (node_at new node).counters ≡ length (node_at old node).counters

pub with_row : (book : Book) (q : ℕ) (row : NodeBook) → q < length book.nodes → row.counters ≡ (node_at book q).counters → SameCounts book (with_node book q row)
with_row book q row within same = record {
  nodes = length-set book.nodes q row;
  sites = refl;
  counters = λ node counter below.
      decide_eq q node
      (λ is. ap (λ (r : NodeBook). slice_index_or r.counters counter 0) (subst (λ x. node_at (with_node book q row) x ≡ row) is (at_same book q row within))
      ∙ ap (λ cs. slice_index_or cs counter 0) (subst (λ x. row.counters ≡ (node_at book x).counters) is same))
      (λ ne. ap (λ (r : NodeBook). slice_index_or r.counters counter 0) (at_other book q node row ne));
  stores = refl;
  covered = refl;
  all = ap (λ s. s + book.stores + book.covered)
      (let moved : sum_by (λ (r : NodeBook). sum r.counters) (slice_set book.nodes q row) + sum (node_at book q).counters ≡ sum_by (λ (r : NodeBook). sum r.counters) book.nodes + sum row.counters =
      sum_by-set (λ (r : NodeBook). sum r.counters) book.nodes q row (fresh_node book.sites) within in
      let own : sum row.counters ≡ sum (node_at book q).counters = ap sum same in
      omega (arith, moved, own));
  lists = λ node below.
      decide_eq q node
      (λ is. ap (λ (r : NodeBook). length r.counters) (subst (λ x. node_at (with_node book q row) x ≡ row) is (at_same book q row within))
      ∙ ap length (subst (λ x. row.counters ≡ (node_at book x).counters) is same))
      (λ ne. ap (λ (r : NodeBook). length r.counters) (at_other book q node row ne));
}

sum_released : (rows : List NodeBook) → sum_by (λ (r : NodeBook). sum r.counters) (map released_node rows) ≡ sum_by (λ (r : NodeBook). sum r.counters) rows
sum_released [] = refl
sum_released (x ∷ xs) =
    sum_by-cons (λ (r : NodeBook). sum r.counters) (released_node x) (map released_node xs)
    ∙ ap (λ s. sum x.counters + s) (sum_released xs)
    ∙ sym (sum_by-cons (λ (r : NodeBook). sum r.counters) x xs)

pub released_rows : (book : Book) → SameCounts book (after_release book)
released_rows book = record {
  nodes = length_map released_node book.nodes;
  sites = refl;
  counters = λ node counter below. ap (λ (r : NodeBook). slice_index_or r.counters counter 0) (mapped released_node book.nodes node (fresh_node book.sites) below);
  stores = refl;
  covered = refl;
  all = ap (λ s. s + book.stores + book.covered) (sum_released book.nodes);
  lists = λ node below. ap (λ (r : NodeBook). length r.counters) (mapped released_node book.nodes node (fresh_node book.sites) below);
}

pub then_same : (one two three : Book) → SameCounts one two → SameCounts two three → SameCounts one three
then_same one two three a b = record {
  nodes = b.nodes ∙ a.nodes;
  sites = b.sites ∙ a.sites;
  counters = λ node counter below. b.counters node counter (subst (λ n. node < n) (sym a.nodes) below) ∙ a.counters node counter below;
  stores = b.stores ∙ a.stores;
  covered = b.covered ∙ a.covered;
  all = b.all ∙ a.all;
  lists = λ node below. b.lists node (subst (λ n. node < n) (sym a.nodes) below) ∙ a.lists node below;
}

pub counts_same : (ms : List Message) (old new : Book) → Counts ms old → SameCounts old new → Counts ms new
counts_same ms old new c s = record {
  counters = λ node counter below known.
      let below_old : node < length old.nodes = subst (λ n. node < n) s.nodes below in
      s.counters node counter below_old ∙ c.counters node counter below_old (subst (λ n. counter ≤ n) s.sites known);
  stores = s.stores ∙ c.stores;
  covered = s.covered ∙ c.covered;
  all = s.all ∙ c.all;
  lists = λ node below.
      let below_old : node < length old.nodes = subst (λ n. node < n) s.nodes below in
      s.lists node below_old ∙ c.lists node below_old ∙ ap (λ n. n + 1) (sym s.sites);
}

-- ---- entries that change no cell and no message

pub record Quiet (start : Place → Value) (past : List Entry) (e : Entry) : Type 0 where
  pub effects_same : effects start (e ∷ past) ≡ effects start past
  pub flight_same : in_flight start (e ∷ past) ≡ in_flight start past
  pub access_same : (node number : ℕ) → access_at node number (e ∷ past) ≡ access_at node number past

pub read_quiet : (start : Place → Value) (past : List Entry) (e : Entry) (r : Awaited) → Quiet start past e → IsRead past (effects start past) r → IsRead (e ∷ past) (effects start (e ∷ past)) r
read_quiet start past e r q i = record {
  place = i.place;
  issued = q.access_same r.node r.number ∙ i.issued;
  value = subst (λ l. r.value ≡ or_zero (part_value r.node r.number 0 false l)) (sym q.effects_same) i.value;
}

-- what the state keeps with its journal, after such an entry
pub journal_quiet : (state : State) (e : Entry) (book : Book) (spare : ℕ) → IsOfJournal state → EntryWired (start_of state) (nodes_of state) state.past e → Quiet (start_of state) state.past e
    → Stands (e ∷ state.past) book → SameCounts state.book book
    → IsOfJournal (record state { book = book; past = e ∷ state.past; spare = spare })
journal_quiet state e book spare h w q stands same = record {
  wired = (w, h.wired);
  memory = subst (λ l. Holds state.memory (λ place. held (start_of state) place l)) (sym q.effects_same) h.memory;
  messages = h.messages ∙ sym q.flight_same;
  counts = subst (λ ms. Counts ms book) (sym q.flight_same) (counts_same (in_flight (start_of state) state.past) state.book book h.counts same);
  stands = stands;
  rows = same.nodes ∙ h.rows;
  pool_nodes = h.pool_nodes;
}

pub kept_quiet : (state : State) (reads reads' : Waiting) (log log' : Log) (e : Entry) (book : Book) → IsFabric state reads log.nodes log.room
    → EntryWired (start_of state) (nodes_of state) state.past e → Quiet (start_of state) state.past e
    → Stands (e ∷ state.past) book → SameCounts state.book book → 0 < state.spare
    → log'.nodes ≡ log.nodes → log'.room + 1 ≡ log.room
    → AreAwaited (start_of state) (e ∷ state.past) reads'.reads → reads.spare ≤ reads'.spare
    → IsFabric (record state { book = book; past = e ∷ state.past; spare = state.spare - 1 }) reads' log'.nodes log'.room
kept_quiet state reads reads' log log' e book h w q stands same some nodes room waiting more = record {
  of_journal = journal_quiet state e book (state.spare - 1) h.of_journal w q stands same;
  ready = subst (λ s. Each (IsReady state.memory.layout s) (messages_of state.pool)) (sym same.sites) h.ready;
  awaited_are = waiting;
  log_nodes = nodes ∙ h.log_nodes;
  entries_fit = (let f = h.entries_fit in omega (arith, f, room, some));
  puts_fit = (let f = h.puts_fit in omega (arith, f));
  reads_fit = (let f = h.reads_fit in omega (arith, f, more));
  few_puts = (let f = h.few_puts in omega (arith, f));
}

-- the same reads are awaited
pub waiting_quiet : (start : Place → Value) (past : List Entry) (e : Entry) (reads : List Awaited) → Quiet start past e
    → ((node counter : ℕ) → awaited node counter (e ∷ past) ≡ awaited node counter past) → AreAwaited start past reads → AreAwaited start (e ∷ past) reads
waiting_quiet start past e reads q same a = record {
  numbers = λ node counter. a.numbers node counter ∙ sym (same node counter);
  each = each-map (IsRead past (effects start past)) (IsRead (e ∷ past) (effects start (e ∷ past))) reads (λ r i. read_quiet start past e r q i) a.each;
}
