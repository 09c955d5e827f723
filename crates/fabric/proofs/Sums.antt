-- The books count the messages through an issue and a delivery.
use Rattle.std.proofs.Common.{◌≡◌, ℕ, zero, suc, ◌+◌, ◌<◌, ◌≤◌, List, [], ◌∷◌, ◌++◌, length, Bool, true, false, ◌&&◌, ◌==◌, refl, sym, ap, ◌∙◌, subst, arith}
use Rattle.std.specs.Prelude.{slice_set, slice_index_or, if◌then◌else◌}
use Rattle.std.proofs.lemmas.Bool.{eq-eqb, eqb-true, and_parts}
use Rattle.std.proofs.lemmas.List.{length-set}
use Rattle.sc_isa.specs.declared.access.Track.{Track}
use Rattle.sc_isa.specs.declared.access.Track.TheVariants.{Counter, Store, Covered}
use Rattle.msg_pool.specs.declared.message.Message.{Message}
use Rattle.sync_book.specs.Book.{NodeBook, Book, node_at, with_node, outstanding, outstanding_on, with_outstanding, all_outstanding}
use Rattle.fabric.specs.Access.{is_counter, is_store, is_covered}
use Rattle.fabric.specs.Flight.{one_if, flying_count}
use Rattle.fabric.specs.Books.{Counts}
use Rattle.fabric.specs.State.{IsTrack}
use Rattle.fabric.proofs.Deciding.{decide_on, decide_eq}
use Rattle.fabric.proofs.Counting.{count_append}
use Rattle.fabric.proofs.BookSteps.{at_same, at_other}

-- each of the messages is of the node, on the track
abbrev pub AllOf : (node : ℕ) → Track → List Message → Type 0
AllOf node track [] = Unit {0}
AllOf node track (m ∷ ms) = ((m.issuer ≡ node) × (m.track ≡ track)) × AllOf node track ms

-- so they count all or not at all
pub count_all : (of : ℕ → Bool) (on : Track → Bool) (node : ℕ) (track : Track) (ms : List Message) → AllOf node track ms
    → flying_count of on ms ≡ (if of node && on track then length ms else 0)
count_all of on node track [] a = none (of node && on track)
  where
    none : (b : Bool) → zero ≡ (if b then zero else zero)
    none true = refl
    none false = refl
count_all of on node track (m ∷ ms) a =
    ap (λ x. one_if (of x && on m.track) + flying_count of on ms) a.0.0
    ∙ ap (λ t. one_if (of node && on t) + flying_count of on ms) a.0.1
    ∙ ap (λ k. one_if (of node && on track) + k) (count_all of on node track ms a.1)
    ∙ one_more (of node && on track) (length ms)
  where
    one_more : (b : Bool) (k : ℕ) → one_if b + (if b then k else 0) ≡ (if b then suc k else 0)
    one_more true k = omega arith
    one_more false k = refl

nat_set_same : (xs : List ℕ) (i v d : ℕ) → i < length xs → slice_index_or (slice_set xs i v) i d ≡ v
nat_set_same [] i v d h = absurd (omega arith)
nat_set_same (x ∷ xs) zero v d h = refl
nat_set_same (x ∷ xs) (suc i) v d h = nat_set_same xs i v d (omega arith)

nat_set_other : (xs : List ℕ) (i j v d : ℕ) → (i ≡ j → ⊥) → slice_index_or (slice_set xs i v) j d ≡ slice_index_or xs j d
nat_set_other [] i j v d ne = refl
nat_set_other (x ∷ xs) zero zero v d ne = absurd (ne refl)
nat_set_other (x ∷ xs) zero (suc j) v d ne = refl
nat_set_other (x ∷ xs) (suc i) zero v d ne = refl
nat_set_other (x ∷ xs) (suc i) (suc j) v d ne = nat_set_other xs i j v d (λ e. ne (ap suc e))

-- the books with another count of the node on the counter
pub counter_there : (book : Book) (node counter k : ℕ) → node < length book.nodes → counter < length (node_at book node).counters
    → outstanding (with_outstanding book node (Counter counter) k) node counter ≡ k
counter_there book node counter k within known =
    ap (λ (r : NodeBook). slice_index_or r.counters counter 0) (at_same book node (record (node_at book node) { counters = slice_set (node_at book node).counters counter k }) within)
    ∙ nat_set_same (node_at book node).counters counter k 0 known

pub counter_elsewhere : (book : Book) (node counter k n c : ℕ) → node < length book.nodes → ((node == n) && (counter == c)) ≡ false
    → outstanding (with_outstanding book node (Counter counter) k) n c ≡ outstanding book n c
counter_elsewhere book node counter k n c within apart =
    let row : NodeBook = record (node_at book node) { counters = slice_set (node_at book node).counters counter k } in
    decide_eq node n
    (λ same. ap (λ (r : NodeBook). slice_index_or r.counters c 0) (subst (λ x. node_at (with_node book node row) x ≡ row) same (at_same book node row within))
    ∙ nat_set_other (node_at book node).counters counter c k 0
    (λ e. (let t : ((node == n) && (counter == c)) ≡ true = rw (eq-eqb node n same) (eq-eqb counter c e) in let x : true ≡ false = sym t ∙ apart in cc))
    ∙ ap (λ x. slice_index_or (node_at book x).counters c 0) same)
    (λ ne. ap (λ (r : NodeBook). slice_index_or r.counters c 0) (at_other book node n row ne))

-- the second list has so many more of the node, on the track
pub record More (node : ℕ) (track : Track) (k : ℕ) (ms ms' : List Message) : Type 0 where
  pub counted : (of : ℕ → Bool) (on : Track → Bool) → flying_count of on ms' ≡ flying_count of on ms + (if of node && on track then k else 0)
  pub long : length ms' ≡ length ms + k

length_both : (ms ns : List Message) → length (ms ++ ns) ≡ length ms + length ns
length_both [] ns = omega arith
length_both (m ∷ ms) ns = omega (arith, length_both ms ns)

pub more_sent : (node : ℕ) (track : Track) (ms ns : List Message) → AllOf node track ns → More node track (length ns) ms (ms ++ ns)
more_sent node track ms ns a = record {
  counted = λ of on. count_append of on ms ns ∙ ap (λ k. flying_count of on ms + k) (count_all of on node track ns a);
  long = length_both ms ns;
}

not_more : (b : Bool) (n k : ℕ) → n + (if b && false then k else 0) ≡ n
not_more true n k = omega arith
not_more false n k = omega arith

-- the books with so many more on a counter
more_on_counter : (ms ms' : List Message) (book book' : Book) (node d k : ℕ) → Counts ms book → More node (Counter d) k ms ms' → node < length book.nodes → d ≤ book.sites
    → book' ≡ with_outstanding book node (Counter d) (outstanding book node d + k) → all_outstanding book' ≡ all_outstanding book + k → Counts ms' book'
more_on_counter ms ms' book book' node d k c more within known is all =
    subst (λ b. Counts ms' b) (sym is) (record {
      counters = λ n x below at.
          decide_on ((node == n) && (d == x))
          (λ t. let two = and_parts (node == n) (d == x) t in
          let here : outstanding (with_outstanding book node (Counter d) (outstanding book node d + k)) node d ≡ outstanding book node d + k =
          counter_there book node d (outstanding book node d + k) within (let l = c.lists node within in omega (arith, l, known)) in
          let old : outstanding book node d ≡ flying_count (λ other. other == node) (is_counter d) ms = c.counters node d within known in
          let new : flying_count (λ other. other == n) (is_counter x) ms' ≡ flying_count (λ other. other == n) (is_counter x) ms + k = more.counted (λ other. other == n) (is_counter x) ∙ rw t refl in
          let moved : outstanding (with_outstanding book node (Counter d) (outstanding book node d + k)) node d ≡ flying_count (λ other. other == node) (is_counter d) ms + k = omega (arith, here, old) in
          subst (λ y. outstanding (with_outstanding book node (Counter d) (outstanding book node d + k)) n y ≡ flying_count (λ other. other == n) (is_counter y) ms') (eqb-true d x two.1)
          (subst (λ z. outstanding (with_outstanding book node (Counter d) (outstanding book node d + k)) z d ≡ flying_count (λ other. other == z) (is_counter d) ms') (eqb-true node n two.0)
          (moved ∙ sym (more.counted (λ other. other == node) (is_counter d) ∙ rw (eq-eqb node node refl, eq-eqb d d refl) refl))))
          (λ f. counter_elsewhere book node d (outstanding book node d + k) n x within f
          ∙ c.counters n x (subst (λ y. n < y) (length-set book.nodes node _) below) at
          ∙ sym (more.counted (λ other. other == n) (is_counter x) ∙ rw f (omega arith)));
      stores = c.stores ∙ sym (more.counted (λ other. true) is_store ∙ omega arith);
      covered = c.covered ∙ sym (more.counted (λ other. true) is_covered ∙ omega arith);
      all = (let a : all_outstanding (with_outstanding book node (Counter d) (outstanding book node d + k)) ≡ all_outstanding book + k = subst (λ b. all_outstanding b ≡ all_outstanding book + k) is all in a ∙ ap (λ n. n + k) c.all ∙ sym more.long);
      lists = λ n below.
          let under : n < length book.nodes = subst (λ y. n < y) (length-set book.nodes node _) below in
          let row : NodeBook = record (node_at book node) { counters = slice_set (node_at book node).counters d (outstanding book node d + k) } in
          decide_eq node n
          (λ same. ap (λ (r : NodeBook). length r.counters) (subst (λ z. node_at (with_node book node row) z ≡ row) same (at_same book node row within))
          ∙ length-set (node_at book node).counters d (outstanding book node d + k) ∙ c.lists node within)
          (λ ne. ap (λ (r : NodeBook). length r.counters) (at_other book node n row ne) ∙ c.lists n under);
    })

pub counts_more : (ms ms' : List Message) (book book' : Book) (node k : ℕ) (track : Track) → Counts ms book → More node track k ms ms' → node < length book.nodes → IsTrack book.sites track
    → book' ≡ with_outstanding book node track (outstanding_on book node track + k) → all_outstanding book' ≡ all_outstanding book + k → Counts ms' book'
counts_more ms ms' book book' node k (Counter d) c more within known is all = more_on_counter ms ms' book book' node d k c more within known is all
counts_more ms ms' book book' node k Store c more within known is all =
    subst (λ b. Counts ms' b) (sym is) (record {
      counters = λ n x below at. c.counters n x below at ∙ sym (more.counted (λ other. other == n) (is_counter x) ∙ not_more (node == n) (flying_count (λ other. other == n) (is_counter x) ms) k);
      stores = ap (λ n. n + k) c.stores ∙ sym (more.counted (λ other. true) is_store);
      covered = c.covered ∙ sym (more.counted (λ other. true) is_covered ∙ omega arith);
      all = (let a : all_outstanding (with_outstanding book node Store (book.stores + k)) ≡ all_outstanding book + k = subst (λ b. all_outstanding b ≡ all_outstanding book + k) is all in a ∙ ap (λ n. n + k) c.all ∙ sym more.long);
      lists = c.lists;
    })
counts_more ms ms' book book' node k Covered c more within known is all =
    subst (λ b. Counts ms' b) (sym is) (record {
      counters = λ n x below at. c.counters n x below at ∙ sym (more.counted (λ other. other == n) (is_counter x) ∙ not_more (node == n) (flying_count (λ other. other == n) (is_counter x) ms) k);
      stores = c.stores ∙ sym (more.counted (λ other. true) is_store ∙ omega arith);
      covered = ap (λ n. n + k) c.covered ∙ sym (more.counted (λ other. true) is_covered);
      all = (let a : all_outstanding (with_outstanding book node Covered (book.covered + k)) ≡ all_outstanding book + k = subst (λ b. all_outstanding b ≡ all_outstanding book + k) is all in a ∙ ap (λ n. n + k) c.all ∙ sym more.long);
      lists = c.lists;
    })
