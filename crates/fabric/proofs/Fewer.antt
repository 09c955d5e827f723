-- The books count one message less after a delivery that is over.
use Rattle.std.proofs.Common.{◌≡◌, ℕ, ◌+◌, ◌-◌, ◌<◌, ◌≤◌, List, length, Bool, true, false, ◌&&◌, ◌==◌, refl, sym, ap, ◌∙◌, subst, arith}
use Rattle.std.specs.Prelude.{slice_set, if◌then◌else◌}
use Rattle.std.proofs.lemmas.Bool.{eq-eqb, eqb-true, and_parts}
use Rattle.std.proofs.lemmas.List.{length-set}
use Rattle.sc_isa.specs.declared.access.Track.{Track}
use Rattle.sc_isa.specs.declared.access.Track.TheVariants.{Counter, Store, Covered}
use Rattle.msg_pool.specs.declared.message.Message.{Message}
use Rattle.sync_book.specs.Book.{NodeBook, Book, node_at, with_node, outstanding, outstanding_on, with_outstanding, all_outstanding}
use Rattle.fabric.specs.Access.{is_counter, is_store, is_covered}
use Rattle.fabric.specs.Flight.{flying_count}
use Rattle.fabric.specs.Books.{Counts}
use Rattle.fabric.specs.State.{IsTrack}
use Rattle.fabric.proofs.Deciding.{decide_on, decide_eq}
use Rattle.fabric.proofs.BookSteps.{at_same, at_other}
use Rattle.fabric.proofs.Sums.{More, counter_there, counter_elsewhere}

less_none : (a b : ℕ) → a ≡ b + 0 → a ≡ b
less_none a b h = omega (arith, h)

no_one : (b : Bool) (a n : ℕ) → a ≡ n + (if b && false then 1 else 0) → a ≡ n
no_one true a n h = omega (arith, h)
no_one false a n h = omega (arith, h)

less_on_counter : (ms ms' : List Message) (book book' : Book) (node d : ℕ) → Counts ms book → More node (Counter d) 1 ms' ms → node < length book.nodes → d ≤ book.sites
    → book' ≡ with_outstanding book node (Counter d) (outstanding book node d - 1) → all_outstanding book' + 1 ≡ all_outstanding book → Counts ms' book'
less_on_counter ms ms' book book' node d c more within known is all =
    subst (λ b. Counts ms' b) (sym is) (record {
      counters = λ n x below at.
          decide_on ((node == n) && (d == x))
          (λ t. let two = and_parts (node == n) (d == x) t in
          let here : outstanding (with_outstanding book node (Counter d) (outstanding book node d - 1)) node d ≡ outstanding book node d - 1 =
          counter_there book node d (outstanding book node d - 1) within (let l = c.lists node within in omega (arith, l, known)) in
          let old : outstanding book node d ≡ flying_count (λ other. other == node) (is_counter d) ms = c.counters node d within known in
          let one : flying_count (λ other. other == node) (is_counter d) ms ≡ flying_count (λ other. other == node) (is_counter d) ms' + 1 =
          more.counted (λ other. other == node) (is_counter d) ∙ rw (eq-eqb node node refl, eq-eqb d d refl) refl in
          let moved : outstanding (with_outstanding book node (Counter d) (outstanding book node d - 1)) node d ≡ flying_count (λ other. other == node) (is_counter d) ms' = omega (arith, here, old, one) in
          subst (λ y. outstanding (with_outstanding book node (Counter d) (outstanding book node d - 1)) n y ≡ flying_count (λ other. other == n) (is_counter y) ms') (eqb-true d x two.1)
          (subst (λ z. outstanding (with_outstanding book node (Counter d) (outstanding book node d - 1)) z d ≡ flying_count (λ other. other == z) (is_counter d) ms') (eqb-true node n two.0) moved))
          (λ f. counter_elsewhere book node d (outstanding book node d - 1) n x within f
          ∙ c.counters n x (subst (λ y. n < y) (length-set book.nodes node _) below) at
          ∙ (let m = more.counted (λ other. other == n) (is_counter x) in less_none _ _ (m ∙ rw f refl)));
      stores = c.stores ∙ less_none _ _ (more.counted (λ other. true) is_store);
      covered = c.covered ∙ less_none _ _ (more.counted (λ other. true) is_covered);
      all = (let a : all_outstanding (with_outstanding book node (Counter d) (outstanding book node d - 1)) + 1 ≡ all_outstanding book = subst (λ b. all_outstanding b + 1 ≡ all_outstanding book) is all in omega (arith, a, c.all, more.long));
      lists = λ n below.
          let under : n < length book.nodes = subst (λ y. n < y) (length-set book.nodes node _) below in
          let row : NodeBook = record (node_at book node) { counters = slice_set (node_at book node).counters d (outstanding book node d - 1) } in
          decide_eq node n
          (λ same. ap (λ (r : NodeBook). length r.counters) (subst (λ z. node_at (with_node book node row) z ≡ row) same (at_same book node row within))
          ∙ length-set (node_at book node).counters d (outstanding book node d - 1) ∙ c.lists node within)
          (λ ne. ap (λ (r : NodeBook). length r.counters) (at_other book node n row ne) ∙ c.lists n under);
    })

pub counts_less : (ms ms' : List Message) (book book' : Book) (node : ℕ) (track : Track) → Counts ms book → More node track 1 ms' ms → node < length book.nodes → IsTrack book.sites track
    → book' ≡ with_outstanding book node track (outstanding_on book node track - 1) → all_outstanding book' + 1 ≡ all_outstanding book → Counts ms' book'
counts_less ms ms' book book' node (Counter d) c more within known is all = less_on_counter ms ms' book book' node d c more within known is all
counts_less ms ms' book book' node Store c more within known is all =
    subst (λ b. Counts ms' b) (sym is) (record {
      counters = λ n x below at. c.counters n x below at ∙ no_one (node == n) _ _ (more.counted (λ other. other == n) (is_counter x));
      stores = (let m = more.counted (λ other. true) is_store in omega (arith, c.stores, m));
      covered = c.covered ∙ less_none _ _ (more.counted (λ other. true) is_covered);
      all = (let a : all_outstanding (with_outstanding book node Store (book.stores - 1)) + 1 ≡ all_outstanding book = subst (λ b. all_outstanding b + 1 ≡ all_outstanding book) is all in omega (arith, a, c.all, more.long));
      lists = c.lists;
    })
counts_less ms ms' book book' node Covered c more within known is all =
    subst (λ b. Counts ms' b) (sym is) (record {
      counters = λ n x below at. c.counters n x below at ∙ no_one (node == n) _ _ (more.counted (λ other. other == n) (is_counter x));
      stores = c.stores ∙ less_none _ _ (more.counted (λ other. true) is_store);
      covered = (let m = more.counted (λ other. true) is_covered in omega (arith, c.covered, m));
      all = (let a : all_outstanding (with_outstanding book node Covered (book.covered - 1)) + 1 ≡ all_outstanding book = subst (λ b. all_outstanding b + 1 ≡ all_outstanding book) is all in omega (arith, a, c.all, more.long));
      lists = c.lists;
    })
