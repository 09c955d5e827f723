-- The books stay those of the journal through arrivals, passes and finishes.
use Rattle.std.proofs.Common.{◌≡◌, ℕ, zero, suc, ◌+◌, ◌<◌, ◌≤◌, max, List, [], ◌∷◌, length, map, Bool, true, ◌==◌, refl, sym, ap, ◌∙◌, subst, arith}
use Rattle.std.specs.Prelude.{if◌then◌else◌, is_some, slice_index_or, slice_set}
use Rattle.std.proofs.lemmas.Bool.{eq-eqb, ne_eqb, le-leb, lt-leb}
use Rattle.std.proofs.lemmas.List.{length-set}
use Rattle.sc_base.specs.declared.value.Value.{Value}
use Rattle.sc_base.specs.declared.value.Place.{Place}
use Rattle.sc_base.specs.declared.value.End.{End}
use Rattle.sc_isa.specs.declared.journal.Entry.{Entry}
use Rattle.sc_isa.specs.declared.journal.Entry.TheVariants.{Arrived as Arrives, Passed, Finished}
use Rattle.sync_book.specs.declared.standing.Standing.{Standing}
use Rattle.sync_book.specs.declared.standing.Standing.TheVariants.{Away, Arrived, Released}
use Rattle.sync_book.specs.Book.{NodeBook, Book, fresh_node, node_at, with_node, is_arrived, released_node, after_release}
use Rattle.fabric.specs.Barriers.{arrivals, passes, released, finished}
use Rattle.fabric.specs.Wired.{Going, Wired}
use Rattle.fabric.specs.Books.{with_stores, standing_of, Stands}
use Rattle.fabric.proofs.Deciding.{decide_eq, decide_lt}
use Rattle.fabric.proofs.Barrier.{stand}

-- ---- rows

set_same : (rows : List NodeBook) (i : ℕ) (row d : NodeBook) → i < length rows → slice_index_or (slice_set rows i row) i d ≡ row
set_same [] i row d h = absurd (omega arith)
set_same (x ∷ xs) zero row d h = refl
set_same (x ∷ xs) (suc i) row d h = set_same xs i row d (omega arith)

set_other : (rows : List NodeBook) (i j : ℕ) (row d : NodeBook) → (i ≡ j → ⊥) → slice_index_or (slice_set rows i row) j d ≡ slice_index_or rows j d
set_other [] i j row d ne = refl
set_other (x ∷ xs) zero zero row d ne = absurd (ne refl)
set_other (x ∷ xs) zero (suc j) row d ne = refl
set_other (x ∷ xs) (suc i) zero row d ne = refl
set_other (x ∷ xs) (suc i) (suc j) row d ne = set_other xs i j row d (λ e. ne (ap suc e))

pub mapped : (f : NodeBook → NodeBook) (rows : List NodeBook) (i : ℕ) (d : NodeBook) → i < length rows → slice_index_or (map f rows) i d ≡ f (slice_index_or rows i d)
mapped f [] i d h = absurd (omega arith)
mapped f (x ∷ xs) zero d h = refl
mapped f (x ∷ xs) (suc i) d h = mapped f xs i d (omega arith)

pub length_map : (f : NodeBook → NodeBook) (rows : List NodeBook) → length (map f rows) ≡ length rows
length_map f [] = refl
length_map f (x ∷ xs) = ap suc (length_map f xs)

-- ---- where a node stands

pub is_away : (node : ℕ) (past : List Entry) → arrivals node past ≡ passes node past → standing_of node past ≡ Away
is_away node past h = rw (eq-eqb (arrivals node past) (passes node past) h) refl

pub is_waiting : (node : ℕ) (past : List Entry) → (arrivals node past ≡ passes node past → ⊥) → released past < arrivals node past
    → standing_of node past ≡ Arrived (with_stores node past)
is_waiting node past ne h = rw (ne_eqb (arrivals node past) (passes node past) ne, lt-leb (arrivals node past) (released past) h) refl

pub is_let_go : (node : ℕ) (past : List Entry) → (arrivals node past ≡ passes node past → ⊥) → arrivals node past ≤ released past
    → standing_of node past ≡ Released
is_let_go node past ne h = rw (ne_eqb (arrivals node past) (passes node past) ne, le-leb (arrivals node past) (released past) h) refl

-- what a standing says
pub data Where (node : ℕ) (past : List Entry) : Standing → Type 0 where
  AtNone : arrivals node past ≡ passes node past → Where node past Away
  LetGo : (arrivals node past ≡ passes node past → ⊥) → arrivals node past ≤ released past → Where node past Released
  AtNext : (arrivals node past ≡ passes node past → ⊥) → released past < arrivals node past → Where node past (Arrived (with_stores node past))

pub where_is : (node : ℕ) (past : List Entry) → Where node past (standing_of node past)
where_is node past =
    decide_eq (arrivals node past) (passes node past)
    (λ free. subst (λ s. Where node past s) (sym (is_away node past free)) (AtNone free))
    (λ ne. decide_lt (released past) (arrivals node past)
    (λ lt. subst (λ s. Where node past s) (sym (is_waiting node past ne lt)) (AtNext ne lt))
    (λ le. subst (λ s. Where node past s) (sym (is_let_go node past ne le)) (LetGo ne le)))

-- the node has arrived at the next release exactly where its books say so
pub arrived_next : (node : ℕ) (past : List Entry) (s : Standing) → Where node past s → is_arrived s ≡ true → released past < arrivals node past
arrived_next node past Away (AtNone free) h = cc
arrived_next node past Released (LetGo ne le) h = cc
arrived_next node past (Arrived b) (AtNext ne lt) h = lt

-- ---- the steps

pub at_same : (book : Book) (node : ℕ) (row : NodeBook) → node < length book.nodes → node_at (with_node book node row) node ≡ row
at_same book node row within = set_same book.nodes node row (fresh_node book.sites) within

pub at_other : (book : Book) (q node : ℕ) (row : NodeBook) → (q ≡ node → ⊥) → node_at (with_node book q row) node ≡ node_at book node
at_other book q node row ne = set_other book.nodes q node row (fresh_node book.sites) ne

-- the row of one node changes with the past, and those of the others are as before
change_one : (past past' : List Entry) (book : Book) (q : ℕ) (row : NodeBook) → Stands past book → q < length book.nodes
    → row.standing ≡ standing_of q past' → row.finished ≡ is_some (finished q past')
    → ((node : ℕ) → (q ≡ node → ⊥) → node < length book.nodes → (standing_of node past' ≡ standing_of node past) × (finished node past' ≡ finished node past))
    → Stands past' (with_node book q row)
change_one past past' book q row s within own ended others = record {
  standing = λ node w.
      let below : node < length book.nodes = subst (λ n. node < n) (length-set book.nodes q row) w in
      decide_eq q node
      (λ same. ap (λ (r : NodeBook). r.standing) (subst (λ x. node_at (with_node book q row) x ≡ row) same (at_same book q row within)) ∙ subst (λ x. row.standing ≡ standing_of x past') same own)
      (λ ne. ap (λ (r : NodeBook). r.standing) (at_other book q node row ne) ∙ s.standing node below ∙ sym (others node ne below).0);
  ended = λ node w.
      let below : node < length book.nodes = subst (λ n. node < n) (length-set book.nodes q row) w in
      decide_eq q node
      (λ same. ap (λ (r : NodeBook). r.finished) (subst (λ x. node_at (with_node book q row) x ≡ row) same (at_same book q row within)) ∙ subst (λ x. row.finished ≡ is_some (finished x past')) same ended)
      (λ ne. ap (λ (r : NodeBook). r.finished) (at_other book q node row ne) ∙ s.ended node below ∙ sym (ap is_some (others node ne below).1));
}

-- the node arrives
pub arrives : (start : Place → Value) (nodes : ℕ) (past : List Entry) (book : Book) (q : ℕ) (s : Bool) → Wired start nodes past → length book.nodes ≡ nodes
    → Going nodes past q → Stands past book
    → Stands (Arrives q s ∷ past) (with_node book q (record (node_at book q) { standing = Arrived s }))
arrives start nodes past book q s w count g h =
    let within : q < length book.nodes = subst (λ n. q < n) (sym count) g.running.node_within in
    let st = stand start nodes past w q g.running.node_within in
    let here : (q == q) ≡ true = eq-eqb q q refl in
    let more : arrivals q (Arrives q s ∷ past) ≡ arrivals q past + 1 = rw here refl in
    let stays : with_stores q (Arrives q s ∷ past) ≡ s = rw here refl in
    let apart : arrivals q (Arrives q s ∷ past) ≡ passes q (Arrives q s ∷ past) → ⊥ = λ e. (let z : arrivals q past + 1 ≡ passes q past = sym more ∙ e in absurd (omega (arith, z, g.at_no_barrier))) in
    let later : released (Arrives q s ∷ past) < arrivals q (Arrives q s ∷ past) = omega (arith, more, st.reached) in
    change_one past (Arrives q s ∷ past) book q (record (node_at book q) { standing = Arrived s }) h within
    (sym (is_waiting q (Arrives q s ∷ past) apart later ∙ ap (λ b. Arrived b) stays))
    (h.ended q within)
    (λ node ne below. (rw (ne_eqb q node ne) refl, refl))

-- the node finishes
pub finishes : (past : List Entry) (book : Book) (q : ℕ) (e : End) → q < length book.nodes → Stands past book
    → Stands (Finished q e ∷ past) (with_node book q (record (node_at book q) { finished = true }))
finishes past book q e within h =
    change_one past (Finished q e ∷ past) book q (record (node_at book q) { finished = true }) h within
    (h.standing q within)
    (rw (eq-eqb q q refl) refl)
    (λ node ne below. (refl, rw (ne_eqb q node ne) refl))

max_is : (a b : ℕ) → b ≤ a → max a b ≡ a
max_is a b h = omega arith

-- the node leaves a barrier that was released before
pub leaves : (start : Place → Value) (nodes : ℕ) (past : List Entry) (book : Book) (q : ℕ) → Wired start nodes past → length book.nodes ≡ nodes → q < nodes
    → standing_of q past ≡ Released → Stands past book
    → Stands (Passed q ∷ past) (with_node book q (record (node_at book q) { standing = Away }))
leaves start nodes past book q w count below st h =
    let within : q < length book.nodes = subst (λ n. q < n) (sym count) below in
    let s = stand start nodes past w q below in
    let where_it = let_go q past (standing_of q past) (where_is q past) st in
    let ne : arrivals q past ≡ passes q past → ⊥ = where_it.0 in
    let one : passes q past + 1 ≡ arrivals q past = omega (arith, s.passed_arrived, s.arrived_once, ne) in
    let old : max (released past) (passes q past + 1) ≡ released past = max_is (released past) (passes q past + 1) (omega (arith, one, where_it.1)) in
    let here : (q == q) ≡ true = eq-eqb q q refl in
    let now : passes q (Passed q ∷ past) ≡ passes q past + 1 = rw here refl in
    change_one past (Passed q ∷ past) book q (record (node_at book q) { standing = Away }) h within
    (sym (is_away q (Passed q ∷ past) (sym one ∙ sym now)))
    (h.ended q within)
    (λ node differ b. (rw (ne_eqb q node differ, old) refl, refl))
  where
    let_go : (q : ℕ) (past : List Entry) (s : Standing) → Where q past s → s ≡ Released → (arrivals q past ≡ passes q past → ⊥) × (arrivals q past ≤ released past)
    let_go q past Away (AtNone free) e = cc
    let_go q past Released (LetGo ne le) e = (ne, le)
    let_go q past (Arrived b) (AtNext ne lt) e = cc

-- a release that the node is the first to pass
pub releases : (start : Place → Value) (nodes : ℕ) (past : List Entry) (book : Book) (q : ℕ) → Wired start nodes past → length book.nodes ≡ nodes → q < nodes
    → ((node : ℕ) → node < nodes → released past < arrivals node past) → Stands past book
    → Stands (Passed q ∷ past) (with_node (after_release book) q (record (node_at (after_release book) q) { standing = Away }))
releases start nodes past book q w count below all h =
    record {
      standing = λ node v.
          let inside : node < length book.nodes = subst (λ n. node < n) (length-set (map released_node book.nodes) q (record (node_at (after_release book) q) { standing = Away }) ∙ length_map released_node book.nodes) v in
          let inside_map : node < length (map released_node book.nodes) = subst (λ n. node < n) (sym (length_map released_node book.nodes)) inside in
          let b : node < nodes = subst (λ n. node < n) count inside in
          let s = stand start nodes past w node b in
          let a : released past < arrivals node past = all node b in
          decide_eq q node
          (λ same. ap (λ (r : NodeBook). r.standing) (subst (λ x. node_at (with_node (after_release book) q (record (node_at (after_release book) q) { standing = Away })) x ≡ record (node_at (after_release book) q) { standing = Away }) same
          (at_same (after_release book) q (record (node_at (after_release book) q) { standing = Away }) (subst (λ x. x < length (map released_node book.nodes)) (sym same) inside_map)))
          ∙ sym (is_away node (Passed q ∷ past) (passed_equal node b same)))
          (λ ne. ap (λ (r : NodeBook). r.standing) (at_other (after_release book) q node (record (node_at (after_release book) q) { standing = Away }) ne ∙ mapped released_node book.nodes node (fresh_node book.sites) inside)
          ∙ gone (node_at book node).standing (h.standing node inside ∙ is_waiting node past (λ e. absurd (omega (arith, e, s.passed_below))) a)
          ∙ sym (is_let_go node (Passed q ∷ past) (apart node b ne) (reached node b)));
      ended = λ node v.
          let inside : node < length book.nodes = subst (λ n. node < n) (length-set (map released_node book.nodes) q (record (node_at (after_release book) q) { standing = Away }) ∙ length_map released_node book.nodes) v in
          let inside_map : node < length (map released_node book.nodes) = subst (λ n. node < n) (sym (length_map released_node book.nodes)) inside in
          decide_eq q node
          (λ same. ap (λ (r : NodeBook). r.finished) (subst (λ x. node_at (with_node (after_release book) q (record (node_at (after_release book) q) { standing = Away })) x ≡ record (node_at (after_release book) q) { standing = Away }) same
          (at_same (after_release book) q (record (node_at (after_release book) q) { standing = Away }) (subst (λ x. x < length (map released_node book.nodes)) (sym same) inside_map)))
          ∙ ap (λ (r : NodeBook). r.finished) (subst (λ x. node_at (after_release book) q ≡ released_node (node_at book x)) same (mapped released_node book.nodes q (fresh_node book.sites) (subst (λ x. x < length book.nodes) (sym same) inside)))
          ∙ h.ended node inside)
          (λ ne. ap (λ (r : NodeBook). r.finished) (at_other (after_release book) q node (record (node_at (after_release book) q) { standing = Away }) ne ∙ mapped released_node book.nodes node (fresh_node book.sites) inside)
          ∙ h.ended node inside);
    }
  where
    gone : (s : Standing) {b : Bool} → s ≡ Arrived b → (if is_arrived s then Released else s) ≡ Released
    gone (Arrived b) e = refl
    gone Away e = cc
    gone Released e = cc

    now_released : released (Passed q ∷ past) ≡ released past + 1
    now_released = (let s = stand start nodes past w q below in let a : released past < arrivals q past = all q below in omega (arith, s.passed_below, s.arrived_once))

    passed_equal : (node : ℕ) → node < nodes → q ≡ node → arrivals node (Passed q ∷ past) ≡ passes node (Passed q ∷ past)
    passed_equal node b same =
        let s = stand start nodes past w node b in
        let a : released past < arrivals node past = all node b in
        rw (eq-eqb q node same) (omega (arith, s.passed_below, s.arrived_once))

    apart : (node : ℕ) → node < nodes → (q ≡ node → ⊥) → arrivals node (Passed q ∷ past) ≡ passes node (Passed q ∷ past) → ⊥
    apart node b ne e =
        let s = stand start nodes past w node b in
        let a : released past < arrivals node past = all node b in
        let z : arrivals node past ≡ passes node past = rw (ne_eqb q node ne) at e in
        absurd (omega (arith, z, s.passed_below))

    reached : (node : ℕ) → node < nodes → arrivals node past ≤ released (Passed q ∷ past)
    reached node b =
        let s = stand start nodes past w node b in
        omega (arith, now_released, s.arrived_once, s.passed_below)
