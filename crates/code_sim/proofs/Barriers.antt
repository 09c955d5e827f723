-- The books say exactly which barrier can be passed, and which is broken.
use Rattle.std.proofs.Common.{◌≡◌, ◌⊎◌, inl, inr, ⊎_elim, ℕ, zero, suc, ◌+◌, ◌<◌, ◌≤◌, List, [], ◌∷◌, length, Some, None, Bool, true, false, not, ◌==◌, ◌&&◌, ◌||◌, refl, sym, ap, ◌∙◌, subst, arith, eq-eqb, eqb-true}
use Rattle.std.specs.Prelude.{if◌then◌else◌, slice_index_or, count_by, cond, IsSome, is_some, nat_lt}
use Rattle.std.specs.List.{list_any, list_all, position, position_or_len}
use Rattle.std.proofs.lemmas.Bool.{and_parts, and_from, or_left, or_right, or_cases, cases_lt, ltb-true}
use Rattle.std.proofs.lemmas.List.Sums.{sum_by-cons}
use Rattle.sc_base.specs.declared.value.Value.{Value}
use Rattle.sc_base.specs.declared.value.Place.{Place}
use Rattle.sc_base.specs.declared.value.End.TheVariants as kind
use Rattle.sc_isa.specs.declared.access.Track.{Track}
use Rattle.sc_isa.specs.declared.journal.Entry.{Entry}
use Rattle.sc_isa.specs.declared.journal.Entry.TheVariants.{Issued, Delivered, Waited, Arrived as Arrives, Passed, Finished}
use Rattle.sync_book.specs.declared.standing.Standing.{Standing}
use Rattle.sync_book.specs.declared.standing.Standing.TheVariants.{Away, Arrived, Released}
use Rattle.sync_book.specs.Book.{NodeBook, Book, fresh_node, node_at, is_arrived, waits_for_stores, gap_of, broken_by, stands, is_settled}
use Rattle.fabric.specs.Access.{is_store, is_covered, track_of, transfer_of}
use Rattle.fabric.specs.Effects.{effects}
use Rattle.effect_order.specs.Effect.{Effect}
use Rattle.fabric.specs.Barriers.{arrivals, passes, released, stores_at, finished}
use Rattle.fabric.specs.Books.{with_stores, standing_of}
use Rattle.fabric.specs.Flight.{flying_count, in_flight}
use Rattle.fabric.specs.Outstanding.{open_in, open_cells}
use Rattle.fabric.specs.Wired.{AllDone, Running, PassWired, StandsNext, IsBroken, Wired}
use Rattle.fabric.specs.Causes.{is_released, is_closed, may_pass}
use Rattle.fabric.specs.State.{State, start_of, nodes_of}
use Rattle.fabric.specs.Kept.{IsOfJournal}
use Rattle.fabric.proofs.Barrier.{stand}
use Rattle.fabric.proofs.BookSteps.{Where, AtNone, LetGo, AtNext, where_is, arrived_next, is_waiting, is_let_go}
use Rattle.fabric.proofs.Calls.{in_book, stands_in_book, may_finish}
use Rattle.fabric.proofs.Counting.{outstanding_flies}
use Rattle.fabric.proofs.Done.{done_all}
use Rattle.fabric.proofs.Gaps.{pass_first, pass_later}

-- ---- none outstanding of each node is none outstanding

none_of_each : (start : Place → Value) (nodes : ℕ) (on : Track → Bool) (earlier : List Effect) (past : List Entry) → Wired start nodes past
    → ((node : ℕ) → node < nodes → open_in start (λ other. other == node) on earlier past ≡ 0) → open_in start (λ other. true) on earlier past ≡ 0
none_of_each start nodes on earlier [] w h = refl
none_of_each start nodes on earlier (Issued q n a ∷ past) w h =
    by (on (track_of a)) (none_of_each start nodes on earlier past w.1 (λ node lt. less (q == node) (on (track_of a)) _ _ (h node lt)))
    (own (q == q) (on (track_of a)) _ _ (eq-eqb q q refl) (h q w.0.going.running.node_within))
  where
    cells : ℕ
    cells = open_cells start (transfer_of a) q n (transfer_of a).cells earlier

    less : (b t : Bool) (x c : ℕ) → (if b && t then x + c else x) ≡ 0 → x ≡ 0
    less true true x c e = omega (arith, e)
    less true false x c e = e
    less false t x c e = e

    own : (b t : Bool) (x c : ℕ) → b ≡ true → (if b && t then x + c else x) ≡ 0 → t ≡ true → c ≡ 0
    own true true x c e z y = omega (arith, z)
    own true false x c e z y = cc
    own false t x c e z y = cc

    by : (t : Bool) → open_in start (λ other. true) on earlier past ≡ 0 → (t ≡ true → cells ≡ 0)
        → (if true && t then open_in start (λ other. true) on earlier past + cells else open_in start (λ other. true) on earlier past) ≡ 0
    by true x c = let d = c refl in omega (arith, x, d)
    by false x c = x
none_of_each start nodes on earlier (Delivered q n c v ∷ past) w h = none_of_each start nodes on earlier past w.1 h
none_of_each start nodes on earlier (Waited q c ∷ past) w h = none_of_each start nodes on earlier past w.1 h
none_of_each start nodes on earlier (Arrives q s ∷ past) w h = none_of_each start nodes on earlier past w.1 h
none_of_each start nodes on earlier (Passed q ∷ past) w h = none_of_each start nodes on earlier past w.1 h
none_of_each start nodes on earlier (Finished q e ∷ past) w h = none_of_each start nodes on earlier past w.1 h

none_flies : (start : Place → Value) (nodes : ℕ) (on : Track → Bool) (past : List Entry) → Wired start nodes past
    → ((node : ℕ) → node < nodes → AllDone start past on node) → flying_count (λ other. true) on (in_flight start past) ≡ 0
none_flies start nodes on past w d =
    sym (outstanding_flies start nodes (λ other. true) on past w)
    ∙ none_of_each start nodes on (effects start past) past w (λ node lt. done_all start nodes on node past w (d node lt))

-- an arrival that waits for stores does so at its own number
waits_at : (node : ℕ) (past : List Entry) → with_stores node past ≡ true → stores_at (arrivals node past) past ≡ true
waits_at node [] h = cc
waits_at node (Issued q n a ∷ past) h = waits_at node past h
waits_at node (Delivered q n c v ∷ past) h = waits_at node past h
waits_at node (Waited q c ∷ past) h = waits_at node past h
waits_at node (Passed q ∷ past) h = waits_at node past h
waits_at node (Finished q e ∷ past) h = waits_at node past h
waits_at node (Arrives q s ∷ past) h = by (q == node) refl h (λ y. waits_at node past y)
  where
    by : (b : Bool) → (q == node) ≡ b → (if b then s else with_stores node past) ≡ true → (with_stores node past ≡ true → stores_at (arrivals node past) past ≡ true)
        → ((s && (arrivals q past + 1 == (if b then arrivals node past + 1 else arrivals node past))) || stores_at (if b then arrivals node past + 1 else arrivals node past) past) ≡ true
    by true e y rec =
        or_left (s && (arrivals q past + 1 == arrivals node past + 1)) (stores_at (arrivals node past + 1) past)
        (and_from s (arrivals q past + 1 == arrivals node past + 1) y
        (eq-eqb (arrivals q past + 1) (arrivals node past + 1) (ap (λ k. arrivals k past + 1) (eqb-true q node e))))
    by false e y rec = or_right (s && (arrivals q past + 1 == arrivals node past)) (stores_at (arrivals node past) past) (rec y)

-- ---- rows

abbrev one_if : Bool → ℕ
one_if b = cond b 1 0

none_counted : (rows : List NodeBook) (d : NodeBook) (p : NodeBook → Bool) → ((i : ℕ) → i < length rows → p (slice_index_or rows i d) ≡ false) → count_by p rows ≡ 0
none_counted [] d p f = refl
none_counted (x ∷ xs) d p f =
    sum_by-cons (λ y. cond (p y) 1 0) x xs
    ∙ (let a : one_if (p x) ≡ 0 = ap one_if (f 0 (omega arith)) in let r = none_counted xs d p (λ i lt. f (suc i) (omega arith)) in omega (arith, a, r))

one_of_any : (rows : List NodeBook) (d : NodeBook) (p : NodeBook → Bool) → list_any p rows ≡ true → (i : ℕ) × (i < length rows) × (p (slice_index_or rows i d) ≡ true)
one_of_any [] d p h = cc
one_of_any (x ∷ xs) d p h =
    ⊎_elim (λ a. (0, omega arith, a)) (λ r. let f = one_of_any xs d p r in (suc f.0, (let b = f.1 in omega (arith, b)), f.2)) (or_cases (p x) (list_any p xs) h)

each_of_all : (rows : List NodeBook) (d : NodeBook) (p : NodeBook → Bool) → list_all p rows ≡ true → (i : ℕ) → i < length rows → p (slice_index_or rows i d) ≡ true
each_of_all [] d p h i lt = absurd (omega arith)
each_of_all (x ∷ xs) d p h zero lt = (and_parts (p x) (list_all p xs) h).0
each_of_all (x ∷ xs) d p h (suc i) lt = each_of_all xs d p (and_parts (p x) (list_all p xs) h).1 i (omega arith)

at_place : (rows : List NodeBook) (d : NodeBook) (p : NodeBook → Bool) → position_or_len p rows < length rows → (i : ℕ) × (i < length rows) × (p (slice_index_or rows i d) ≡ true)
at_place [] d p h = absurd (omega arith)
at_place (x ∷ xs) d p h = by (p x) refl h (λ y. at_place xs d p y)
  where
    by : (b : Bool) → p x ≡ b → cond (not b) (1 + position_or_len p xs) 0 < suc (length xs)
        → (position_or_len p xs < length xs → (i : ℕ) × (i < length xs) × (p (slice_index_or xs i d) ≡ true))
        → (i : ℕ) × (i < suc (length xs)) × (p (slice_index_or (x ∷ xs) i d) ≡ true)
    by true e y rec = (0, omega arith, e)
    by false e y rec = let f = rec (omega (arith, y)) in (suc f.0, (let b = f.1 in omega (arith, b)), f.2)

-- ---- what the books of a journal say

module _ (state : State) (j : IsOfJournal state) (node : ℕ) (run : Running (nodes_of state) state.past node)
    (at : arrivals node state.past ≡ passes node state.past + 1) where
  abbrev past : List Entry
  past = state.past

  abbrev book : Book
  book = state.book

  waits_not : standing_of node past ≡ Away → ⊥
  waits_not e = by (standing_of node past) (where_is node past) e
    where
      by : (s : Standing) → Where node past s → s ≡ Away → ⊥
      by Away (AtNone free) h = omega arith
      by Released (LetGo ne le) h = cc
      by (Arrived b) (AtNext ne lt) h = cc

  pub passes_wired : may_pass book node ≡ true → PassWired (start_of state) (nodes_of state) past node
  passes_wired h =
      ⊎_elim
      (λ r. pass_later (start_of state) (nodes_of state) past node j.wired run (sym (stands_in_book state node j run.node_within) ∙ released_is (node_at book node).standing r))
      (λ c. let two = and_parts ((gap_of book).missing == 0) ((gap_of book).flying == 0) c in
      pass_first (start_of state) (nodes_of state) past book node j.wired j.rows run j.stands j.counts
      (record { all_arrived = eqb-true _ _ two.0; none_flying = eqb-true _ _ two.1 }))
      (or_cases (is_released (node_at book node).standing) (is_closed (gap_of book)) h)
    where
      released_is : (s : Standing) → is_released s ≡ true → s ≡ Released
      released_is Away e = cc
      released_is (Arrived b) e = cc
      released_is Released e = refl

  pub wired_passes : PassWired (start_of state) (nodes_of state) past node → may_pass book node ≡ true
  wired_passes p = ⊎_elim first later (cases_lt (released past) (passes node past + 1))
    where
      later : passes node past + 1 ≤ released past → may_pass book node ≡ true
      later le =
          or_left (is_released (node_at book node).standing) (is_closed (gap_of book))
          (ap is_released (stands_in_book state node j run.node_within ∙ is_let_go node past (λ e. omega arith) (omega arith)))

      first : released past < passes node past + 1 → may_pass book node ≡ true
      first lt =
          or_right (is_released (node_at book node).standing) (is_closed (gap_of book))
          (and_from ((gap_of book).missing == 0) ((gap_of book).flying == 0) (eq-eqb _ 0 missing) (eq-eqb _ 0 flying))
        where
          standing : (other : ℕ) → other < length book.nodes → (node_at book other).standing ≡ Arrived (with_stores other past)
          standing other below =
              let inside : other < nodes_of state = subst (λ n. other < n) j.rows below in
              let a = p.all_arrived other inside in
              let s = stand (start_of state) (nodes_of state) past j.wired other inside in
              let b = s.passed_below in
              stands_in_book state other j inside ∙ is_waiting other past (λ e. absurd (omega (arith, e, a, b, lt))) (omega (arith, a, lt))

          missing : (gap_of book).missing ≡ 0
          missing = none_counted book.nodes (fresh_node book.sites) (λ row. not (is_arrived row.standing)) (λ i below. ap (λ (s : Standing). not (is_arrived s)) (standing i below))

          covered : book.covered ≡ 0
          covered = j.counts.covered ∙ none_flies (start_of state) (nodes_of state) is_covered past j.wired (p.covered_done lt)

          stores : list_any (λ row. waits_for_stores row.standing) book.nodes ≡ true → book.stores ≡ 0
          stores h =
              let f = one_of_any book.nodes (fresh_node book.sites) (λ row. waits_for_stores row.standing) h in
              let inside : f.0 < nodes_of state = subst (λ n. f.0 < n) j.rows f.1 in
              let a = p.all_arrived f.0 inside in
              let s = stand (start_of state) (nodes_of state) past j.wired f.0 inside in
              let b = s.passed_below in let c = s.arrived_once in
              let w : with_stores f.0 past ≡ true = sym (ap waits_for_stores (standing f.0 f.1)) ∙ f.2 in
              let m : arrivals f.0 past ≡ passes node past + 1 = omega (arith, a, b, c, lt) in
              j.counts.stores ∙ none_flies (start_of state) (nodes_of state) is_store past j.wired
              (p.stores_done lt (subst (λ k. stores_at k past ≡ true) m (waits_at f.0 past w)))

          flying : (gap_of book).flying ≡ 0
          flying = by (list_any (λ row. waits_for_stores row.standing) book.nodes) covered stores
            where
              by : (b : Bool) → book.covered ≡ 0 → (b ≡ true → book.stores ≡ 0) → book.covered + (if b then book.stores else 0) ≡ 0
              by true c s = let d = s refl in omega (arith, c, d)
              by false c s = omega (arith, c)

  pub broken_wired : may_pass book node ≡ false → is_some (broken_by book) ≡ true → IsBroken (nodes_of state) past node
  broken_wired stays h = whole (list_any stands book.nodes && list_all is_settled book.nodes) refl h
    where
      next : released past < arrivals node past
      next = by (standing_of node past) (where_is node past) (sym (stands_in_book state node j run.node_within))
        where
          by : (s : Standing) → Where node past s → s ≡ (node_at book node).standing → released past < arrivals node past
          by Away (AtNone free) e = absurd (omega arith)
          by Released (LetGo ne le) e =
              absurd (let r : is_released (node_at book node).standing ≡ true = sym (ap is_released e) in
              let m : may_pass book node ≡ true = or_left (is_released (node_at book node).standing) (is_closed (gap_of book)) r in
              let z : true ≡ false = sym m ∙ stays in cc)
          by (Arrived b) (AtNext ne lt) e = lt

      whole : (b : Bool) → (list_any stands book.nodes && list_all is_settled book.nodes) ≡ b → is_some (if b then position (λ row. row.finished) book.nodes else None) ≡ true
          → IsBroken (nodes_of state) past node
      whole false e i = cc
      whole true e i =
          let two = and_parts (list_any stands book.nodes) (list_all is_settled book.nodes) e in
          let f = at_place book.nodes (fresh_node book.sites) (λ row. row.finished) (found (nat_lt (position_or_len (λ (row : NodeBook). row.finished) book.nodes) (length book.nodes)) refl i) in
          let inside : f.0 < nodes_of state = subst (λ n. f.0 < n) j.rows f.1 in
          let s = stand (start_of state) (nodes_of state) past j.wired node run.node_within in
          let b = s.passed_below in let n = next in
          record {
            stands = omega arith;
            others = λ other below. others other below two.1;
            gone = f.0;
            gone_within = inside;
            is_gone = sym (j.stands.ended f.0 f.1) ∙ f.2;
          }
        where
          found : (t : Bool) → nat_lt (position_or_len (λ (row : NodeBook). row.finished) book.nodes) (length book.nodes) ≡ t
              → is_some (cond t (Some (position_or_len (λ (row : NodeBook). row.finished) book.nodes)) None) ≡ true
              → position_or_len (λ (row : NodeBook). row.finished) book.nodes < length book.nodes
          found true e y = ltb-true _ _ e
          found false e y = cc

          others : (other : ℕ) → other < nodes_of state → list_all is_settled book.nodes ≡ true → StandsNext past other ⊎ IsSome (finished other past)
          others other below all =
              let in_rows : other < length book.nodes = in_book state other j below in
              let settled = each_of_all book.nodes (fresh_node book.sites) is_settled all other in_rows in
              ⊎_elim
              (λ a. inl (let n : released past < arrivals other past = arrived_next other past (standing_of other past) (where_is other past)
              (subst (λ t. is_arrived t ≡ true) (stands_in_book state other j below) a) in
              let s = stand (start_of state) (nodes_of state) past j.wired other below in
              let b = s.passed_below in let c = s.arrived_once in omega arith))
              (λ g. inr (sym (j.stands.ended other in_rows) ∙ g))
              (or_cases (is_arrived (node_at book other).standing) (node_at book other).finished settled)

  pub wired_broken : IsBroken (nodes_of state) past node → is_some (broken_by book) ≡ true
  wired_broken b =
      let m = may_finish state node kind.Waiting j (record { running = run; broken = b }) in
      ⊎_elim (λ a. absurd (waits_not (sym (stands_in_book state node j run.node_within) ∙ a))) (λ r. r.1) m.free
