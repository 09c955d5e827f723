-- What the books say of the next release is what the journal says.
use Rattle.std.proofs.Common.{◌≡◌, ⊎_elim, ℕ, zero, suc, ◌+◌, ◌<◌, ◌≤◌, List, [], ◌∷◌, length, Bool, true, false, not, ◌&&◌, ◌||◌, ◌==◌, refl, sym, ap, ◌∙◌, subst, arith}
use Rattle.std.specs.Prelude.{if◌then◌else◌, slice_index_or, count_by, cond}
use Rattle.std.specs.List.{list_any}
use Rattle.std.proofs.lemmas.Bool.{eq-eqb, ne_eqb, eqb-true, and_parts, or_cases}
use Rattle.std.proofs.lemmas.List.Sums.{sum_by-cons}
use Rattle.sc_base.specs.declared.value.Value.{Value}
use Rattle.sc_base.specs.declared.value.Place.{Place}
use Rattle.sc_isa.specs.declared.access.Track.{Track}
use Rattle.sc_isa.specs.declared.journal.Entry.{Entry}
use Rattle.sc_isa.specs.declared.journal.Entry.TheVariants.{Issued, Delivered, Waited, Arrived as Arrives, Passed, Finished}
use Rattle.msg_pool.specs.declared.message.Message.{Message}
use Rattle.sync_book.specs.declared.standing.Standing.{Standing}
use Rattle.sync_book.specs.declared.standing.Standing.TheVariants.{Away, Arrived, Released}
use Rattle.sync_book.specs.Book.{NodeBook, Book, fresh_node, node_at, is_arrived, waits_for_stores, CanRelease}
use Rattle.fabric.specs.Access.{is_store, is_covered}
use Rattle.fabric.specs.Barriers.{arrivals, passes, released, stores_at}
use Rattle.fabric.specs.Flight.{flying_count, one_if, in_flight}
use Rattle.fabric.specs.Wired.{AllDone, Running, PassWired, Wired}
use Rattle.fabric.specs.Books.{with_stores, standing_of, Counts, Stands}
use Rattle.fabric.proofs.Deciding.{decide_on}
use Rattle.fabric.proofs.Barrier.{stand}
use Rattle.fabric.proofs.BookSteps.{Where, AtNone, LetGo, AtNext, where_is, arrived_next, is_waiting}
use Rattle.fabric.proofs.Counting.{outstanding_flies}
use Rattle.fabric.proofs.Done.{all_done}

-- ---- rows

-- the test holds of each row, by number
abbrev pub EachRow : Book → (NodeBook → Type 0) → Type 0
EachRow book P = (node : ℕ) → node < length book.nodes → P (node_at book node)

counted : (p : NodeBook → Bool) (x : NodeBook) (xs : List NodeBook) → count_by p (x ∷ xs) ≡ cond (p x) 1 0 + count_by p xs
counted p x xs = sum_by-cons (λ y. cond (p y) 1 0) x xs

none_missing : (rows : List NodeBook) (d : NodeBook) (p : NodeBook → Bool) → count_by p rows ≡ 0 → (i : ℕ) → i < length rows → p (slice_index_or rows i d) ≡ false
none_missing [] d p h i b = absurd (omega arith)
none_missing (x ∷ xs) d p h zero b = one (p x) (count_by p xs) (sym (counted p x xs) ∙ h)
  where
    one : (t : Bool) (n : ℕ) → cond t 1 0 + n ≡ 0 → t ≡ false
    one true n e = absurd (omega arith)
    one false n e = refl
none_missing (x ∷ xs) d p h (suc i) b = none_missing xs d p (rest (p x) (count_by p xs) (sym (counted p x xs) ∙ h)) i (omega arith)
  where
    rest : (t : Bool) (n : ℕ) → cond t 1 0 + n ≡ 0 → n ≡ 0
    rest true n e = absurd (omega arith)
    rest false n e = omega (arith, e)

none_any : (rows : List NodeBook) (d : NodeBook) (p : NodeBook → Bool) → list_any p rows ≡ false → (i : ℕ) → i < length rows → p (slice_index_or rows i d) ≡ false
none_any [] d p h i b = absurd (omega arith)
none_any (x ∷ xs) d p h zero b = first (p x) (list_any p xs) h
  where
    first : (t u : Bool) → (t || u) ≡ false → t ≡ false
    first false u e = refl
    first true u e = cc
none_any (x ∷ xs) d p h (suc i) b = none_any xs d p (rest (p x) (list_any p xs) h) i (omega arith)
  where
    rest : (t u : Bool) → (t || u) ≡ false → u ≡ false
    rest false u e = e
    rest true u e = cc

-- ---- what lets a barrier go

free_of_covered : (b : Bool) (covered stores : ℕ) → covered + (if b then stores else 0) ≡ 0 → (covered ≡ 0) × (b ≡ true → stores ≡ 0)
free_of_covered true covered stores h = (omega (arith, h), λ e. omega (arith, h))
free_of_covered false covered stores h = (omega (arith, h), λ e. absurd (let x : false ≡ true = e in cc))

pub all_next : (past : List Entry) (book : Book) → Stands past book → CanRelease book → (node : ℕ) → node < length book.nodes → released past < arrivals node past
all_next past book s c node within =
    let missing : not (is_arrived (node_at book node).standing) ≡ false =
    none_missing book.nodes (fresh_node book.sites) (λ row. not (is_arrived row.standing)) c.all_arrived node within in
    arrived_next node past (standing_of node past) (where_is node past)
    (subst (λ t. is_arrived t ≡ true) (s.standing node within) (not_false (is_arrived (node_at book node).standing) missing))
  where
    not_false : (t : Bool) → not t ≡ false → t ≡ true
    not_false true h = refl
    not_false false h = cc

-- none outstanding of all is none of one
less_of_one : (on : Track → Bool) (node : ℕ) (ms : List Message) → flying_count (λ other. other == node) on ms ≤ flying_count (λ other. true) on ms
less_of_one on node [] = omega arith
less_of_one on node (m ∷ ms) = by_tests (m.issuer == node) (on m.track) _ _ (less_of_one on node ms)
  where
    by_tests : (a b : Bool) (x y : ℕ) → x ≤ y → one_if (a && b) + x ≤ one_if (true && b) + y
    by_tests true b x y h = omega (arith, h)
    by_tests false true x y h = omega (arith, h)
    by_tests false false x y h = omega (arith, h)

pub done_of_none : (start : Place → Value) (nodes : ℕ) (on : Track → Bool) (past : List Entry) → Wired start nodes past → flying_count (λ other. true) on (in_flight start past) ≡ 0
    → (node : ℕ) → AllDone start past on node
done_of_none start nodes on past w h node =
    all_done start on node past
    (outstanding_flies start nodes (λ other. other == node) on past w ∙ (let le = less_of_one on node (in_flight start past) in omega (arith, le, h)))

-- an arrival at the m-th release that waits for stores is that of a node that stands there
stores_of : (start : Place → Value) (nodes : ℕ) (past : List Entry) (m : ℕ) → Wired start nodes past → stores_at m past ≡ true
    → ((node : ℕ) → node < nodes → arrivals node past ≤ m) → (node : ℕ) × (node < nodes) × (with_stores node past ≡ true) × (arrivals node past ≡ m)
stores_of start nodes [] m w h most = cc
stores_of start nodes (Arrives q s ∷ past) m w h most =
    ⊎_elim
    (λ own. let two = and_parts s (arrivals q past + 1 == m) own in
    let here : (q == q) ≡ true = eq-eqb q q refl in
    let is : arrivals q past + 1 ≡ m = eqb-true _ _ two.1 in
    (q, w.0.running.node_within, rw here two.0, rw here is))
    (λ rest. let f = stores_of start nodes past m w.1 rest (λ node below. (let le : arrivals node (Arrives q s ∷ past) ≤ m = most node below in fewer (q == node) (arrivals node past) m le)) in
    let differ : q ≡ f.0 → ⊥ = λ same. (let le : arrivals f.0 (Arrives q s ∷ past) ≤ m = most f.0 f.1 in
    let more : arrivals f.0 past + 1 ≤ m = rw (eq-eqb q f.0 same) at le in absurd (omega (arith, more, f.3))) in
    (f.0, f.1, rw (ne_eqb q f.0 differ) f.2, rw (ne_eqb q f.0 differ) f.3))
    (or_cases (s && (arrivals q past + 1 == m)) (stores_at m past) h)
  where
    fewer : (b : Bool) (n m : ℕ) → (if b then n + 1 else n) ≤ m → n ≤ m
    fewer true n m h = omega arith
    fewer false n m h = h
stores_of start nodes (Issued q k a ∷ past) m w h most = stores_of start nodes past m w.1 h most
stores_of start nodes (Delivered q k c v ∷ past) m w h most = stores_of start nodes past m w.1 h most
stores_of start nodes (Waited q c ∷ past) m w h most = stores_of start nodes past m w.1 h most
stores_of start nodes (Passed q ∷ past) m w h most = stores_of start nodes past m w.1 h most
stores_of start nodes (Finished q e ∷ past) m w h most = stores_of start nodes past m w.1 h most

-- the first pass of a release that the books allow
pub pass_first : (start : Place → Value) (nodes : ℕ) (past : List Entry) (book : Book) (q : ℕ) → Wired start nodes past → length book.nodes ≡ nodes → Running nodes past q
    → Stands past book → Counts (in_flight start past) book → CanRelease book → PassWired start nodes past q
pass_first start nodes past book q w count run s counts c =
    let free = free_of_covered (list_any (λ row. waits_for_stores row.standing) book.nodes) book.covered book.stores c.none_flying in
    record {
      running = run;
      all_arrived = λ other below. (let a = next other below in let t = stand start nodes past w q run.node_within in omega (arith, a, t.passed_below));
      covered_done = λ before other below. done_of_none start nodes is_covered past w (sym counts.covered ∙ free.0) other;
      stores_done = λ before waits other below. done_of_none start nodes is_store past w (sym counts.stores ∙ free.1 (stores_wait waits)) other;
    }
  where
    next : (node : ℕ) → node < nodes → released past < arrivals node past
    next node below = all_next past book s c node (subst (λ n. node < n) (sym count) below)

    m_is : passes q past + 1 ≡ released past + 1
    m_is = (let t = stand start nodes past w q run.node_within in let a = next q run.node_within in omega (arith, t.passed_below, t.arrived_once, a))

    at_most : (node : ℕ) → node < nodes → arrivals node past ≤ passes q past + 1
    at_most node below = (let t = stand start nodes past w node below in omega (arith, m_is, t.arrived_once, t.passed_below))

    stores_wait : stores_at (passes q past + 1) past ≡ true → list_any (λ row. waits_for_stores row.standing) book.nodes ≡ true
    stores_wait waits =
        let f = stores_of start nodes past (passes q past + 1) w waits at_most in
        let inside : f.0 < length book.nodes = subst (λ n. f.0 < n) (sym count) f.1 in
        let a : released past < arrivals f.0 past = next f.0 f.1 in
        let t = stand start nodes past w f.0 f.1 in
        let at : (node_at book f.0).standing ≡ Arrived true =
        s.standing f.0 inside ∙ is_waiting f.0 past (λ e. absurd (omega (arith, e, t.passed_below))) a ∙ ap (λ b. Arrived b) f.2 in
        decide_on (list_any (λ row. waits_for_stores row.standing) book.nodes) (λ yes_it. yes_it)
        (λ none. absurd (let x : waits_for_stores (node_at book f.0).standing ≡ false = none_any book.nodes (fresh_node book.sites) (λ row. waits_for_stores row.standing) none f.0 inside in
        let y : waits_for_stores (node_at book f.0).standing ≡ true = ap waits_for_stores at in
        let z : true ≡ false = sym y ∙ x in cc))

-- a later pass, of a release that was passed before
pub pass_later : (start : Place → Value) (nodes : ℕ) (past : List Entry) (q : ℕ) → Wired start nodes past → Running nodes past q → standing_of q past ≡ Released → PassWired start nodes past q
pass_later start nodes past q w run st =
    let f = let_go q past (standing_of q past) (where_is q past) st in
    let t = stand start nodes past w q run.node_within in
    let m : passes q past + 1 ≤ released past = omega (arith, t.passed_arrived, t.arrived_once, f.0, f.1) in
    record {
      running = run;
      all_arrived = λ other below. (let o = stand start nodes past w other below in omega (arith, m, o.reached));
      covered_done = λ before. absurd (omega arith);
      stores_done = λ before. absurd (omega arith);
    }
  where
    let_go : (q : ℕ) (past : List Entry) (s : Standing) → Where q past s → s ≡ Released → (arrivals q past ≡ passes q past → ⊥) × (arrivals q past ≤ released past)
    let_go q past Away (AtNone free) e = cc
    let_go q past Released (LetGo ne le) e = (ne, le)
    let_go q past (Arrived b) (AtNext ne lt) e = cc
