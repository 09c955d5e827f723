-- What is kept answers each question that a legal history asks of the events before it.
use Rattle.std.proofs.Common.{◌≡◌, ⊎_elim, ℕ, zero, suc, ◌+◌, ◌<◌, ◌≤◌, List, [], ◌∷◌, length, map, Option, Some, None, Bool, true, false, not, ◌==◌, ◌&&◌, ◌||◌, refl, sym, ap, ◌∙◌, subst, if◌then◌else◌, arith, slice_get, get_or, is_none, lt-ltb, filter, pos}
use Rattle.std.specs.Prelude.{IsSome, nat_lt}
use Rattle.std.specs.Bool.{Decides}
use Rattle.std.specs.List.{list_all, list_any}
use Rattle.std.specs.Option.{option_map_or, option_map, unwrap_or}
use Rattle.std.proofs.lemmas.Bool.{and_parts, and_from}
use Rattle.std.proofs.lemmas.Bool.Decides.{leb_tells, Decides-ltb, Decides-eqb, Decides-and, Decides-like}
use Rattle.std.proofs.lemmas.Option.{slice_get-get_or, slice_get_past, slice_get-map}
use Rattle.sc_base.specs.declared.value.CopyMode.{CopyMode}
use Rattle.sc_base.specs.declared.value.CopyMode.TheVariants.{Blocking, Split, OneWay}
use Rattle.sc_base.specs.declared.value.End.{End}
use Rattle.sc_base.specs.declared.value.End.TheVariants.{Ended, Fault, Cut, Waiting}
use Rattle.sc_base.specs.declared.value.Place.{Place}
use Rattle.sc_base.specs.declared.value.Value.{Value}
use Rattle.sc_base.specs.declared.value.Value.TheVariants.{Int}
use Rattle.effect_order.specs.Effect.{same_value}
use Rattle.effect_order.specs.Transfer.{part_value, part_place, written, or_read, AllOccurred}
use Rattle.sc_meaning.specs.declared.request.Request.{Request}
use Rattle.sc_meaning.specs.declared.request.Request.TheVariants as ask
use Rattle.sc_meaning.specs.declared.event.SourceEvent.{SourceEvent}
use Rattle.sc_meaning.specs.declared.event.SourceEvent.TheVariants.{Effect}
use Rattle.sc_meaning.specs.Parts.{transfer_of, is_issued, is_get, is_blocking_copy, is_split, is_one_way}
use Rattle.sc_meaning.specs.Past.{Processes, effects, shown, releases, arrivals, stores_at, ended, issued_since, got, gets_among, or_zero, request_at}
use Rattle.sc_meaning.specs.History.{AllDone, GoesOn, EffectAllowed, ReleaseAllowed}
use Rattle.sc_meaning.specs.Test.{may_occur, holds_place, holds_value}
use Rattle.sc_meaning.specs.Whole.{Complete, IsForsaken}
use Rattle.meaning_laws.proofs.Decided.{le_decides, none_decides}
use Rattle.meaning_laws.proofs.Exact.{test_is_exact}
use Rattle.replay_books.specs.Entry.{EntryBook, part_of, written_in, given_or, may_occur_in}
use Rattle.replay_books.specs.Row.{RowBook, fresh_row, goes_on, all_over, is_of, landing, value_got, may_occur_at}
use Rattle.replay_books.specs.Tables.{TablesBook, row_at, goes_on_at, may_release_in, may_occur_in_tables, is_ready}
use Rattle.replay_books.specs.Tables.{stands_at, stands_in, is_complete_in, is_finished, left_behind, gone_before, ended_as}
use Rattle.replay_laws.specs.Keeps.{KeepsEntry, Keeps, KnowsAll, requests_of}
use Rattle.replay_laws.specs.Laws.{Stands, Answers, BooksAnswer}
use Rattle.replay_laws.proofs.Over.{over_decides, of_issued}

-- ---- tests of all rows

all_rows : {A : Type 0} (test : A → Bool) (d : A) (xs : List A) → list_all test xs ≡ true
    → (k : ℕ) → k < length xs → test (get_or xs k d) ≡ true
all_rows test d [] h k lt = absurd (omega arith)
all_rows test d (x ∷ xs) h zero lt = (and_parts (test x) (list_all test xs) h).0
all_rows test d (x ∷ xs) h (suc k) lt = all_rows test d xs (and_parts (test x) (list_all test xs) h).1 k (omega arith)

from_rows : {A : Type 0} (test : A → Bool) (d : A) (xs : List A) → ((k : ℕ) → k < length xs → test (get_or xs k d) ≡ true)
    → list_all test xs ≡ true
from_rows test d [] h = refl
from_rows test d (x ∷ xs) h =
    and_from (test x) (list_all test xs) (h zero (omega arith)) (from_rows test d xs (λ k lt. h (suc k) (omega arith)))

some_row : {A : Type 0} (test : A → Bool) (d : A) (xs : List A) → list_any test xs ≡ true
    → (k : ℕ) × (k < length xs) × (test (get_or xs k d) ≡ true)
some_row test d [] h = absurd cc
some_row test d (x ∷ xs) h = by (test x) refl h (λ g. some_row test d xs g)
  where
    by : (b : Bool) → test x ≡ b → (b || list_any test xs) ≡ true
        → (list_any test xs ≡ true → (k : ℕ) × (k < length xs) × (test (get_or xs k d) ≡ true))
        → (k : ℕ) × (k < length (x ∷ xs)) × (test (get_or (x ∷ xs) k d) ≡ true)
    by true e g f = (zero, omega arith, e)
    by false e g f = let r = f g in (suc r.0, (let lt = r.1 in omega arith), r.2)

any_from : {A : Type 0} (test : A → Bool) (d : A) (xs : List A) (k : ℕ) → k < length xs → test (get_or xs k d) ≡ true
    → list_any test xs ≡ true
any_from test d [] k lt e = absurd (omega arith)
any_from test d (x ∷ xs) zero lt e = ap (λ b. b || list_any test xs) e
any_from test d (x ∷ xs) (suc k) lt e = by (test x) (any_from test d xs k (omega arith) e)
  where
    by : (b : Bool) → list_any test xs ≡ true → (b || list_any test xs) ≡ true
    by true g = refl
    by false g = g

only_if : (a b : Bool) (P : Type 0) → Decides b P → Decides (not a || b) (a ≡ true → P)
only_if true b P d = (λ e h. d.0 e, λ h. d.1 (h refl))
only_if false b P d = (λ e h. absurd cc, λ h. refl)

module _ (processes : Processes) (past : List SourceEvent) (t : TablesBook) (all : KnowsAll processes past t) where
  abbrev nodes : ℕ
  nodes = processes.nodes

  k : Keeps nodes past t
  k = all.keeps

  here : (node : ℕ) → node < nodes → slice_get t.rows node ≡ Some (row_at t node)
  here node lt = slice_get-get_or t.rows node fresh_row (let a = k.all in omega arith)

  nowhere : (node : ℕ) → nodes ≤ node → slice_get t.rows node ≡ None
  nowhere node le = slice_get_past t.rows node (let a = k.all in omega arith)

  over : (mode : CopyMode) (node : ℕ) → node < nodes → Decides (all_over mode (row_at t node)) (AllDone processes (is_of mode) node past)
  over mode node lt = over_decides processes node past (row_at t node) (k.rows node lt) (all.requests node lt) mode

  -- a test of a node's row, where there is such a node
  at_row : (test : RowBook → Bool) (P : Type 0) (node : ℕ) → (P → node < nodes)
      → (node < nodes → Decides (test (row_at t node)) P) → Decides (option_map_or test (slice_get t.rows node) false) P
  at_row test P node within d =
      ⊎_elim
      (λ q. let lt : node < nodes = (let l = q.1 in omega arith) in
      let e : option_map_or test (slice_get t.rows node) false ≡ test (row_at t node) = ap (λ o. option_map_or test o false) (here node lt) in
      (λ h. (d lt).0 (sym e ∙ h), λ p. e ∙ (d lt).1 p))
      (λ q. let e : option_map_or test (slice_get t.rows node) false ≡ false = ap (λ o. option_map_or test o false) (nowhere node (let l = q.1 in omega arith)) in
      (λ h. (let c : true ≡ false = sym h ∙ e in absurd cc), λ p. let lt = within p in let l = q.1 in absurd (omega arith)))
      (leb_tells (suc node) nodes)

  ends_none : (node : ℕ) → node < nodes → Decides (is_none (row_at t node).ended) (ended node past ≡ None)
  ends_none node lt =
      let d = none_decides (row_at t node).ended in
      let e = (k.rows node lt).ended in
      (λ h. sym e ∙ d.0 h, λ h. d.1 (e ∙ h))

  goes : (node : ℕ) → Decides (goes_on_at t node) (GoesOn processes past node)
  goes node =
      at_row (goes_on t.releases) (GoesOn processes past node) node (λ h. h.node_within)
      (λ lt.
      let r = k.rows node lt in
      Decides-like (goes_on t.releases (row_at t node))
      (λ h. record {
        node_within = lt;
        running = h.0;
        copies_done = h.1.0;
        released = (let a = r.arrived in let b = k.released in let l = h.1.1 in omega arith);
      })
      (λ h. (h.running, (h.copies_done, (let a = r.arrived in let b = k.released in let l = h.released in omega arith))))
      (Decides-and _ _ (ends_none node lt)
      (Decides-and _ _ (over Blocking node lt) (le_decides (row_at t node).arrived t.releases))))

  -- ---- parts

  entry_may : (node number : ℕ) (e : EntryBook) → KeepsEntry node number past e → (cell : ℕ) (wrote : Bool) (place : Place) (value : Value)
      → may_occur_in e cell wrote place value (shown processes.start place past)
      ≡ may_occur processes past node number cell wrote place value e.request
  entry_may node number e h cell wrote place value = by (is_issued e.request) refl
    where
      known : (o : Option Value) (a b : Option Value) → a ≡ b → given_or o a ≡ or_read o node number cell (effects past)
          → given_or o a ≡ or_read o node number cell (effects past)
      known o a b e g = g

      same : is_issued e.request ≡ true → (o : Option Value) → given_or o (part_of e cell false) ≡ or_read o node number cell (effects past)
      same i None = h.parts i cell false
      same i (Some v) = refl

      by : (b : Bool) → is_issued e.request ≡ b
          → (b && (holds_place place (part_place (transfer_of e.request) cell wrote) && (is_none (part_of e cell wrote)
          && (if wrote then holds_value value (written_in e cell) else same_value value (shown processes.start place past)))))
          ≡ (b && (holds_place place (part_place (transfer_of e.request) cell wrote) && (is_none (part_value node number cell wrote (effects past))
          && (if wrote then holds_value value (written (transfer_of e.request) node number cell (effects past))
          else same_value value (shown processes.start place past)))))
      by false i = refl
      by true i =
          ap (λ o. holds_place place (part_place (transfer_of e.request) cell wrote) && (is_none o
          && (if wrote then holds_value value (written_in e cell) else same_value value (shown processes.start place past)))) (h.parts i cell wrote)
          ∙ ap (λ o. holds_place place (part_place (transfer_of e.request) cell wrote) && (is_none (part_value node number cell wrote (effects past))
          && (if wrote then holds_value value o else same_value value (shown processes.start place past)))) (same i (transfer_of e.request).value)

  may_same : (node number cell : ℕ) (wrote : Bool) (place : Place) (value : Value) → node < nodes
      → may_occur_at (row_at t node) number cell wrote place value (shown processes.start place past)
      ≡ option_map_or (may_occur processes past node number cell wrote place value) (request_at processes node number past) false
  may_same node number cell wrote place value lt =
      by (slice_get (row_at t node).entries number) refl
      ∙ ap (λ o. option_map_or (may_occur processes past node number cell wrote place value) o false)
      (sym (all.requests node lt number ∙ slice_get-map (λ e. e.request) (row_at t node).entries number))
    where
      by : (o : Option EntryBook) → slice_get (row_at t node).entries number ≡ o
          → option_map_or (λ e. may_occur_in e cell wrote place value (shown processes.start place past)) (slice_get (row_at t node).entries number) false
          ≡ option_map_or (may_occur processes past node number cell wrote place value)
          (option_map (λ e. e.request) (slice_get (row_at t node).entries number)) false
      by None g = rw g refl
      by (Some e) g = rw g (entry_may node number e ((k.rows node lt).entries number e g) cell wrote place value)

  occurs : (node number cell : ℕ) (wrote : Bool) (place : Place) (value : Value)
      → Decides (may_occur_in_tables t node number cell wrote place value (shown processes.start place past))
      (EffectAllowed processes past node number cell wrote place value)
  occurs node number cell wrote place value =
      let exact = test_is_exact processes past (Effect node number cell wrote place value) in
      at_row (λ row. may_occur_at row number cell wrote place value (shown processes.start place past)) _ node (λ h. h.node_within)
      (λ lt. let s = may_same node number cell wrote place value lt in (
        λ h. exact.0 (and_from _ _ (lt-ltb node nodes lt) (sym s ∙ h)),
        λ h. s ∙ (and_parts (nat_lt node nodes) _ (exact.1 h)).1,
      ))

  -- ---- gets

  get_issued : (r : Request) → is_get r ≡ true → is_issued r ≡ true
  get_issued (ask.Get place line) e = refl
  get_issued r e = absurd cc

  value_same : (node : ℕ) → node < nodes → (number : ℕ)
      → option_map_or is_get (slice_get (requests_of (row_at t node)) number) false ≡ true
      → value_got (row_at t node) number ≡ or_zero (part_value node number 0 false (effects past))
  value_same node lt number g = by (slice_get (row_at t node).entries number) refl
      (sym (ap (λ o. option_map_or is_get o false) (slice_get-map (λ e. e.request) (row_at t node).entries number)) ∙ g)
    where
      zero_is : (o : Option Value) → unwrap_or o (Int (pos 0)) ≡ or_zero o
      zero_is None = refl
      zero_is (Some v) = refl

      by : (o : Option EntryBook) → slice_get (row_at t node).entries number ≡ o
          → option_map_or is_get (option_map (λ e. e.request) (slice_get (row_at t node).entries number)) false ≡ true
          → value_got (row_at t node) number ≡ or_zero (part_value node number 0 false (effects past))
      by None e h = let c : false ≡ true = sym (ap (λ o. option_map_or is_get (option_map (λ (x : EntryBook). x.request) o) false) e) ∙ h in absurd cc
      by (Some e) q h =
          let i : is_get e.request ≡ true = sym (ap (λ o. option_map_or is_get (option_map (λ (x : EntryBook). x.request) o) false) q) ∙ h in
          ap (λ o. option_map_or (λ x. unwrap_or (part_of x 0 false) (Int (pos 0))) o (Int (pos 0))) q
          ∙ zero_is (part_of e 0 false)
          ∙ ap or_zero (((k.rows node lt).entries number e q).parts (get_issued e.request i) 0 false)

  map_filtered : (f g : ℕ → Value) (p : ℕ → Bool) (xs : List ℕ) → ((n : ℕ) → p n ≡ true → f n ≡ g n) → map f (filter p xs) ≡ map g (filter p xs)
  map_filtered f g p [] h = refl
  map_filtered f g p (x ∷ xs) h = by (p x) refl (map_filtered f g p xs h)
    where
      by : (b : Bool) → p x ≡ b → map f (filter p xs) ≡ map g (filter p xs)
          → map f (if b then x ∷ filter p xs else filter p xs) ≡ map g (if b then x ∷ filter p xs else filter p xs)
      by true e i = ap (λ v. v ∷ map f (filter p xs)) (h x e) ∙ ap (λ vs. g x ∷ vs) i
      by false e i = i

  lands : (node : ℕ) → node < nodes
      → landing (row_at t node) ≡ got node (effects past) (gets_among (requests_of (row_at t node)) (issued_since node past))
  lands node lt =
      ap (map (value_got (row_at t node))) (k.rows node lt).gets
      ∙ map_filtered (value_got (row_at t node)) (λ number. or_zero (part_value node number 0 false (effects past)))
      (λ number. option_map_or is_get (slice_get (requests_of (row_at t node)) number) false) (issued_since node past)
      (value_same node lt)

  -- ---- releases and ends

  releases_at : (number : ℕ) → Decides (may_release_in t number) (ReleaseAllowed processes past number)
  releases_at number = (
    λ e. let p = and_parts (number == t.releases + 1) _ e in
        let n : number ≡ t.releases + 1 = (Decides-eqb number (t.releases + 1)).0 p.0 in
        let ready : (node : ℕ) → node < nodes → is_ready number t.stores (row_at t node) ≡ true =
        λ node lt. all_rows (is_ready number t.stores) fresh_row t.rows p.1 node (let a = k.all in omega arith) in
        record {
          numbered = n ∙ ap (λ m. m + 1) k.released;
          all_arrived = λ node lt. let h = (ready_decides node lt).0 (ready node lt) in h.0;
          none_ended = λ node lt. let h = (ready_decides node lt).0 (ready node lt) in h.1.0;
          stores_done = λ s node lt. let h = (ready_decides node lt).0 (ready node lt) in
              h.1.1 (k.stores ∙ ap (λ m. stores_at m past) (sym (n ∙ ap (λ m. m + 1) k.released)) ∙ s);
        },
    λ h. and_from _ _ ((Decides-eqb number (t.releases + 1)).1 (h.numbered ∙ ap (λ m. m + 1) (sym k.released)))
        (from_rows (is_ready number t.stores) fresh_row t.rows
        (λ node below. let lt : node < nodes = (let a = k.all in omega arith) in
        (ready_decides node lt).1 (
          h.all_arrived node lt,
          (
            h.none_ended node lt,
            λ s. h.stores_done (ap (λ m. stores_at m past) h.numbered ∙ sym k.stores ∙ s) node lt,
          ),
        ))),
  )
    where
      ready_decides : (node : ℕ) → node < nodes
          → Decides (is_ready number t.stores (row_at t node))
          ((number ≤ arrivals node past) × ((ended node past ≡ None) × (t.stores ≡ true → AllDone processes is_one_way node past)))
      ready_decides node lt =
          Decides-and _ _
          (let d = le_decides number (row_at t node).arrived in let a = (k.rows node lt).arrived in
          (λ h. subst (λ n. number ≤ n) a (d.0 h), λ h. d.1 (subst (λ n. number ≤ n) (sym a) h)))
          (Decides-and _ _ (ends_none node lt) (only_if t.stores _ _ (over OneWay node lt)))

  stands : (node : ℕ) → Decides (stands_at t node) (Stands nodes past node)
  stands node =
      at_row (stands_in t.releases) (Stands nodes past node) node (λ h. h.within)
      (λ lt. let a = (k.rows node lt).arrived in
      Decides-like (stands_in t.releases (row_at t node))
      (λ h. record { within = lt; running = h.0; at_barrier = sym a ∙ h.1 ∙ ap (λ m. m + 1) k.released })
      (λ h. (h.running, a ∙ h.at_barrier ∙ ap (λ m. m + 1) (sym k.released)))
      (Decides-and _ _ (ends_none node lt) (Decides-eqb (row_at t node).arrived (t.releases + 1))))

  -- ---- completeness

  abbrev any_gone : Bool
  any_gone = list_any (left_behind t.releases) t.rows

  -- the node is gone, and was at fewer barriers than one that stands at the next
  gone_is : (a r : ℕ) (o : Option End) → gone_before r a o ≡ true → IsSome o × (o ≡ Some Waiting → ⊥) × (a ≤ r)
  gone_is a r None e = absurd cc
  gone_is a r (Some Waiting) e = absurd cc
  gone_is a r (Some Ended) e = (refl, λ h. absurd cc, (le_decides a r).0 e)
  gone_is a r (Some Cut) e = (refl, λ h. absurd cc, (le_decides a r).0 e)
  gone_is a r (Some (Fault kind line)) e = (refl, λ h. absurd cc, (le_decides a r).0 e)

  is_gone : (a r : ℕ) (o : Option End) → IsSome o → (o ≡ Some Waiting → ⊥) → a ≤ r → gone_before r a o ≡ true
  is_gone a r None s w le = absurd cc
  is_gone a r (Some Waiting) s w le = absurd (w refl)
  is_gone a r (Some Ended) s w le = (le_decides a r).1 le
  is_gone a r (Some Cut) s w le = (le_decides a r).1 le
  is_gone a r (Some (Fault kind line)) s w le = (le_decides a r).1 le

  ended_is : (f : Bool) (a r : ℕ) (o : Option End) → ended_as r f a o ≡ true
      → IsSome o × (o ≡ Some Waiting → (f ≡ true) × (r < a))
  ended_is f a r None e = absurd cc
  ended_is f a r (Some Waiting) e = (refl, λ h. let p = and_parts f (nat_lt r a) e in (p.0, (Decides-ltb r a).0 p.1))
  ended_is f a r (Some Ended) e = (refl, λ h. absurd cc)
  ended_is f a r (Some Cut) e = (refl, λ h. absurd cc)
  ended_is f a r (Some (Fault kind line)) e = (refl, λ h. absurd cc)

  is_ended : (f : Bool) (a r : ℕ) (o : Option End) → IsSome o → (o ≡ Some Waiting → (f ≡ true) × (r < a))
      → ended_as r f a o ≡ true
  is_ended f a r None s h = absurd cc
  is_ended f a r (Some Waiting) s h = let p = h refl in and_from f (nat_lt r a) p.0 ((Decides-ltb r a).1 p.1)
  is_ended f a r (Some Ended) s h = refl
  is_ended f a r (Some Cut) s h = refl
  is_ended f a r (Some (Fault kind line)) s h = refl

  -- of an issued request, and what its mode is
  issued_of : (node : ℕ) → AllDone processes is_blocking_copy node past → AllDone processes is_split node past
      → AllDone processes is_one_way node past → AllDone processes is_issued node past
  issued_of node b s o number r e i = by (is_blocking_copy r) (is_split r) (is_one_way r) refl refl refl i
    where
      by : (x y z : Bool) → is_blocking_copy r ≡ x → is_split r ≡ y → is_one_way r ≡ z → ((x || y) || z) ≡ true
          → AllOccurred (transfer_of r) node number (effects past)
      by true y z p q w h = b number r e p
      by false true z p q w h = s number r e q
      by false false true p q w h = o number r e w
      by false false false p q w h = absurd cc

  each_issued : (mode : CopyMode) (r : Request) → is_of mode r ≡ true → is_issued r ≡ true
  each_issued mode r e = of_issued mode r e

  Finished : (node : ℕ) → Type 0
  Finished node = AllDone processes is_issued node past × IsSome (ended node past)
      × (ended node past ≡ Some Waiting → (any_gone ≡ true) × (releases past < arrivals node past))

  finished : (node : ℕ) → node < nodes → Decides (is_finished t.releases any_gone (row_at t node)) (Finished node)
  unfolding Finished
  finished node lt =
      let r = k.rows node lt in (
        λ e.
            let p = and_parts _ _ e in let q = and_parts _ _ p.1 in let s = and_parts _ _ q.1 in
            let w = ended_is any_gone (row_at t node).arrived t.releases (row_at t node).ended s.1 in (
              issued_of node ((over Blocking node lt).0 p.0) ((over Split node lt).0 q.0) ((over OneWay node lt).0 s.0),
              subst IsSome r.ended w.0,
              λ h. let v = w.1 (r.ended ∙ h) in (v.0, (let l = v.1 in let a = r.arrived in let b = k.released in omega arith)),
            ),
        λ h.
            and_from _ _ ((over Blocking node lt).1 (λ number x e i. h.0 number x e (each_issued Blocking x i)))
            (and_from _ _ ((over Split node lt).1 (λ number x e i. h.0 number x e (each_issued Split x i)))
            (and_from _ _ ((over OneWay node lt).1 (λ number x e i. h.0 number x e (each_issued OneWay x i)))
            (is_ended any_gone (row_at t node).arrived t.releases (row_at t node).ended (subst IsSome (sym r.ended) h.1)
            (λ w. let v = h.2 (sym r.ended ∙ w) in (v.0, (let l = v.1 in let a = r.arrived in let b = k.released in omega arith)))))),
      )

  forsaken_by : (node : ℕ) → node < nodes → any_gone ≡ true → releases past < arrivals node past → IsForsaken processes past node
  forsaken_by node lt any more =
      let s = some_row (left_behind t.releases) fresh_row t.rows any in
      let below : s.0 < nodes = (let a = k.all in let l = s.1 in omega arith) in
      let r = k.rows s.0 below in
      let g = gone_is (row_at t s.0).arrived t.releases (row_at t s.0).ended s.2 in
      record {
        at_barrier = (let n = k.no_further node lt in omega arith);
        other = s.0;
        other_within = below;
        gone = subst IsSome r.ended g.0;
        not_waiting = λ w. g.1 (r.ended ∙ w);
        fewer = (let l = g.2 in let a = r.arrived in let b = k.released in omega arith);
      }

  gone_from : (node : ℕ) → node < nodes → IsForsaken processes past node → any_gone ≡ true
  gone_from node lt f =
      let r = k.rows f.other f.other_within in
      any_from (left_behind t.releases) fresh_row t.rows f.other (let a = k.all in let l = f.other_within in omega arith)
      (is_gone (row_at t f.other).arrived t.releases (row_at t f.other).ended (subst IsSome (sym r.ended) f.gone)
      (λ w. f.not_waiting (sym r.ended ∙ w))
      (let l = f.fewer in let b = f.at_barrier in let a = r.arrived in let c = k.released in omega arith))

  completes : Decides (is_complete_in t) (Complete processes past)
  unfolding Finished
  completes = (
    λ e.
        let each : (node : ℕ) → node < nodes → Finished node =
        λ node lt. (finished node lt).0 (all_rows (is_finished t.releases any_gone) fresh_row t.rows e node (let a = k.all in omega arith)) in
        record {
          all_ended = λ node lt. (each node lt).1;
          all_done = λ node lt. (each node lt).0;
          forsaken = λ node lt w. let v = (each node lt).2 w in forsaken_by node lt v.0 v.1;
        },
    λ h. from_rows (is_finished t.releases any_gone) fresh_row t.rows
        (λ node below. let lt : node < nodes = (let a = k.all in omega arith) in
        (finished node lt).1 (
          h.all_done node lt,
          h.all_ended node lt,
          λ w. let f = h.forsaken node lt w in (gone_from node lt f, (let b = f.at_barrier in omega arith)),
        )),
  )

  pub answers : Answers processes past t
  answers = record {
    goes_on = goes;
    over = over;
    occurs = occurs;
    lands = lands;
    releases = releases_at;
    stands = stands;
    completes = completes;
  }

pub books_answer : BooksAnswer
books_answer processes past t all = answers processes past t all
