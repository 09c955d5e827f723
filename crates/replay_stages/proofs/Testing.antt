-- Which events may come next is told by what is kept and by where the nodes stand.
use Rattle.std.proofs.Common.{◌≡◌, ◌⊎◌, ⊎_elim, inl, inr, ℕ, suc, ◌<◌, List, [], ◌∷◌, ◌++◌, length, Option, Some, None, Bool, true, false, ◌==◌, ◌&&◌, refl, sym, ap, ◌∙◌, if◌then◌else◌, arith, slice_get, eq-eqb, eqb-true}
use Rattle.std.specs.Option.{option_map_or}
use Rattle.std.proofs.lemmas.Bool.{and_parts, and_from}
use Rattle.resumption.specs.Resumption.{Asks, Makes, Says, Stops, Ends, run_of, next_event}
use Rattle.sc_base.specs.declared.value.CopyMode.TheVariants.{Split}
use Rattle.sc_base.specs.declared.value.End.{End}
use Rattle.sc_base.specs.declared.value.End.TheVariants.{Ended, Fault, Cut, Waiting}
use Rattle.sc_base.specs.declared.value.Place.{Place}
use Rattle.sc_base.specs.declared.value.Value.{Value}
use Rattle.effect_order.proofs.Equal.{place_self, value_self}
use Rattle.sc_meaning.specs.declared.request.Request.{Request}
use Rattle.sc_meaning.specs.declared.request.Request.TheVariants.{Read, Write, Sync as SyncRequest}
use Rattle.sc_meaning.specs.declared.event.SourceEvent.{SourceEvent}
use Rattle.sc_meaning.specs.declared.event.SourceEvent.TheVariants.{Do, Issue, Effect, Sync, Arrive, Release, End as Over}
use Rattle.sc_meaning.specs.Asking.{Answer, Halt, Finishes, Breaks, SourceDoing}
use Rattle.sc_meaning.specs.Parts.{is_issued}
use Rattle.sc_meaning.specs.Past.{Processes, made, answers, run_so_far}
use Rattle.sc_meaning.specs.History.{Allowed, GoesOn, IsNext, EndAllowed, barrier_of}
use Rattle.sc_meaning.specs.Test.{is_write_of, is_sync, is_barrier}
use Rattle.meaning_laws.proofs.Decided.{end_decides}
use Rattle.meaning_laws.proofs.Which.{barrier_is}
use Rattle.replay_books.specs.Tables.{TablesBook, row_at, goes_on_at, made_at, may_occur_in_tables, stands_at}
use Rattle.replay_laws.specs.Keeps.{requests_of}
use Rattle.replay_laws.specs.Laws.{Answers}
use Rattle.replay_stages.specs.Courses.{Course, stop_of}
use Rattle.replay_stages.specs.Stage.{Front, HasMade, Waits, Stage, IsDoomed}
use Rattle.replay_stages.specs.Laws.{next_in, is_read_now, ends_now, may}
use Rattle.replay_stages.proofs.Courses.{followed}
use Rattle.replay_stages.proofs.Known.{row_length, answering}
use Rattle.replay_stages.proofs.Doom.{not_allowed}

-- a request is next or the node stops
pub next_or_stop : (rest : SourceDoing) → ((r : Request) × (next_event rest ≡ Some r)) ⊎ ((halt : Halt) × (stop_of rest ≡ Some halt))
next_or_stop (Asks r fits go) = inl (r, refl)
next_or_stop (Makes r rest) = inl (r, refl)
next_or_stop (Says text rest) = next_or_stop rest
next_or_stop (Stops halt) = inr (halt, refl)

pub ends_now_is : (end : End) (o : Option Halt) → ends_now end o ≡ true → o ≡ Some (Finishes end)
ends_now_is end None e = absurd cc
ends_now_is end (Some Breaks) e = absurd cc
ends_now_is end (Some (Finishes other)) e = ap (λ x. Some (Finishes x)) (sym ((end_decides end other).0 e))

pub is_ends_now : (end : End) (o : Option Halt) → o ≡ Some (Finishes end) → ends_now end o ≡ true
is_ends_now end o e = ap (ends_now end) e ∙ (end_decides end end).1 refl

length_more : (xs ys : List Request) (y : Request) → length (xs ++ y ∷ ys) ≡ length xs → ⊥
length_more [] ys y e = omega arith
length_more (x ∷ xs) ys y e = length_more xs ys y (let h : suc (length (xs ++ y ∷ ys)) ≡ suc (length xs) = e in omega arith)

-- a node that has made all requests of its run, and ends so, stops so next
pub stops_so : (start : SourceDoing) (given : List Answer) (requests : List Request) (text : List ℕ) (rest : SourceDoing) (halt : Halt)
    → Course start given requests text rest → length requests ≡ length (run_of start given).events
    → (run_of start given).end ≡ Ends halt → stop_of rest ≡ Some halt
stops_so start given requests text rest halt c l e =
    let f = followed start given requests text in
    ⊎_elim
    (λ q. let m = f.some_next rest q.0 c q.1 in absurd (length_more requests m.0 q.0 (sym (ap length m.1) ∙ sym l)))
    (λ q. let r = f.stopped rest q.0 c q.1 in
    let same : Ends q.0 ≡ Ends halt = sym (ap (λ run. run.end) r) ∙ e in
    q.1 ∙ ap Some (let g : q.0 ≡ halt = cc in g))
    (next_or_stop rest)

option_true : {A : Type 0} (test : A → Bool) (o : Option A) (x : A) → o ≡ Some x → test x ≡ true → option_map_or test o false ≡ true
option_true test o x e h = ap (λ p. option_map_or test p false) e ∙ h

module _ (processes : Processes) (past : List SourceEvent) (t : TablesBook) (shows : Place → Value) (fronts : ℕ → Front)
    (s : Stage processes past t shows fronts) where
  a : Answers processes past t
  a = answering processes past t shows fronts s

  pub goes_on_is : (node : ℕ) → goes_on_at t node ≡ true → GoesOn processes past node
  goes_on_is node e = (a.goes_on node).0 e

  pub free : (node : ℕ) → GoesOn processes past node → HasMade processes node past (row_at t node) (fronts node)
  free node g = (s.at node g.node_within).free (λ n. g.released)

  pub waiting : (node : ℕ) → stands_at t node ≡ true → Waits processes node past (row_at t node) (fronts node)
  waiting node e = let h = (a.stands node).0 e in (s.at node h.within).waits h

  made_here : (node : ℕ) → node < processes.nodes → made_at t node ≡ made node past
  made_here node lt = (s.keeps.rows node lt).made

  -- the run's next request is that at which the node stands
  next_is : (node : ℕ) → GoesOn processes past node
      → slice_get (run_so_far processes node past).events (made node past) ≡ next_event (fronts node).rest
  next_is node g =
      let c = free node g in
      ap (slice_get (run_so_far processes node past).events)
      (sym (row_length (row_at t node) ∙ made_here node g.node_within))
      ∙ (followed (processes.starts node) (answers processes node past) (requests_of (row_at t node)) (fronts node).text).next (fronts node).rest c

  both : (b c : Bool) (o : Option Request) (r : Request) → (if b && c then o else None) ≡ Some r → (b ≡ true) × (c ≡ true) × (o ≡ Some r)
  both true true o r e = (refl, refl, e)
  both true false o r e = absurd cc
  both false c o r e = absurd cc

  pub is_next : (node number : ℕ) (r : Request) → next_in t fronts node number ≡ Some r → IsNext processes past node number r
  is_next node number r e =
      let p = both (goes_on_at t node) (made_at t node == number) (next_event (fronts node).rest) r e in
      let g = goes_on_is node p.0 in
      let n : number ≡ made node past = sym (eqb-true (made_at t node) number p.1) ∙ made_here node g.node_within in
      record { goes_on = g; numbered = n; next = ap (slice_get (run_so_far processes node past).events) n ∙ next_is node g ∙ p.2 }

  pub stands_next : (node number : ℕ) (r : Request) → next_in t fronts node number ≡ Some r → next_event (fronts node).rest ≡ Some r
  stands_next node number r e = (both (goes_on_at t node) (made_at t node == number) (next_event (fronts node).rest) r e).2

  pub is_in : (node number : ℕ) (r : Request) → IsNext processes past node number r → next_in t fronts node number ≡ Some r
  is_in node number r h =
      let g = h.goes_on in
      let e : (goes_on_at t node && (made_at t node == number)) ≡ true =
      and_from _ _ ((a.goes_on node).1 g) (eq-eqb (made_at t node) number (made_here node g.node_within ∙ sym h.numbered)) in
      ap (λ b. if b then next_event (fronts node).rest else None) e ∙ sym (next_is node g)
      ∙ ap (slice_get (run_so_far processes node past).events) (sym h.numbered) ∙ h.next

  ended_may : (node : ℕ) (end : End) → EndAllowed processes past node end
      → (goes_on_at t node && ends_now end (stop_of (fronts node).rest)) ≡ true
  ended_may node end h =
      and_from _ _ ((a.goes_on node).1 h.goes_on)
      (is_ends_now end (stop_of (fronts node).rest)
      (stops_so (processes.starts node) (answers processes node past) (requests_of (row_at t node)) (fronts node).text (fronts node).rest
      (Finishes end) (free node h.goes_on)
      (row_length (row_at t node) ∙ made_here node h.goes_on.node_within ∙ h.all_made) h.over))

  pub may_end_is : (node : ℕ) (end : End) → (goes_on_at t node && ends_now end (stop_of (fronts node).rest)) ≡ true
      → EndAllowed processes past node end
  may_end_is node end e =
      let p = and_parts (goes_on_at t node) (ends_now end (stop_of (fronts node).rest)) e in
      let g = goes_on_is node p.0 in
      let r = (followed (processes.starts node) (answers processes node past) (requests_of (row_at t node)) (fronts node).text).stopped
      (fronts node).rest (Finishes end) (free node g) (ends_now_is end (stop_of (fronts node).rest) p.1) in
      record {
        goes_on = g;
        all_made = sym (row_length (row_at t node) ∙ made_here node g.node_within) ∙ sym (ap (λ run. length run.events) r);
        over = ap (λ run. run.end) r;
      }

  -- what is allowed may come
  allowed_may : (event : SourceEvent) → Allowed processes past event → may t fronts shows event ≡ true
  allowed_may (Do node number false place value) h =
      option_true (is_read_now shows place value) (next_in t fronts node number) (Read place h.line) (is_in node number _ h.is_next)
      (and_from _ _ (place_self place place refl) (value_self value (shows place) (h.shows ∙ sym (s.cells place))))
  allowed_may (Do node number true place value) h =
      option_true (is_write_of place value) (next_in t fronts node number) (Write place value h.line) (is_in node number _ h.is_next)
      (and_from _ _ (place_self place place refl) (value_self value value refl))
  allowed_may (Issue node number) h =
      option_true is_issued (next_in t fronts node number) h.request (is_in node number _ h.is_next) h.issued
  allowed_may (Effect node number cell wrote place value) h =
      ap (may_occur_in_tables t node number cell wrote place value) (s.cells place)
      ∙ (a.occurs node number cell wrote place value).1 h
  allowed_may (Sync node number) h =
      and_from _ _ (option_true is_sync (next_in t fronts node number) (SyncRequest h.line) (is_in node number _ h.is_next) refl)
      ((a.over Split node h.is_next.goes_on.node_within).1 h.all_done)
  allowed_may (Arrive node number stores) h =
      option_true (is_barrier stores) (next_in t fronts node number) (barrier_of stores h.line) (is_in node number _ h.is_next)
      ((barrier_is stores (barrier_of stores h.line)).1 (h.line, refl))
  allowed_may (Release number) h = (a.releases number).1 h
  allowed_may (Over node Waiting) h =
      (a.stands node).1 (record { within = h.node_within; running = h.running; at_barrier = h.at_barrier })
  allowed_may (Over node Ended) h = ended_may node Ended h
  allowed_may (Over node (Fault kind line)) h = ended_may node (Fault kind line) h
  allowed_may (Over node Cut) h = ended_may node Cut h

  pub refused : (event : SourceEvent) → may t fronts shows event ≡ false → IsDoomed processes (event ∷ past)
  refused event e = not_allowed processes event past (λ h. let c : true ≡ false = sym (allowed_may event h) ∙ e in absurd cc)
