-- A stage goes on with each event.
use Rattle.std.proofs.Common.{◌≡◌, ℕ, ◌+◌, ◌<◌, ◌≤◌, List, [], ◌∷◌, ◌++◌, length, Some, None, Bool, true, false, ◌==◌, refl, sym, ap, ◌∙◌, subst, if◌then◌else◌, arith, slice_get, eq-eqb}
use Rattle.std.specs.Option.{option_map_or}
use Rattle.std.proofs.lemmas.Bool.{and_parts}
use Rattle.std.proofs.lemmas.List.{append-nil, get_or-replicate}
use Rattle.resumption.specs.Resumption.{run_of}
use Rattle.sc_base.specs.declared.value.CopyMode.TheVariants.{Split}
use Rattle.sc_base.specs.declared.value.End.{End}
use Rattle.sc_base.specs.declared.value.End.TheVariants.{Ended, Fault, Cut, Waiting}
use Rattle.sc_base.specs.declared.value.Place.{Place}
use Rattle.sc_base.specs.declared.value.Value.{Value}
use Rattle.effect_order.specs.Effect.{same_place, same_value}
use Rattle.effect_order.proofs.Equal.{value_is}
use Rattle.sc_meaning.specs.declared.request.Request.{Request}
use Rattle.sc_meaning.specs.declared.request.Request.TheVariants as ask
use Rattle.sc_meaning.specs.declared.event.SourceEvent.{SourceEvent}
use Rattle.sc_meaning.specs.declared.event.SourceEvent.TheVariants.{Do, Issue, Effect, Sync, Arrive, Release, End as Over}
use Rattle.sc_meaning.specs.Asking.{Answer, Shown, Landed, Passed, Broken, Finishes}
use Rattle.sc_meaning.specs.Parts.{is_issued, is_get}
use Rattle.sc_meaning.specs.Past.{Processes, shown, releases, arrivals, made, ended, answers, run_so_far, got, effects, gets_among, issued_since}
use Rattle.sc_meaning.specs.History.{Allowed, GoesOn as MayGoOn, IsNext}
use Rattle.sc_meaning.specs.Test.{is_read_of, is_write_of, is_sync, is_barrier}
use Rattle.meaning_laws.proofs.Which.{read_of, write_of, sync_of, barrier_is}
use Rattle.replay_books.specs.Counts.{AllBelow}
use Rattle.replay_books.specs.Row.{RowBook, fresh_row, with_request, with_part, landing}
use Rattle.replay_books.specs.Tables.{TablesBook, fresh_tables, row_at, split_over, may_occur_in_tables, with_sync, with_arrival, with_end, with_occurred, may_release_in, stands_at, landed, arrived, ended_so, with_made, with_release}
use Rattle.replay_laws.specs.Keeps.{Keeps, requests_of}
use Rattle.replay_laws.specs.Laws.{Answers, GoOn}
use Rattle.replay_laws.proofs.Lists.{get_front}
use Rattle.replay_laws.proofs.Going.{books_go_on}
use Rattle.replay_laws.proofs.Requested.{requests_more}
use Rattle.replay_laws.proofs.Others.{when, of_do, of_issue, of_effect, of_sync, of_arrive, of_end}
use Rattle.replay_stages.specs.Courses.{Course, stop_of, IsStuck}
use Rattle.sc_meaning.specs.Answering.{is_answered}
use Rattle.replay_stages.specs.Stage.{Front, NodeAt, Stage, IsDoomed}
use Rattle.replay_stages.specs.Laws.{GoesOn, StagesGoOn, next_in, is_read_now, ends_now, may, with_front, written_to, shows_after, Stood, StoodPast}
use Rattle.replay_stages.proofs.Courses.{followed}
use Rattle.replay_stages.proofs.Known.{row_length, made_first, answering}
use Rattle.replay_stages.proofs.Doom.{not_allowed, stuck_dooms}
use Rattle.replay_stages.proofs.Testing.{refused, goes_on_is, free, waiting, is_next, stands_next, may_end_is, stops_so, is_ends_now}
use Rattle.replay_stages.proofs.Moving.{eq_self, requests_part, node_same, node_free, own, kept, answer_here, answer_elsewhere}

-- a request that is not issued
plain_read : (place : Place) (r : Request) → is_read_of place r ≡ true → is_issued r ≡ false
plain_read place (ask.Read other line) e = refl
plain_read place r e = absurd cc

plain_write : (place : Place) (value : Value) (r : Request) → is_write_of place value r ≡ true → is_issued r ≡ false
plain_write place value (ask.Write other v line) e = refl
plain_write place value r e = absurd cc

plain_sync : (r : Request) → is_sync r ≡ true → is_issued r ≡ false
plain_sync (ask.Sync line) e = refl
plain_sync r e = absurd cc

plain_barrier : (stores : Bool) (r : Request) → is_barrier stores r ≡ true → is_issued r ≡ false
plain_barrier true (ask.AllStoreSync line) e = refl
plain_barrier false (ask.Barrier line) e = refl
plain_barrier stores r e = absurd cc

barrier_answered : (stores : Bool) (r : Request) → is_barrier stores r ≡ true → is_answered r ≡ true
barrier_answered true (ask.AllStoreSync line) e = refl
barrier_answered false (ask.Barrier line) e = refl
barrier_answered stores r e = absurd cc

module _ (processes : Processes) (past : List SourceEvent) (t : TablesBook) (shows : Place → Value) (fronts : ℕ → Front)
    (s : Stage processes past t shows fronts) where
  a : Answers processes past t
  a = answering processes past t shows fronts s

  g : GoOn processes.nodes past t
  g = books_go_on.goes_on processes.nodes past t s.keeps

  next : (node number : ℕ) (r : Request) → next_in t fronts node number ≡ Some r → IsNext processes past node number r
  next node number r e = is_next processes past t shows fronts s node number r e

  -- after an event of a node that goes on, which arrived at no barrier by it
  goes : (node : ℕ) (e : SourceEvent) (row : RowBook) (given : List Answer) (r : Request) (f : Front)
      → MayGoOn processes past node → arrivals node (e ∷ past) ≡ arrivals node past → releases (e ∷ past) ≡ releases past
      → answers processes node (e ∷ past) ≡ answers processes node past ++ given
      → requests_of row ≡ requests_of (row_at t node) ++ r ∷ []
      → StoodPast processes past t shows fronts node given r f
      → NodeAt processes node (e ∷ past) row f
  goes node e row given r f m arr rel ans reqs c =
      node_free processes node (e ∷ past) row f
      (λ n. let l = m.released in let x = arr in let y = rel in omega arith)
      (subst (λ rs. Course (processes.starts node) (answers processes node (e ∷ past)) rs f.text f.rest) (sym reqs)
      (subst (λ h. Course (processes.starts node) h (requests_of (row_at t node) ++ r ∷ []) f.text f.rest) (sym ans) c))

  read : (node number : ℕ) (place : Place) (value : Value) (r : Request) (f : Front)
      → next_in t fronts node number ≡ Some r → is_read_now shows place value r ≡ true
      → StoodPast processes past t shows fronts node (Shown value ∷ []) r f
      → Stage processes (Do node number false place value ∷ past) (with_made t node r) shows (with_front fronts node f)
  read node number place value r f e is c =
      let n = next node number r e in
      let p = and_parts (is_read_of place r) (same_value value (shows place)) is in
      let q = (read_of place r).0 p.0 in
      let lt = n.goes_on.node_within in
      own processes past t shows fronts s node (Do node number false place value) _ (with_request (row_at t node) r) shows f lt
      (record {
        line = q.0;
        is_next = subst (IsNext processes past node number) q.1 n;
        shows = value_is value (shows place) p.1 ∙ s.cells place;
      })
      (subst (λ m. Keeps processes.nodes (Do node m false place value ∷ past) (with_made t node r)) (sym n.numbered)
      (g.done node false place value r lt (plain_read place r p.0)))
      refl s.cells (λ m h. of_do node m past h number false place value)
      (λ m h. answer_elsewhere processes m past (node == m) (Shown value) h) refl
      (goes node _ (with_request (row_at t node) r) (Shown value ∷ []) r f n.goes_on refl refl
      (answer_here processes node past (node == node) (Shown value) (eq_self node)) (requests_more (row_at t node) r) c)

  write_cells : (place : Place) (value : Value) (other : Place)
      → written_to shows place value other ≡ (if same_place place other then value else shown processes.start other past)
  write_cells place value other = ap (λ v. if same_place place other then value else v) (s.cells other)

  wrote : (node number : ℕ) (place : Place) (value : Value) (r : Request) (f : Front)
      → next_in t fronts node number ≡ Some r → is_write_of place value r ≡ true
      → StoodPast processes past t shows fronts node [] r f
      → Stage processes (Do node number true place value ∷ past) (with_made t node r) (written_to shows place value)
      (with_front fronts node f)
  wrote node number place value r f e is c =
      let n = next node number r e in
      let q = (write_of place value r).0 is in
      let lt = n.goes_on.node_within in
      own processes past t shows fronts s node (Do node number true place value) _ (with_request (row_at t node) r) _ f lt
      (record { line = q.0; is_next = subst (IsNext processes past node number) q.1 n })
      (subst (λ m. Keeps processes.nodes (Do node m true place value ∷ past) (with_made t node r)) (sym n.numbered)
      (g.done node true place value r lt (plain_write place value r is)))
      refl (write_cells place value) (λ m h. of_do node m past h number true place value)
      (λ m h. refl) refl
      (goes node _ (with_request (row_at t node) r) [] r f n.goes_on refl refl
      (sym (append-nil (answers processes node past))) (requests_more (row_at t node) r) c)

  issued : (node number : ℕ) (r : Request) (f : Front)
      → next_in t fronts node number ≡ Some r → is_issued r ≡ true → StoodPast processes past t shows fronts node [] r f
      → Stage processes (Issue node number ∷ past) (with_made t node r) shows (with_front fronts node f)
  issued node number r f e is c =
      let n = next node number r e in
      let lt = n.goes_on.node_within in
      own processes past t shows fronts s node (Issue node number) _ (with_request (row_at t node) r) shows f lt
      (record { request = r; is_next = n; issued = is })
      (subst (λ m. Keeps processes.nodes (Issue node m ∷ past) (with_made t node r)) (sym n.numbered) (g.issued node r lt is))
      refl s.cells (λ m h. of_issue node m past h number) (λ m h. refl) refl
      (goes node _ (with_request (row_at t node) r) [] r f n.goes_on refl refl
      (sym (append-nil (answers processes node past))) (requests_more (row_at t node) r) c)

  occurred : (node number cell : ℕ) (wrote : Bool) (place : Place) (value : Value)
      → may_occur_in_tables t node number cell wrote place value (shows place) ≡ true
      → Stage processes (Effect node number cell wrote place value ∷ past) (with_occurred t node number cell wrote value) (shows_after wrote shows place value) fronts
  occurred node number cell wrote place value e =
      let h = (a.occurs node number cell wrote place value).0 (ap (may_occur_in_tables t node number cell wrote place value) (sym (s.cells place)) ∙ e) in
      let lt = h.node_within in
      let row : RowBook = with_part (row_at t node) number cell wrote value in
      kept processes past t shows fronts s node (Effect node number cell wrote place value) _ row _ lt h
      (g.occurred node number cell wrote place value (shows place) lt e) refl (cells wrote)
      (λ m q. of_effect node m past q number cell wrote place value) (λ m q. refl) refl
      (node_same processes node past (Effect node number cell wrote place value ∷ past) (row_at t node) row (fronts node)
      refl refl refl refl (requests_part (row_at t node) number cell wrote value) (s.at node lt))
    where
      cells : (w : Bool) (other : Place)
          → shows_after w shows place value other ≡ shown processes.start other (Effect node number cell w place value ∷ past)
      cells true other = write_cells place value other
      cells false other = s.cells other

  -- the gets so far are among the requests so far
  gets_front : (rs more : List Request) (numbers : List ℕ) → AllBelow (length rs) numbers
      → gets_among (rs ++ more) numbers ≡ gets_among rs numbers
  gets_front rs more [] h = refl
  gets_front rs more (n ∷ numbers) h =
      ap (λ b. if b then n ∷ gets_among (rs ++ more) numbers else gets_among (rs ++ more) numbers)
      (ap (λ o. option_map_or is_get o false) (get_front rs more n h.0))
      ∙ ap (λ ns. if option_map_or is_get (slice_get rs n) false then n ∷ ns else ns) (gets_front rs more numbers h.1)

  sync_answer : (node number : ℕ) (r : Request) → next_in t fronts node number ≡ Some r
      → answers processes node (Sync node number ∷ past) ≡ answers processes node past ++ Landed (landing (row_at t node)) ∷ []
  sync_answer node number r e =
      let n = next node number r e in
      let lt = n.goes_on.node_within in
      let c = free processes past t shows fronts s node n.goes_on in
      let m = made_first (processes.starts node) (answers processes node past) (requests_of (row_at t node)) (fronts node).text (fronts node).rest c in
      let below : AllBelow (length (requests_of (row_at t node))) (issued_since node past) =
      subst (λ k. AllBelow k (issued_since node past)) (sym (row_length (row_at t node))) (s.keeps.rows node lt).issued_before in
      let same : got node (effects past) (gets_among (run_so_far processes node past).events (issued_since node past)) ≡ landing (row_at t node) =
      ap (got node (effects past)) (ap (λ es. gets_among es (issued_since node past)) m.1
      ∙ gets_front (requests_of (row_at t node)) m.0 (issued_since node past) below)
      ∙ sym (a.lands node lt) in
      answer_here processes node past (node == node) (Landed (got node (effects past) (gets_among (run_so_far processes node past).events (issued_since node past)))) (eq_self node)
      ∙ ap (λ vs. answers processes node past ++ Landed vs ∷ []) same

  synced : (node number : ℕ) (r : Request) (f : Front)
      → next_in t fronts node number ≡ Some r → is_sync r ≡ true → split_over t node ≡ true
      → StoodPast processes past t shows fronts node (Landed (landing (row_at t node)) ∷ []) r f
      → Stage processes (Sync node number ∷ past) (with_sync t node r) shows (with_front fronts node f)
  synced node number r f e is over c =
      let n = next node number r e in
      let q = (sync_of r).0 is in
      let lt = n.goes_on.node_within in
      own processes past t shows fronts s node (Sync node number) _ (landed (with_request (row_at t node) r)) shows f lt
      (record { line = q.0; is_next = subst (IsNext processes past node number) q.1 n; all_done = (a.over Split node lt).0 over })
      (subst (λ m. Keeps processes.nodes (Sync node m ∷ past) (with_sync t node r)) (sym n.numbered)
      (g.synced node r lt (plain_sync r is)))
      refl s.cells (λ m h. of_sync node m past h number)
      (λ m h. answer_elsewhere processes m past (node == m) _ h) refl
      (goes node _ (landed (with_request (row_at t node) r)) (Landed (landing (row_at t node)) ∷ []) r f n.goes_on refl refl
      (sync_answer node number r e) (requests_more (row_at t node) r) c)

  arrives : (node number : ℕ) (stores : Bool) (r : Request)
      → next_in t fronts node number ≡ Some r → is_barrier stores r ≡ true
      → Stage processes (Arrive node number stores ∷ past) (with_arrival t node r stores) shows fronts
  arrives node number stores r e is =
      let n = next node number r e in
      let q = (barrier_is stores r).0 is in
      let lt = n.goes_on.node_within in
      let row : RowBook = arrived (with_request (row_at t node) r) in
      kept processes past t shows fronts s node (Arrive node number stores) _ row shows lt
      (record { line = q.0; is_next = subst (IsNext processes past node number) q.1 n })
      (subst (λ m. Keeps processes.nodes (Arrive node m stores ∷ past) (with_arrival t node r stores)) (sym n.numbered)
      (g.arrived node r stores lt (plain_barrier stores r is) n.goes_on.released))
      refl s.cells (λ m h. of_arrive node m past h number stores) (λ m h. refl) refl
      (record {
        free = λ h. let l = h n.goes_on.running in
            let more : arrivals node (Arrive node number stores ∷ past) ≡ arrivals node past + 1 = when (node == node) _ _ (eq_self node) in
            let b = s.keeps.reached node lt in
            absurd (past_it (arrivals node (Arrive node number stores ∷ past)) (arrivals node past) (releases past) more b l);
        waits = λ h. record {
          before = requests_of (row_at t node);
          last = r;
          all = requests_more (row_at t node) r;
          course = free processes past t shows fronts s node n.goes_on;
          next = stands_next processes past t shows fronts s node number r e;
          answered = barrier_answered stores r is;
        };
      })
    where
      past_it : (x y z : ℕ) → x ≡ y + 1 → z ≤ y → x ≤ z → ⊥
      past_it x y z e l m = omega arith

  release_answer : (node number : ℕ) → node < processes.nodes → may_release_in t number ≡ true
      → answers processes node (Release number ∷ past) ≡ answers processes node past ++ Passed ∷ []
  release_answer node number lt e =
      let h = (a.releases number).0 e in
      answer_here processes node past (arrivals node past == number) Passed
      (eq-eqb (arrivals node past) number
      (let l = h.all_arrived node lt in let n = h.numbered in let b = s.keeps.no_further node lt in omega arith))

  released : (number : ℕ) (after : ℕ → Front) → may_release_in t number ≡ true
      → ((node : ℕ) → node < processes.nodes → Stood processes past t shows fronts node (Passed ∷ []) (after node))
      → Stage processes (Release number ∷ past) (with_release t) shows after
  released number after e c =
      let h = (a.releases number).0 e in
      record {
        legal = (h, s.legal);
        keeps = g.released number (λ n lt. let l = h.all_arrived n lt in let m = h.numbered in omega arith);
        cells = s.cells;
        at = λ n lt. record {
          free = λ k. subst (λ given. Course (processes.starts n) given (requests_of (row_at t n)) (after n).text (after n).rest)
              (sym (release_answer n number lt e)) (c n lt);
          waits = λ w. let b = w.at_barrier in let l = s.keeps.no_further n lt in
              absurd (past_it (arrivals n past) (releases past) b l);
        };
      }
    where
      past_it : (x y : ℕ) → x ≡ y + 1 + 1 → x ≤ y + 1 → ⊥
      past_it x y e l = omega arith

  -- after the end of a node that went on
  ends : (node : ℕ) (end : End) → MayGoOn processes past node → Allowed processes past (Over node end)
      → ((n : ℕ) → answers processes n (Over node end ∷ past) ≡ answers processes n past)
      → Stage processes (Over node end ∷ past) (with_end t node end) shows fronts
  ends node end m allowed same =
      let lt = m.node_within in
      kept processes past t shows fronts s node (Over node end) _ (ended_so end (row_at t node)) shows lt allowed
      (g.ended node end lt) refl s.cells (λ n h. of_end node n past h end) (λ n h. same n) refl
      (node_free processes node (Over node end ∷ past) (ended_so end (row_at t node)) (fronts node)
      (λ n. let c : None ≡ Some end = sym n ∙ when (node == node) (Some end) (ended node past) (eq_self node) in absurd cc)
      (subst (λ given. Course (processes.starts node) given (requests_of (row_at t node)) (fronts node).text (fronts node).rest)
      (sym (same node)) (free processes past t shows fronts s node m)))

  ended_so_far : (node : ℕ) (end : End) → may t fronts shows (Over node end) ≡ true → (end ≡ Waiting → ⊥)
      → Stage processes (Over node end ∷ past) (with_end t node end) shows fronts
  ended_so_far node Ended e ne =
      let h = may_end_is processes past t shows fronts s node Ended e in ends node Ended h.goes_on h (λ n. refl)
  ended_so_far node (Fault kind line) e ne =
      let h = may_end_is processes past t shows fronts s node (Fault kind line) e in ends node (Fault kind line) h.goes_on h (λ n. refl)
  ended_so_far node Cut e ne =
      let h = may_end_is processes past t shows fronts s node Cut e in ends node Cut h.goes_on h (λ n. refl)
  ended_so_far node Waiting e ne = absurd (ne refl)

  broken_answer : (node : ℕ) → answers processes node (Over node Waiting ∷ past) ≡ answers processes node past ++ Broken ∷ []
  broken_answer node = answer_here processes node past (node == node) Broken (eq_self node)

  made_all : (node : ℕ) → node < processes.nodes → length (requests_of (row_at t node)) ≡ made node past
  made_all node lt = row_length (row_at t node) ∙ (s.keeps.rows node lt).made

  gave_up : (node : ℕ) (f : Front) → stands_at t node ≡ true → Stood processes past t shows fronts node (Broken ∷ []) f
      → stop_of f.rest ≡ Some (Finishes Waiting)
      → Stage processes (Over node Waiting ∷ past) (with_end t node Waiting) shows (with_front fronts node f)
  gave_up node f e c stops =
      let h = (a.stands node).0 e in
      let lt = h.within in
      let given = answers processes node past ++ Broken ∷ [] in
      let run = (followed (processes.starts node) given (requests_of (row_at t node)) f.text).stopped f.rest (Finishes Waiting) c stops in
      let so_far : run_so_far processes node (Over node Waiting ∷ past) ≡ run_of (processes.starts node) given =
      ap (run_of (processes.starts node)) (broken_answer node) in
      own processes past t shows fronts s node (Over node Waiting) _ (ended_so Waiting (row_at t node)) shows f lt
      (record {
        node_within = lt;
        running = h.running;
        at_barrier = h.at_barrier;
        all_made = sym (made_all node lt) ∙ sym (ap (λ r. length r.events) (so_far ∙ run));
        over = ap (λ r. r.end) (so_far ∙ run);
      })
      (g.ended node Waiting lt) refl s.cells (λ n q. of_end node n past q Waiting)
      (λ n q. answer_elsewhere processes n past (node == n) Broken q) refl
      (node_free processes node (Over node Waiting ∷ past) (ended_so Waiting (row_at t node)) f
      (λ n. let c : None ≡ Some Waiting = sym n ∙ when (node == node) (Some Waiting) (ended node past) (eq_self node) in absurd cc)
      (subst (λ given. Course (processes.starts node) given (requests_of (row_at t node)) f.text f.rest) (sym (broken_answer node)) c))

  not_given_up : (node : ℕ) (f : Front) → stands_at t node ≡ true → Stood processes past t shows fronts node (Broken ∷ []) f
      → ends_now Waiting (stop_of f.rest) ≡ false → IsDoomed processes (Over node Waiting ∷ past)
  not_given_up node f e c unlike =
      let lt = ((a.stands node).0 e).within in
      let given = answers processes node past ++ Broken ∷ [] in
      not_allowed processes (Over node Waiting) past
      (λ w.
      let so_far : run_so_far processes node (Over node Waiting ∷ past) ≡ run_of (processes.starts node) given =
      ap (run_of (processes.starts node)) (broken_answer node) in
      let stops = stops_so (processes.starts node) given (requests_of (row_at t node)) f.text f.rest (Finishes Waiting) c
      (made_all node lt ∙ w.all_made ∙ ap (λ r. length r.events) so_far)
      (sym (ap (λ r. r.end) so_far) ∙ w.over) in
      let yes : true ≡ false = sym (is_ends_now Waiting (stop_of f.rest) stops) ∙ unlike in
      absurd cc)

  pub goes_on : GoesOn processes past t shows fronts
  goes_on = record {
    refused = refused processes past t shows fronts s;
    free = λ node e. free processes past t shows fronts s node (goes_on_is processes past t shows fronts s node e);
    waiting = waiting processes past t shows fronts s;
    stuck = λ node event answer lt e k. stuck_dooms processes node (event ∷ past) lt
        (subst (IsStuck (processes.starts node)) (sym e) k);
    read = read;
    wrote = wrote;
    issued = issued;
    occurred = occurred;
    synced = synced;
    sync_answer = sync_answer;
    arrived = arrives;
    released = released;
    release_answer = release_answer;
    ended = ended_so_far;
    gave_up = gave_up;
    not_given_up = not_given_up;
  }

begins : (processes : Processes) (fronts : ℕ → Front)
    → ((node : ℕ) → node < processes.nodes → Course (processes.starts node) [] [] (fronts node).text (fronts node).rest)
    → Stage processes [] (fresh_tables processes.nodes) processes.start fronts
begins processes fronts c = record {
  legal = tt;
  keeps = books_go_on.begins processes.nodes;
  cells = λ place. refl;
  at = λ node lt. subst (λ row. NodeAt processes node [] row (fronts node))
      (sym (get_or-replicate processes.nodes node fresh_row fresh_row lt))
      (node_free processes node [] fresh_row (fronts node) (λ n. omega arith) (c node lt));
}

pub stages_go_on : StagesGoOn
stages_go_on = record { begins = begins; goes_on = goes_on }
