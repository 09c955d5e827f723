-- How a judge goes on.
use Rattle.std.proofs.Common.{◌≡◌, ⊎_elim, ℕ, ◌<◌, List, [], length, Option, None, Bool, true, false, ◌==◌, ◌&&◌, refl, sym, ap, ◌∙◌, subst, arith, if◌then◌else◌}
use Rattle.std.specs.Prelude.{IsSome, Result, Ok, Err, IfOk, OnOk}
use Rattle.std.proofs.lemmas.Bool.Decides.{eqb_tells}
use Rattle.resumption.specs.Resumption.{Asks, Makes, Says, Stops, next_event, past_text}
use Rattle.sc_base.specs.declared.value.Place.{Place}
use Rattle.sc_base.specs.declared.value.Value.{Value}
use Rattle.sc_layout.specs.Layout.{Arrangement}
use Rattle.sc_layout.specs.Place.{IsPlace}
use Rattle.sc_meaning.specs.declared.request.Request.{Request}
use Rattle.sc_meaning.specs.declared.event.SourceEvent.{SourceEvent}
use Rattle.sc_meaning.specs.Asking.{SourceDoing}
use Rattle.sc_meaning.specs.Past.{Processes, answers}
use Rattle.replay_books.specs.Tables.{TablesBook, row_at, goes_on_at, made_at}
use Rattle.replay_laws.specs.Keeps.{requests_of}
use Rattle.replay_laws.proofs.Others.{when, unless}
use Rattle.replay_tables.specs.Cells.{holds, cell_in}
use Rattle.replay_stages.specs.Courses.{stop_of}
use Rattle.replay_stages.specs.Stage.{Front, NodeAt, Stage}
use Rattle.replay_stages.specs.Laws.{with_front}
use Rattle.replay_stages.proofs.Courses.{followed}
use Rattle.replay_stages.proofs.Testing.{goes_on_is}
use Rattle.replay_stages.proofs.Going.{stages_go_on}
use Rattle.sc_layout.specs.Start.{start}
use Rattle.sc_core.specs.Core.{Program}
use Rattle.sc_meaning.specs.Source.{processes_of}
use Rattle.replay_books.specs.Tables.{fresh_tables}
use Rattle.replay_tables.specs.Cells.{known_at_start}
use Rattle.replay_stages.proofs.Courses.{courses_are_followed}
use Rattle.history_replay.specs.Fronts.{first_front}
use Rattle.forgotten_marks.proofs.Waiting.{source_waits}
use Rattle.history_replay.proofs.Cells.{holds_start, start_in}
use Rattle.history_replay.specs.declared.judge.Judge.{Judge}
use Rattle.history_replay.specs.Fronts.{AllAt, said}
use Rattle.history_replay.specs.Reached.{Reached, NextAt, extents_in}

next_past : (rest : SourceDoing) → next_event (past_text rest) ≡ next_event rest
next_past (Asks r fits go) = refl
next_past (Makes r rest) = refl
next_past (Says text rest) = next_past rest
next_past (Stops halt) = refl

pub stop_past : (rest : SourceDoing) → stop_of (past_text rest) ≡ stop_of rest
stop_past (Asks r fits go) = refl
stop_past (Makes r rest) = refl
stop_past (Says text rest) = stop_past rest
stop_past (Stops halt) = refl

module _ (processes : Processes) (past : List SourceEvent) (t : TablesBook) (shows : Place → Value) (fronts : ℕ → Front)
    (s : Stage processes past t shows fronts) where
  said_at : (node : ℕ) → node < processes.nodes → NodeAt processes node past (row_at t node) (said (fronts node))
  said_at node lt =
      let at = s.at node lt in record {
        free = λ h. (followed (processes.starts node) (answers processes node past) (requests_of (row_at t node)) (fronts node).text).said
            (fronts node).rest (at.free h);
        waits = λ h. let w = at.waits h in record {
          before = w.before;
          last = w.last;
          all = w.all;
          course = (followed (processes.starts node) (answers processes node past) w.before (fronts node).text).said (fronts node).rest w.course;
          next = next_past (fronts node).rest ∙ w.next;
          answered = w.answered;
        };
      }

  -- what a node says before its next request is printed
  pub restood : (node : ℕ) → Stage processes past t shows (with_front fronts node (said (fronts node)))
  restood node = record {
    legal = s.legal;
    keeps = s.keeps;
    cells = s.cells;
    at = λ n lt. ⊎_elim
        (λ q. subst (λ m. NodeAt processes m past (row_at t m) (with_front fronts node (said (fronts node)) m)) q.1
        (subst (NodeAt processes node past (row_at t node)) (sym (when (node == node) (said (fronts node)) (fronts node) (same node)))
        (said_at node (subst (λ m. m < processes.nodes) (sym q.1) lt))))
        (λ q. subst (NodeAt processes n past (row_at t n)) (sym (unless (node == n) (said (fronts node)) (fronts n) q.0)) (s.at n lt))
        (eqb_tells node n);
  }
    where
      same : (n : ℕ) → (n == n) ≡ true
      same n = ⊎_elim (λ q. q.0) (λ q. absurd (q.1 refl)) (eqb_tells n n)

  pub reshown : (other : Place → Value) → ((place : Place) → other place ≡ shows place) → Stage processes past t other fronts
  reshown other e = record { legal = s.legal; keeps = s.keeps; cells = λ place. e place ∙ s.cells place; at = s.at }

pub front_same : (fronts : ℕ → Front) (node : ℕ) (f : Front) → with_front fronts node f node ≡ f
front_same fronts node f = when (node == node) f (fronts node) (⊎_elim (λ q. q.0) (λ q. absurd (q.1 refl)) (eqb_tells node node))

-- ---- the next request

pub no_turn : (processes : Processes) (past : List SourceEvent) (j : Judge) (node number : ℕ)
    → (goes_on_at j.tables node && (made_at j.tables node == number)) ≡ false → Reached processes past j
    → NextAt processes past node number j None
no_turn processes past j node number e reached = record {
  reached = reached;
  next = sym (ap (λ b. if b then next_event (reached.fronts node).rest else None) e);
}

pub a_turn : (processes : Processes) (past : List SourceEvent) (old new : Judge) (node number : ℕ) (o : Option Request)
    → (goes_on_at old.tables node && (made_at old.tables node == number)) ≡ true
    → (reached : Reached processes past old) → new.tables ≡ old.tables → new.cells ≡ old.cells → new.layout ≡ old.layout
    → length new.nodes.runners.items ≡ length old.nodes.runners.items
    → AllAt new.nodes.runners.items (with_front reached.fronts node (said (reached.fronts node)))
    → o ≡ next_event (reached.fronts node).rest → NextAt processes past node number new o
a_turn processes past old new node number o e reached tables cells layout many all next = record {
  reached = record {
    fronts = with_front reached.fronts node (said (reached.fronts node));
    stage = subst (λ t. Stage processes past t (holds new.layout.now new.cells) (with_front reached.fronts node (said (reached.fronts node)))) (sym tables)
        (reshown processes past old.tables (holds old.layout.now old.cells) _
        (restood processes past old.tables (holds old.layout.now old.cells) reached.fronts reached.stage node)
        (holds new.layout.now new.cells)
        (λ place. ap (λ l. holds l.now new.cells place) layout ∙ ap (λ c. holds old.layout.now c place) cells));
    many = many ∙ reached.many;
    counted = reached.counted ∙ ap (λ l. l.now.nodes) (sym layout);
    all = all;
    placed = λ place is. subst (λ c. IsSome (cell_in c.known place)) (sym cells)
        (reached.placed place (subst (λ l. IsPlace l.now place) layout is));
    sized = ap (λ c. extents_in c.known) cells ∙ reached.sized ∙ ap (λ l. extents_in (known_at_start l.now)) (sym layout);
  };
  next = next
      ∙ sym (next_past (reached.fronts node).rest)
      ∙ ap (λ f. next_event f.rest) (sym (front_same reached.fronts node (said (reached.fronts node))))
      ∙ sym (ap (λ b. if b then next_event (with_front reached.fronts node (said (reached.fronts node)) node).rest else None)
      (ap (λ t. goes_on_at t node && (made_at t node == number)) tables ∙ e));
}

-- by what the node answers
pub asks : {E : Type 0} (processes : Processes) (past : List SourceEvent) (old new : Judge) (node number : ℕ) (result : Result (Option Request) E)
    → (goes_on_at old.tables node && (made_at old.tables node == number)) ≡ true
    → (reached : Reached processes past old) → new.tables ≡ old.tables → new.cells ≡ old.cells → new.layout ≡ old.layout
    → OnOk result (length new.nodes.runners.items ≡ length old.nodes.runners.items)
    → (node < length old.nodes.runners.items → OnOk result (AllAt new.nodes.runners.items (with_front reached.fronts node (said (reached.fronts node)))))
    → (node < length old.nodes.runners.items → IfOk result (λ o. o ≡ next_event (reached.fronts node).rest))
    → IfOk result (NextAt processes past node number new)
asks processes past old new node number (Ok o) turn reached tables cells layout many all next =
    let h = goes_on_is processes past old.tables (holds old.layout.now old.cells) reached.fronts reached.stage node
    (first_of_two (goes_on_at old.tables node) (made_at old.tables node == number) turn) in
    let lt : node < length old.nodes.runners.items = (let m = reached.many in let w = h.node_within in omega arith) in
    a_turn processes past old new node number o turn reached tables cells layout many (all lt) (next lt)
  where
    first_of_two : (a b : Bool) → (a && b) ≡ true → a ≡ true
    first_of_two true b e = refl
    first_of_two false b e = absurd cc
asks processes past old new node number (Err e) turn reached tables cells layout many all next = tt

-- before the first event
pub begun : (layout : Arrangement) (program : Program) (budget : ℕ) (new : Judge) → new.layout.now ≡ layout
    → new.tables ≡ fresh_tables layout.nodes → new.cells ≡ record { known = known_at_start layout; strays = [] }
    → length new.nodes.runners.items ≡ layout.nodes → AllAt new.nodes.runners.items (first_front layout program budget)
    → Reached (processes_of layout program budget) [] new
begun layout program budget new laid tables cells many all =
    let processes = processes_of layout program budget in
    let fronts = first_front layout program budget in
    let stage : Stage processes [] (fresh_tables layout.nodes) (start layout) fronts =
    stages_go_on.begins processes fronts (λ node lt.
    courses_are_followed.begins (processes.starts node) (source_waits (record { layout = layout; node = node; program = program }) budget)) in
    record {
      fronts = fronts;
      stage = subst (λ t. Stage processes [] t (holds new.layout.now new.cells) fronts) (sym tables)
          (reshown processes [] (fresh_tables layout.nodes) (start layout) fronts stage (holds new.layout.now new.cells)
          (λ place. ap (λ l. holds l new.cells place) laid ∙ ap (λ c. holds layout c place) cells ∙ holds_start layout place));
      many = many;
      counted = ap (λ l. l.nodes) (sym laid);
      all = all;
      placed = λ place is. subst (λ c. IsSome (cell_in c.known place)) (sym cells)
          (subst IsSome (sym (start_in layout place (subst (λ l. IsPlace l place) laid is))) refl);
      sized = ap (λ c. extents_in c.known) cells ∙ ap (λ l. extents_in (known_at_start l)) (sym laid);
    }
