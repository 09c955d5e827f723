-- How a judge goes on with an event, or no history does.
use Rattle.std.proofs.Common.{◌≡◌, ℕ, ◌<◌, List, [], ◌∷◌, ◌++◌, length, Option, Some, None, Bool, true, false, ◌==◌, ◌&&◌, refl, sym, ap, ◌∙◌, subst, arith, if◌then◌else◌}
use Rattle.std.specs.Prelude.{IsSome, is_some, Result, Ok, Err, IfOk, OnOk}
use Rattle.std.specs.Option.{option_map_or}
use Rattle.std.proofs.lemmas.List.{append-nil}
use Rattle.resumption.specs.Resumption.{next_event}
use Rattle.sc_base.specs.declared.value.Place.{Place}
use Rattle.sc_base.specs.declared.value.Value.{Value}
use Rattle.sc_layout.specs.Place.{IsPlace}
use Rattle.sc_meaning.specs.declared.request.Request.{Request}
use Rattle.sc_meaning.specs.declared.request.Request.TheVariants as ask
use Rattle.sc_meaning.specs.declared.event.SourceEvent.{SourceEvent}
use Rattle.sc_meaning.specs.declared.event.SourceEvent.TheVariants.{Do, Issue, Effect, Sync, Arrive}
use Rattle.sc_meaning.specs.Asking.{SourceDoing, Answer, Shown, Landed}
use Rattle.sc_meaning.specs.Parts.{is_issued}
use Rattle.sc_meaning.specs.Past.{Processes, answers}
use Rattle.sc_meaning.specs.Test.{is_read_of, is_write_of, is_sync, is_barrier}
use Rattle.replay_books.specs.Row.{landing}
use Rattle.replay_books.specs.Tables.{TablesBook, row_at, goes_on_at, made_at, with_made, with_sync, with_arrival, with_occurred, split_over, may_occur_in_tables}
use Rattle.replay_laws.specs.Keeps.{requests_of}
use Rattle.replay_tables.specs.Cells.{CellBook, holds, cell_in, with_cell, known_at_start}
use Rattle.replay_stages.specs.Courses.{Course, IsStuck}
use Rattle.sc_meaning.specs.Answering.{is_answered}
use Rattle.replay_stages.specs.Stage.{Front, Stage}
use Rattle.replay_stages.specs.Laws.{is_read_now, may, with_front, GoesOn, StoodPast, written_to, shows_after}
use Rattle.replay_stages.proofs.Going.{goes_on}
use Rattle.replay_stages.proofs.Testing.{goes_on_is, stands_next}
use Rattle.replay_stages.proofs.Moving.{answer_here, eq_self}
use Rattle.history_replay.specs.declared.judge.Judge.{Judge}
use Rattle.history_replay.specs.Fronts.{AllAt, GoesTo}
use Rattle.history_replay.specs.Reached.{Reached, NextAt, Taken, extents_in}
use Rattle.history_replay.proofs.Reaching.{reshown}
use Rattle.history_replay.proofs.Cells.{holds_written, placed_written}
use Rattle.history_replay.proofs.Sizes.{sized_written}

pub turned_down : (processes : Processes) (past : List SourceEvent) (event : SourceEvent) (j new : Judge) (reached : Reached processes past j)
    → may j.tables reached.fronts (holds j.layout.now j.cells) event ≡ false → Taken processes past event new false
turned_down processes past event j new reached e = record {
  goes_on = λ t. let c : false ≡ true = t in absurd cc;
  doomed = λ f. (goes_on processes past j.tables (holds j.layout.now j.cells) reached.fronts reached.stage).refused event e;
}

pub came : (processes : Processes) (past : List SourceEvent) (event : SourceEvent) (new : Judge) → Reached processes (event ∷ past) new
    → Taken processes past event new true
came processes past event new reached = record {
  goes_on = λ t. reached;
  doomed = λ f. let c : true ≡ false = f in absurd cc;
}

-- where the node has no next request, none comes that passes a test; and so where it fails it
pub none_comes : (test : Request → Bool) (o : Option Request) → None ≡ o → option_map_or test o false ≡ false
none_comes test o e = sym (ap (λ p. option_map_or test p false) e)

pub fails_it : (test : Request → Bool) (r : Request) (o : Option Request) → Some r ≡ o → test r ≡ false → option_map_or test o false ≡ false
fails_it test r o e f = sym (ap (λ p. option_map_or test p false) e) ∙ f

turn_of : (b c : Bool) (o : Option Request) (r : Request) → (if b && c then o else None) ≡ Some r → b ≡ true
turn_of true c o r e = refl
turn_of false c o r e = absurd cc

-- what is known of the new judge
pub record Becomes (new : Judge) (old : Judge) (tables : TablesBook) (cells : CellBook) : Type 0 where
  pub as_tables : new.tables ≡ tables
  pub as_cells : new.cells ≡ cells
  pub as_layout : new.layout ≡ old.layout
  pub as_many : length new.nodes.runners.items ≡ length old.nodes.runners.items

module _ (processes : Processes) (past : List SourceEvent) (event : SourceEvent) (old new : Judge) (reached : Reached processes past old) where
  -- at the stage that comes next
  pub reaches : (tables : TablesBook) (cells : CellBook) (shows : Place → Value) (fronts : ℕ → Front) → Becomes new old tables cells
      → Stage processes (event ∷ past) tables shows fronts
      → ((place : Place) → holds old.layout.now cells place ≡ shows place)
      → ((place : Place) → is_some (cell_in cells.known place) ≡ is_some (cell_in old.cells.known place))
      → extents_in cells.known ≡ extents_in old.cells.known
      → AllAt new.nodes.runners.items fronts → Reached processes (event ∷ past) new
  reaches tables cells shows fronts b stage same kept as_many all = record {
    fronts = fronts;
    stage = subst (λ t. Stage processes (event ∷ past) t (holds new.layout.now new.cells) fronts) (sym b.as_tables)
        (reshown processes (event ∷ past) tables shows fronts stage (holds new.layout.now new.cells)
        (λ place. ap (λ l. holds l.now new.cells place) b.as_layout ∙ ap (λ c. holds old.layout.now c place) b.as_cells ∙ same place));
    many = b.as_many ∙ reached.many;
    counted = reached.counted ∙ ap (λ l. l.now.nodes) (sym b.as_layout);
    all = all;
    placed = λ place is. subst (λ c. IsSome (cell_in c.known place)) (sym b.as_cells)
        (kept place ∙ reached.placed place (subst (λ l. IsPlace l.now place) b.as_layout is));
    sized = ap (λ c. extents_in c.known) b.as_cells ∙ as_many ∙ reached.sized
        ∙ ap (λ l. extents_in (known_at_start l.now)) (sym b.as_layout);
  }

module _ (processes : Processes) (past : List SourceEvent) (event : SourceEvent) (old new : Judge) (node number : ℕ) (r : Request)
    (n : NextAt processes past node number old (Some r)) where
  abbrev fronts : ℕ → Front
  fronts = n.reached.fronts

  abbrev shows : Place → Value
  shows = holds old.layout.now old.cells

  g : GoesOn processes past old.tables shows fronts
  g = goes_on processes past old.tables shows fronts n.reached.stage

  turn : goes_on_at old.tables node ≡ true
  turn = turn_of (goes_on_at old.tables node) (made_at old.tables node == number) (next_event (fronts node).rest) r (sym n.next)

  within : node < processes.nodes
  within = (goes_on_is processes past old.tables shows fronts n.reached.stage node turn).node_within

  here : node < length old.nodes.runners.items
  here = let m = n.reached.many in let w = within in omega arith

  next : next_event (fronts node).rest ≡ Some r
  next = stands_next processes past old.tables shows fronts n.reached.stage node number r (sym n.next)

  abbrev pub WillAnswer : {E : Type 0} → Result Bool E → Answer → Type 0
  WillAnswer result answer =
      (start : SourceDoing) (given : List Answer) (requests : List Request) (fronts : ℕ → Front) (r : Request)
      → AllAt old.nodes.runners.items fronts → node < length old.nodes.runners.items
      → Course start given requests (fronts node).text (fronts node).rest → next_event (fronts node).rest ≡ Some r
      → is_answered r ≡ true → IfOk result (λ taken. taken ≡ true
      → GoesTo new.nodes.runners.items fronts node start (given ++ answer ∷ []) (requests ++ r ∷ []))

  abbrev pub WillRefuse : {E : Type 0} → Result Bool E → Answer → Type 0
  WillRefuse result answer =
      (start : SourceDoing) (given : List Answer) (requests : List Request) (fronts : ℕ → Front) (r : Request)
      → AllAt old.nodes.runners.items fronts → node < length old.nodes.runners.items
      → Course start given requests (fronts node).text (fronts node).rest → next_event (fronts node).rest ≡ Some r
      → is_answered r ≡ true → IfOk result (λ taken. taken ≡ false → IsStuck start (given ++ answer ∷ []))

  -- by a request that is answered
  pub answered : {E : Type 0} (result : Result Bool E) (answer : Answer) (tables : TablesBook) → is_answered r ≡ true
      → answers processes node (event ∷ past) ≡ answers processes node past ++ answer ∷ []
      → ((f : Front) → StoodPast processes past old.tables shows fronts node (answer ∷ []) r f
      → Stage processes (event ∷ past) tables shows (with_front fronts node f))
      → new.tables ≡ tables → new.cells ≡ old.cells → new.layout ≡ old.layout
      → OnOk result (length new.nodes.runners.items ≡ length old.nodes.runners.items)
      → WillAnswer result answer → WillRefuse result answer → IfOk result (Taken processes past event new)
  answered (Ok ok) answer tables is ans stage b1 b2 b3 b4 taken refused =
      let b : Becomes new old tables old.cells = record { as_tables = b1; as_cells = b2; as_layout = b3; as_many = b4 } in
      let c = g.free node turn in
      record {
        goes_on = λ t.
            let go = taken (processes.starts node) (answers processes node past) (requests_of (row_at old.tables node)) fronts r
            n.reached.all here c next is t in
            reaches processes past event old new n.reached tables old.cells shows (with_front fronts node go.front) b
            (stage go.front go.course) (λ place. refl) (λ place. refl) refl go.all;
        doomed = λ f.
            g.stuck node event answer within ans
            (refused (processes.starts node) (answers processes node past) (requests_of (row_at old.tables node)) fronts r
            n.reached.all here c next is f);
      }
  answered (Err e) answer tables is ans stage b1 b2 b3 b4 taken refused = tt

  abbrev pub WillPass : Type 0
  WillPass =
      (start : SourceDoing) (given : List Answer) (requests : List Request) (fronts : ℕ → Front) (r : Request)
      → AllAt old.nodes.runners.items fronts → node < length old.nodes.runners.items
      → Course start given requests (fronts node).text (fronts node).rest → next_event (fronts node).rest ≡ Some r
      → is_answered r ≡ false → GoesTo new.nodes.runners.items fronts node start given (requests ++ r ∷ [])

  -- by one that is not
  pub passed : (tables : TablesBook) (cells : CellBook) (after : Place → Value) → is_answered r ≡ false
      → ((f : Front) → StoodPast processes past old.tables shows fronts node [] r f
      → Stage processes (event ∷ past) tables after (with_front fronts node f))
      → ((place : Place) → holds old.layout.now cells place ≡ after place)
      → ((place : Place) → is_some (cell_in cells.known place) ≡ is_some (cell_in old.cells.known place))
      → extents_in cells.known ≡ extents_in old.cells.known
      → Becomes new old tables cells → WillPass → Taken processes past event new true
  passed tables cells after is stage same kept as_many b will =
      let c = g.free node turn in
      let go = will (processes.starts node) (answers processes node past) (requests_of (row_at old.tables node)) fronts r
      n.reached.all here c next is in
      came processes past event new
      (reaches processes past event old new n.reached tables cells after (with_front fronts node go.front) b
      (stage go.front (subst (λ given. Course (processes.starts node) given (requests_of (row_at old.tables node) ++ r ∷ []) go.front.text go.front.rest)
      (sym (append-nil (answers processes node past))) go.course)) same kept as_many go.all)

-- ---- one event each

read_answered : (place : Place) (r : Request) → is_read_of place r ≡ true → is_answered r ≡ true
read_answered place (ask.Read other line) e = refl
read_answered place r e = absurd cc

write_passed : (place : Place) (value : Value) (r : Request) → is_write_of place value r ≡ true → is_answered r ≡ false
write_passed place value (ask.Write other v line) e = refl
write_passed place value r e = absurd cc

issue_passed : (r : Request) → is_issued r ≡ true → is_answered r ≡ false
issue_passed (ask.Get place line) e = refl
issue_passed (ask.Put place value line) e = refl
issue_passed (ask.Store place value line) e = refl
issue_passed (ask.Copy from to cells mode line) e = refl
issue_passed r e = absurd cc

sync_answered : (r : Request) → is_sync r ≡ true → is_answered r ≡ true
sync_answered (ask.Sync line) e = refl
sync_answered r e = absurd cc

first_part : (a b : Bool) → (a && b) ≡ true → a ≡ true
first_part true b e = refl
first_part false b e = absurd cc

module _ (processes : Processes) (past : List SourceEvent) (old new : Judge) (node number : ℕ) (r : Request)
    (n : NextAt processes past node number old (Some r)) where
  pub reads : {E : Type 0} (result : Result Bool E) (place : Place) (value : Value)
      → is_read_now (holds old.layout.now old.cells) place value r ≡ true
      → new.tables ≡ with_made old.tables node r → new.cells ≡ old.cells → new.layout ≡ old.layout
      → OnOk result (length new.nodes.runners.items ≡ length old.nodes.runners.items)
      → WillAnswer processes past (Do node number false place value) old new node number r n result (Shown value)
      → WillRefuse processes past (Do node number false place value) old new node number r n result (Shown value)
      → IfOk result (Taken processes past (Do node number false place value) new)
  reads result place value is b1 b2 b3 b4 taken refused =
      answered processes past (Do node number false place value) old new node number r n result (Shown value) (with_made old.tables node r)
      (read_answered place r (first_part _ _ is))
      (answer_here processes node past (node == node) (Shown value) (eq_self node))
      (λ f c. (g processes past (Do node number false place value) old new node number r n).read node number place value r f (sym n.next) is c)
      b1 b2 b3 b4 taken refused

  pub writes : (place : Place) (value : Value) → is_write_of place value r ≡ true
      → Becomes new old (with_made old.tables node r) (with_cell old.cells place value)
      → WillPass processes past (Do node number true place value) old new node number r n
      → Taken processes past (Do node number true place value) new true
  writes place value is b will =
      passed processes past (Do node number true place value) old new node number r n (with_made old.tables node r)
      (with_cell old.cells place value) (written_to (holds old.layout.now old.cells) place value) (write_passed place value r is)
      (λ f c. (g processes past (Do node number true place value) old new node number r n).wrote node number place value r f (sym n.next) is c)
      (holds_written old.layout.now old.cells place value) (placed_written old.cells place value)
      (sized_written old.cells place value) b will

  pub issues : is_issued r ≡ true → Becomes new old (with_made old.tables node r) old.cells
      → WillPass processes past (Issue node number) old new node number r n → Taken processes past (Issue node number) new true
  issues is b will =
      passed processes past (Issue node number) old new node number r n (with_made old.tables node r) old.cells
      (holds old.layout.now old.cells) (issue_passed r is)
      (λ f c. (g processes past (Issue node number) old new node number r n).issued node number r f (sym n.next) is c)
      (λ place. refl) (λ place. refl) refl b will

  pub syncs : {E : Type 0} (result : Result Bool E) (values : List Value) → is_sync r ≡ true → split_over old.tables node ≡ true
      → values ≡ landing (row_at old.tables node)
      → new.tables ≡ with_sync old.tables node r → new.cells ≡ old.cells → new.layout ≡ old.layout
      → OnOk result (length new.nodes.runners.items ≡ length old.nodes.runners.items)
      → WillAnswer processes past (Sync node number) old new node number r n result (Landed values)
      → WillRefuse processes past (Sync node number) old new node number r n result (Landed values)
      → IfOk result (Taken processes past (Sync node number) new)
  syncs result values is over same b1 b2 b3 b4 taken refused =
      let go = g processes past (Sync node number) old new node number r n in
      answered processes past (Sync node number) old new node number r n result (Landed values) (with_sync old.tables node r)
      (sync_answered r is)
      (go.sync_answer node number r (sym n.next) ∙ ap (λ vs. answers processes node past ++ Landed vs ∷ []) (sym same))
      (λ f c. go.synced node number r f (sym n.next) is over
      (subst (λ vs. StoodPast processes past old.tables (holds old.layout.now old.cells) n.reached.fronts node (Landed vs ∷ []) r f) same c))
      b1 b2 b3 b4 taken refused

  pub arrives : (stores : Bool) → is_barrier stores r ≡ true → Becomes new old (with_arrival old.tables node r stores) old.cells
      → new.nodes ≡ old.nodes → Taken processes past (Arrive node number stores) new true
  arrives stores is b same =
      came processes past (Arrive node number stores) new
      (reaches processes past (Arrive node number stores) old new n.reached (with_arrival old.tables node r stores) old.cells
      (holds old.layout.now old.cells) n.reached.fronts b
      ((g processes past (Arrive node number stores) old new node number r n).arrived node number stores r (sym n.next) is)
      (λ place. refl) (λ place. refl) refl (subst (λ all. AllAt all.runners.items n.reached.fronts) (sym same) n.reached.all))

pub occurs : (processes : Processes) (past : List SourceEvent) (old new : Judge) (reached : Reached processes past old)
    (node number cell : ℕ) (wrote : Bool) (place : Place) (value : Value) (cells : CellBook)
    → may_occur_in_tables old.tables node number cell wrote place value (holds old.layout.now old.cells place) ≡ true
    → cells ≡ (if wrote then with_cell old.cells place value else old.cells)
    → Becomes new old (with_occurred old.tables node number cell wrote value) cells → new.nodes ≡ old.nodes
    → Taken processes past (Effect node number cell wrote place value) new true
occurs processes past old new reached node number cell wrote place value cells e is b same =
    came processes past (Effect node number cell wrote place value) new
    (reaches processes past (Effect node number cell wrote place value) old new reached (with_occurred old.tables node number cell wrote value) cells
    (shows_after wrote (holds old.layout.now old.cells) place value) reached.fronts b
    ((goes_on processes past old.tables (holds old.layout.now old.cells) reached.fronts reached.stage).occurred node number cell wrote place value e)
    (λ other. ap (λ c. holds old.layout.now c other) is ∙ shown wrote other)
    (λ other. ap (λ c. is_some (cell_in c.known other)) is ∙ kept wrote other)
    (ap (λ c. extents_in c.known) is ∙ as_many wrote)
    (subst (λ all. AllAt all.runners.items reached.fronts) (sym same) reached.all))
  where
    shown : (w : Bool) (other : Place) → holds old.layout.now (if w then with_cell old.cells place value else old.cells) other
        ≡ shows_after w (holds old.layout.now old.cells) place value other
    shown true other = holds_written old.layout.now old.cells place value other
    shown false other = refl

    kept : (w : Bool) (other : Place)
        → is_some (cell_in (if w then with_cell old.cells place value else old.cells).known other) ≡ is_some (cell_in old.cells.known other)
    kept true other = placed_written old.cells place value other
    kept false other = refl

    as_many : (w : Bool) → extents_in (if w then with_cell old.cells place value else old.cells).known ≡ extents_in old.cells.known
    as_many true = sized_written old.cells place value
    as_many false = refl
