-- How the nodes stand after an event.
use Rattle.std.proofs.Common.{◌≡◌, ⊎_elim, ℕ, ◌+◌, ◌<◌, ◌≤◌, List, [], ◌∷◌, ◌++◌, Option, Some, None, Bool, true, false, ◌==◌, refl, sym, ap, ◌∙◌, subst, if◌then◌else◌, arith, slice_get, slice_set, get_or, eq-eqb}
use Rattle.std.specs.Option.{option_map_or}
use Rattle.std.proofs.lemmas.Bool.Decides.{eqb_tells}
use Rattle.std.proofs.lemmas.List.{get_or-set_same, get_or-set_other}
use Rattle.sc_base.specs.declared.value.Place.{Place}
use Rattle.sc_base.specs.declared.value.Value.{Value}
use Rattle.sc_meaning.specs.declared.event.SourceEvent.{SourceEvent}
use Rattle.sc_meaning.specs.Asking.{Answer}
use Rattle.sc_meaning.specs.Past.{Processes, shown, releases, arrivals, ended, answers, and_answer}
use Rattle.sc_meaning.specs.History.{Allowed}
use Rattle.replay_books.specs.Entry.{EntryBook, occurred}
use Rattle.replay_books.specs.Row.{RowBook, fresh_row, with_part, with_entry}
use Rattle.replay_books.specs.Tables.{TablesBook, row_at}
use Rattle.replay_laws.specs.Keeps.{Keeps, requests_of}
use Rattle.replay_laws.proofs.Occurred.{map_set}
use Rattle.replay_laws.proofs.Others.{SameOf, when, unless}
use Rattle.replay_stages.specs.Courses.{Course}
use Rattle.replay_stages.specs.Stage.{Front, HasMade, NodeAt, Stage}
use Rattle.replay_stages.specs.Laws.{with_front}

pub eq_self : (n : ℕ) → (n == n) ≡ true
eq_self n = eq-eqb n n refl

pub requests_part : (row : RowBook) (number cell : ℕ) (wrote : Bool) (value : Value)
    → requests_of (with_part row number cell wrote value) ≡ requests_of row
requests_part row number cell wrote value = by (slice_get row.entries number) refl
  where
    by : (o : Option EntryBook) → slice_get row.entries number ≡ o
        → requests_of (option_map_or (λ e. with_entry row number (occurred e cell wrote value)) (slice_get row.entries number) row) ≡ requests_of row
    by None e = ap (λ o. requests_of (option_map_or (λ e. with_entry row number (occurred e cell wrote value)) o row)) e
    by (Some x) e =
        ap (λ o. requests_of (option_map_or (λ e. with_entry row number (occurred e cell wrote value)) o row)) e
        ∙ map_set (λ y. y.request) row.entries number x (occurred x cell wrote value) e refl

-- where nothing that is said of the node changes, it stands as before
pub node_same : (processes : Processes) (node : ℕ) (past later : List SourceEvent) (row new : RowBook) (f : Front)
    → ended node later ≡ ended node past → arrivals node later ≡ arrivals node past
    → releases later ≡ releases past → answers processes node later ≡ answers processes node past
    → requests_of new ≡ requests_of row → NodeAt processes node past row f → NodeAt processes node later new f
node_same processes node past later row new f same_end same_arrivals rel ans reqs at = record {
  free = λ h. subst (λ rs. Course (processes.starts node) (answers processes node later) rs f.text f.rest) (sym reqs)
      (subst (λ g. Course (processes.starts node) g (requests_of row) f.text f.rest) (sym ans)
      (at.free (λ e. let l = h (same_end ∙ e) in let a = same_arrivals in let r = rel in omega arith)));
  waits = λ h. let w = at.waits (record {
    within = h.within;
    running = sym same_end ∙ h.running;
    at_barrier = sym same_arrivals ∙ h.at_barrier ∙ ap (λ n. n + 1) rel;
  }) in record {
    before = w.before;
    last = w.last;
    all = reqs ∙ w.all;
    course = subst (λ g. Course (processes.starts node) g w.before f.text f.rest) (sym ans) w.course;
    next = w.next;
    answered = w.answered;
  };
}

-- a node that goes on has the requests of its row behind it
pub node_free : (processes : Processes) (node : ℕ) (later : List SourceEvent) (row : RowBook) (f : Front)
    → (ended node later ≡ None → arrivals node later ≤ releases later)
    → HasMade processes node later row f → NodeAt processes node later row f
node_free processes node later row f h c = record {
  free = λ k. c;
  waits = λ w. let l = h w.running in let b = w.at_barrier in absurd (omega arith);
}

module _ (processes : Processes) (past : List SourceEvent) (t : TablesBook) (shows : Place → Value) (fronts : ℕ → Front)
    (s : Stage processes past t shows fronts) where
  -- after an event of one node
  pub own : (node : ℕ) (e : SourceEvent) (new : TablesBook) (row : RowBook) (seen : Place → Value) (f : Front)
      → node < processes.nodes → Allowed processes past e → Keeps processes.nodes (e ∷ past) new
      → new.rows ≡ slice_set t.rows node row
      → ((place : Place) → seen place ≡ shown processes.start place (e ∷ past))
      → ((n : ℕ) → (node == n) ≡ false → SameOf n past (e ∷ past))
      → ((n : ℕ) → (node == n) ≡ false → answers processes n (e ∷ past) ≡ answers processes n past)
      → releases (e ∷ past) ≡ releases past
      → NodeAt processes node (e ∷ past) row f
      → Stage processes (e ∷ past) new seen (with_front fronts node f)
  own node e new row seen f lt allowed keeps rows cells same others rel at = record {
    legal = (allowed, s.legal);
    keeps = keeps;
    cells = cells;
    at = λ n below. ⊎_elim
        (λ q. subst (λ m. NodeAt processes m (e ∷ past) (row_at new m) (with_front fronts node f m)) q.1
        (subst (λ r. NodeAt processes node (e ∷ past) r (with_front fronts node f node))
        (sym (ap (λ rs. get_or rs node fresh_row) rows ∙ get_or-set_same t.rows node row fresh_row (let a = s.keeps.all in omega arith)))
        (subst (NodeAt processes node (e ∷ past) row) (sym (when (node == node) f (fronts node) (eq_self node))) at)))
        (λ q. subst (λ r. NodeAt processes n (e ∷ past) r (with_front fronts node f n))
        (sym (ap (λ rs. get_or rs n fresh_row) rows ∙ get_or-set_other t.rows node n row fresh_row (λ g. q.1 (sym g))))
        (subst (NodeAt processes n (e ∷ past) (row_at t n)) (sym (unless (node == n) f (fronts n) q.0))
        (node_same processes n past (e ∷ past) (row_at t n) (row_at t n) (fronts n) (same n q.0).as_ended (same n q.0).as_arrived rel (others n q.0) refl (s.at n below))))
        (eqb_tells node n);
  }

  -- so it is where the node stands as before
  pub kept : (node : ℕ) (e : SourceEvent) (new : TablesBook) (row : RowBook) (seen : Place → Value)
      → node < processes.nodes → Allowed processes past e → Keeps processes.nodes (e ∷ past) new
      → new.rows ≡ slice_set t.rows node row
      → ((place : Place) → seen place ≡ shown processes.start place (e ∷ past))
      → ((n : ℕ) → (node == n) ≡ false → SameOf n past (e ∷ past))
      → ((n : ℕ) → (node == n) ≡ false → answers processes n (e ∷ past) ≡ answers processes n past)
      → releases (e ∷ past) ≡ releases past
      → NodeAt processes node (e ∷ past) row (fronts node)
      → Stage processes (e ∷ past) new seen fronts
  kept node e new row seen lt allowed keeps rows cells same others rel at = record {
    legal = (allowed, s.legal);
    keeps = keeps;
    cells = cells;
    at = λ n below. ⊎_elim
        (λ q. subst (λ m. NodeAt processes m (e ∷ past) (row_at new m) (fronts m)) q.1
        (subst (λ r. NodeAt processes node (e ∷ past) r (fronts node))
        (sym (ap (λ rs. get_or rs node fresh_row) rows ∙ get_or-set_same t.rows node row fresh_row (let a = s.keeps.all in omega arith)))
        at))
        (λ q. subst (λ r. NodeAt processes n (e ∷ past) r (fronts n))
        (sym (ap (λ rs. get_or rs n fresh_row) rows ∙ get_or-set_other t.rows node n row fresh_row (λ g. q.1 (sym g))))
        (node_same processes n past (e ∷ past) (row_at t n) (row_at t n) (fronts n) (same n q.0).as_ended (same n q.0).as_arrived rel (others n q.0) refl (s.at n below)))
        (eqb_tells node n);
  }

-- what an event that answers the node adds
pub answer_here : (processes : Processes) (node : ℕ) (past : List SourceEvent) (b : Bool) (a : Answer) → b ≡ true
    → and_answer (answers processes node past) (if b then Some a else None) ≡ answers processes node past ++ a ∷ []
answer_here processes node past true a e = refl
answer_here processes node past false a e = absurd cc

pub answer_elsewhere : (processes : Processes) (node : ℕ) (past : List SourceEvent) (b : Bool) (a : Answer) → b ≡ false
    → and_answer (answers processes node past) (if b then Some a else None) ≡ answers processes node past
answer_elsewhere processes node past true a e = absurd cc
answer_elsewhere processes node past false a e = refl
