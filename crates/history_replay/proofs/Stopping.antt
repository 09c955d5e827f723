-- How a judge goes on with the end of a node, or no history does.
use Rattle.std.proofs.Common.{◌≡◌, ℕ, ◌<◌, List, [], ◌∷◌, ◌++◌, length, Bool, true, false, ◌==◌, ◌&&◌, refl, sym, ap, ◌∙◌, subst, arith, if◌then◌else◌}
use Rattle.std.proofs.lemmas.Bool.{and_from}
use Rattle.sc_base.specs.declared.value.End.{End}
use Rattle.sc_base.specs.declared.value.End.TheVariants.{Ended, Fault, Cut, Waiting}
use Rattle.sc_base.specs.declared.value.Place.{Place}
use Rattle.sc_base.specs.declared.value.Value.{Value}
use Rattle.sc_meaning.specs.declared.event.SourceEvent.{SourceEvent}
use Rattle.sc_meaning.specs.declared.event.SourceEvent.TheVariants.{End as Over}
use Rattle.sc_meaning.specs.Asking.{Broken}
use Rattle.sc_meaning.specs.Past.{Processes, answers}
use Rattle.replay_books.specs.Tables.{TablesBook, row_at, goes_on_at, stands_at, with_end}
use Rattle.replay_laws.specs.Keeps.{requests_of}
use Rattle.replay_tables.specs.Cells.{holds}
use Rattle.replay_stages.specs.Courses.{Course, stop_of, IsStuck}
use Rattle.replay_stages.specs.Stage.{Front, Waits}
use Rattle.replay_stages.specs.Laws.{may, ends_now, with_front, GoesOn}
use Rattle.replay_stages.proofs.Courses.{followed}
use Rattle.replay_stages.proofs.Going.{goes_on}
use Rattle.replay_stages.proofs.Known.{answering}
use Rattle.replay_stages.proofs.Testing.{goes_on_is, ends_now_is}
use Rattle.replay_stages.proofs.Moving.{answer_here, eq_self}
use Rattle.core_run.specs.declared.runner.Runner.{Runner}
use Rattle.history_replay.specs.declared.judge.Judge.{Judge}
use Rattle.history_replay.specs.Fronts.{IsAt, AllAt, said, GoesTo}
use Rattle.history_replay.specs.Reached.{Reached, Taken}
use Rattle.history_replay.proofs.Reaching.{restood, stop_past, front_same}
use Rattle.history_replay.proofs.Taking.{turned_down, came, Becomes, reaches}

may_end : (t : TablesBook) (fronts : ℕ → Front) (shows : Place → Value) (node : ℕ) (end : End) → (end ≡ Waiting → ⊥)
    → may t fronts shows (Over node end) ≡ (goes_on_at t node && ends_now end (stop_of (fronts node).rest))
may_end t fronts shows node Ended h = refl
may_end t fronts shows node (Fault kind line) h = refl
may_end t fronts shows node Cut h = refl
may_end t fronts shows node Waiting h = absurd (h refl)

pub not_first : (a b : Bool) → a ≡ false → (a && b) ≡ false
not_first true b e = absurd cc
not_first false b e = refl

pub not_second : (a b : Bool) → b ≡ false → (a && b) ≡ false
not_second true b e = e
not_second false b e = refl

-- a node that goes on is one of the judge's
pub there : (processes : Processes) (past : List SourceEvent) (j : Judge) (reached : Reached processes past j) (node : ℕ)
    → goes_on_at j.tables node ≡ true → node < length j.nodes.runners.items
there processes past j reached node on =
    let h = goes_on_is processes past j.tables (holds j.layout.now j.cells) reached.fronts reached.stage node on in
    let m = reached.many in let w = h.node_within in omega arith

module _ (processes : Processes) (past : List SourceEvent) (old new : Judge) (reached : Reached processes past old) (node : ℕ) where
  abbrev shows : Place → Value
  shows = holds old.layout.now old.cells

  abbrev fronts : ℕ → Front
  fronts = reached.fronts

  -- an end that is not as waiting, of a node that goes on and stops so
  pub finishes : (end : End) → (end ≡ Waiting → ⊥) → goes_on_at old.tables node ≡ true → ends_now end (stop_of (fronts node).rest) ≡ true
      → Becomes new old (with_end old.tables node end) old.cells
      → AllAt new.nodes.runners.items (with_front fronts node (said (fronts node)))
      → Taken processes past (Over node end) new true
  finishes end unlike on so b all =
      let after : ℕ → Front = with_front fronts node (said (fronts node)) in
      let stage = restood processes past old.tables shows fronts reached.stage node in
      let so_said : ends_now end (stop_of (after node).rest) ≡ true =
      ap (λ f. ends_now end (stop_of f.rest)) (front_same fronts node (said (fronts node)))
      ∙ ap (ends_now end) (stop_past (fronts node).rest) ∙ so in
      came processes past (Over node end) new
      (reaches processes past (Over node end) old new reached (with_end old.tables node end) old.cells shows after b
      ((goes_on processes past old.tables shows after stage).ended node end
      (may_end old.tables after shows node end unlike ∙ and_from _ _ on so_said) unlike)
      (λ place. refl) (λ place. refl) refl all)

  pub not_on : (end : End) → (end ≡ Waiting → ⊥) → goes_on_at old.tables node ≡ false → Taken processes past (Over node end) new false
  not_on end unlike off =
      turned_down processes past (Over node end) old new reached
      (may_end old.tables fronts shows node end unlike ∙ not_first _ _ off)

  pub not_so : (end : End) → (end ≡ Waiting → ⊥) → ends_now end (stop_of (fronts node).rest) ≡ false
      → Taken processes past (Over node end) new false
  not_so end unlike off =
      turned_down processes past (Over node end) old new reached
      (may_end old.tables fronts shows node end unlike ∙ not_second (goes_on_at old.tables node) _ off)

  pub not_standing : stands_at old.tables node ≡ false → Taken processes past (Over node Waiting) new false
  not_standing off = turned_down processes past (Over node Waiting) old new reached off

  module _ (on : stands_at old.tables node ≡ true) where
    abbrev pub g : GoesOn processes past old.tables shows fronts
    g = goes_on processes past old.tables shows fronts reached.stage

    pub within : node < processes.nodes
    within = (((answering processes past old.tables shows fronts reached.stage).stands node).0 on).within

    pub here : node < length old.nodes.runners.items
    here = let m = reached.many in let w = within in omega arith

    abbrev pub waits : Waits processes node past (row_at old.tables node) (fronts node)
    waits = g.waiting node on

    broken : answers processes node (Over node Waiting ∷ past) ≡ answers processes node past ++ Broken ∷ []
    broken = answer_here processes node past (node == node) Broken (eq_self node)

    -- the broken barrier is no answer
    pub stuck : IsStuck (processes.starts node) (answers processes node past ++ Broken ∷ []) → Taken processes past (Over node Waiting) new false
    stuck s = record {
      goes_on = λ t. let c : false ≡ true = t in absurd cc;
      doomed = λ f. g.stuck node (Over node Waiting) Broken within broken s;
    }

    module _ (runners : List Runner)
        (go : GoesTo runners fronts node (processes.starts node) (answers processes node past ++ Broken ∷ []) (waits.before ++ waits.last ∷ [])) where
      stood : Course (processes.starts node) (answers processes node past ++ Broken ∷ []) (requests_of (row_at old.tables node))
          go.front.text go.front.rest
      stood = subst (λ rs. Course (processes.starts node) (answers processes node past ++ Broken ∷ []) rs go.front.text go.front.rest)
          (sym waits.all) go.course

      pub stops_not : ends_now Waiting (stop_of (with_front fronts node go.front node).rest) ≡ false → Taken processes past (Over node Waiting) new false
      stops_not e = record {
        goes_on = λ t. let c : false ≡ true = t in absurd cc;
        doomed = λ f. g.not_given_up node go.front on stood
            (ap (λ x. ends_now Waiting (stop_of x.rest)) (sym (front_same fronts node go.front)) ∙ e);
      }

      pub gives_up : ends_now Waiting (stop_of (with_front fronts node go.front node).rest) ≡ true
          → Becomes new old (with_end old.tables node Waiting) old.cells
          → AllAt new.nodes.runners.items (with_front (with_front fronts node go.front) node (said (with_front fronts node go.front node)))
          → Taken processes past (Over node Waiting) new true
      gives_up e b all =
          let so : ends_now Waiting (stop_of go.front.rest) ≡ true =
          ap (λ x. ends_now Waiting (stop_of x.rest)) (sym (front_same fronts node go.front)) ∙ e in
          let f : Front = said go.front in
          came processes past (Over node Waiting) new
          (reaches processes past (Over node Waiting) old new reached (with_end old.tables node Waiting) old.cells shows (with_front fronts node f) b
          (g.gave_up node f on
          ((followed (processes.starts node) (answers processes node past ++ Broken ∷ []) (requests_of (row_at old.tables node)) go.front.text).said go.front.rest stood)
          (stop_past go.front.rest ∙ ends_now_is Waiting (stop_of go.front.rest) so))
          (λ place. refl) (λ place. refl) refl
          (λ n r at. subst (IsAt r) (once (node == n) n) (all n r at)))
        where
          once : (c : Bool) (n : ℕ)
              → (if c then said (with_front fronts node go.front node) else (if c then go.front else fronts n))
              ≡ (if c then said go.front else fronts n)
          once true n = ap said (front_same fronts node go.front)
          once false n = refl
