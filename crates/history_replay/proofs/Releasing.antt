-- How a judge goes on with a release, or no history does.
use Rattle.std.proofs.Common.{◌≡◌, ℕ, ◌<◌, List, length, Bool, true, false, refl, sym, ◌∙◌, subst, arith}
use Rattle.std.specs.Prelude.{Result, Ok, Err, IfOk, OnOk}
use Rattle.sc_meaning.specs.declared.request.Request.{Request}
use Rattle.sc_meaning.specs.declared.event.SourceEvent.{SourceEvent}
use Rattle.sc_meaning.specs.declared.event.SourceEvent.TheVariants.{Release}
use Rattle.sc_meaning.specs.Asking.{Answer, Passed}
use Rattle.sc_meaning.specs.Past.{Processes, answers}
use Rattle.replay_books.specs.Tables.{row_at, may_release_in, with_release}
use Rattle.replay_laws.specs.Keeps.{requests_of}
use Rattle.replay_laws.specs.Laws.{Stands}
use Rattle.replay_tables.specs.Cells.{holds}
use Rattle.replay_stages.specs.Laws.{GoesOn}
use Rattle.replay_stages.proofs.Going.{goes_on}
use Rattle.replay_stages.proofs.Known.{answering}
use Rattle.history_replay.specs.declared.judge.Judge.{Judge}
use Rattle.history_replay.specs.Fronts.{AllWait, Passing, SomeStuck}
use Rattle.history_replay.specs.Reached.{Reached, Taken}
use Rattle.history_replay.proofs.Taking.{turned_down, reaches}

module _ (processes : Processes) (past : List SourceEvent) (old new : Judge) (reached : Reached processes past old) (number count : ℕ)
    (counted : processes.nodes ≡ count) where
  abbrev pub given : ℕ → List Answer
  given n = answers processes n past

  abbrev pub made : ℕ → List Request
  made n = requests_of (row_at old.tables n)

  pub no_release : may_release_in old.tables number ≡ false → Taken processes past (Release number) new false
  no_release e = turned_down processes past (Release number) old new reached e

  module _ (e : may_release_in old.tables number ≡ true) where
    g : GoesOn processes past old.tables (holds old.layout.now old.cells) reached.fronts
    g = goes_on processes past old.tables (holds old.layout.now old.cells) reached.fronts reached.stage

    stands : (n : ℕ) → n < processes.nodes → Stands processes.nodes past n
    stands n lt =
        let h = ((answering processes past old.tables (holds old.layout.now old.cells) reached.fronts reached.stage).releases number).0 e in
        record {
          within = lt;
          running = h.none_ended n lt;
          at_barrier = (let a = h.all_arrived n lt in let b = h.numbered in let c = reached.stage.keeps.no_further n lt in omega arith);
        }

    pub all_wait : AllWait count processes.starts given made old.nodes.runners.items reached.fronts
    all_wait = record {
      at = reached.all;
      many = sym (reached.many ∙ counted);
      waits = λ n lt. let w = (reached.stage.at n (subst (λ m. n < m) (sym counted) lt)).waits (stands n (subst (λ m. n < m) (sym counted) lt)) in
          record { before = w.before; last = w.last; whole = w.all; course = w.course; next = w.next; answered = w.answered };
    }

    pub released : {E : Type 0} (result : Result Bool E) → new.tables ≡ with_release old.tables → new.cells ≡ old.cells → new.layout ≡ old.layout
        → OnOk result (length new.nodes.runners.items ≡ length old.nodes.runners.items)
        → IfOk result (λ ok. ok ≡ true → Passing count processes.starts given made count new.nodes.runners.items reached.fronts)
        → IfOk result (λ ok. ok ≡ false → SomeStuck count processes.starts given made)
        → IfOk result (Taken processes past (Release number) new)
    released (Ok ok) b1 b2 b3 b4 passes refused = record {
      goes_on = λ t. let p = passes t in
          reaches processes past (Release number) old new reached (with_release old.tables) old.cells (holds old.layout.now old.cells) p.now
          (record { as_tables = b1; as_cells = b2; as_layout = b3; as_many = b4 })
          (g.released number p.now e (λ n lt. p.passed n (subst (λ m. n < m) counted lt)))
          (λ place. refl) (λ place. refl) refl p.at;
      doomed = λ f. let s = refused f in
          let lt = subst (λ m. s.node < m) (sym counted) s.within in
          g.stuck s.node (Release number) Passed lt (g.release_answer s.node number lt e) s.stuck;
    }
    released (Err x) b1 b2 b3 b4 passes refused = tt
