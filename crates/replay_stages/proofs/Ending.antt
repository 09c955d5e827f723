-- A stage at which all is complete tells a history.
use Rattle.std.proofs.Common.{◌≡◌, ℕ, ◌<◌, List, ◌++◌, Some, None, true, false, refl, sym, ap, ◌∙◌, reverse}
use Rattle.resumption.specs.Resumption.{next_text}
use Rattle.sc_base.specs.declared.value.Place.{Place}
use Rattle.sc_base.specs.declared.value.Value.{Value}
use Rattle.sc_meaning.specs.declared.event.SourceEvent.{SourceEvent}
use Rattle.sc_meaning.specs.Asking.{Finishes}
use Rattle.sc_meaning.specs.Past.{Processes, ended, answers, run_so_far}
use Rattle.meaning_laws.proofs.Fronts.{end_is_of_the_run}
use Rattle.replay_books.specs.Tables.{TablesBook, row_at, is_complete_in}
use Rattle.replay_laws.specs.Keeps.{requests_of}
use Rattle.replay_laws.specs.Laws.{Answers}
use Rattle.replay_stages.specs.Stage.{Front, Stage}
use Rattle.replay_stages.specs.Ending.{Told, HistoriesAreTold}
use Rattle.replay_stages.proofs.Courses.{followed}
use Rattle.replay_stages.proofs.Doom.{some_of}
use Rattle.replay_stages.proofs.Known.{row_length, answering}
use Rattle.replay_stages.proofs.Testing.{stops_so}

module _ (processes : Processes) (history : List SourceEvent) (t : TablesBook) (shows : Place → Value) (fronts : ℕ → Front)
    (s : Stage processes (reverse history) t shows fronts) where
  abbrev past : List SourceEvent
  past = reverse history

  a : Answers processes past t
  a = answering processes past t shows fronts s

  texts : (node : ℕ) → node < processes.nodes → is_complete_in t ≡ true
      → (fronts node).text ++ next_text (fronts node).rest ≡ (run_so_far processes node past).text
  texts node lt e =
      let c = a.completes.0 e in
      let end = some_of (ended node past) (c.all_ended node lt) in
      let over = end_is_of_the_run processes past node end.0 s.legal end.1 in
      let course = (s.at node lt).free (λ n. let x : None ≡ Some end.0 = sym n ∙ end.1 in absurd cc) in
      let stops = stops_so (processes.starts node) (answers processes node past) (requests_of (row_at t node)) (fronts node).text
      (fronts node).rest (Finishes end.0) course
      (row_length (row_at t node) ∙ (s.keeps.rows node lt).made ∙ over.all_made) over.over in
      sym (ap (λ run. run.text) ((followed (processes.starts node) (answers processes node past) (requests_of (row_at t node)) (fronts node).text).stopped
      (fronts node).rest (Finishes end.0) course stops))

  told : Told processes history t shows fronts
  told = record {
    unfinished = λ e h. let c : true ≡ false = sym (a.completes.1 h.complete) ∙ e in absurd cc;
    whole = λ e. record { legal = s.legal; complete = a.completes.0 e };
    ends = λ node lt e. (s.keeps.rows node lt).ended;
    texts = texts;
    memory = s.cells;
  }

pub histories_are_told : HistoriesAreTold
histories_are_told processes history t shows fronts s = told processes history t shows fronts s
