-- At a stage what is kept knows the requests of each node.
use Rattle.std.proofs.Common.{◌≡◌, ◌⊎◌, ⊎_elim, inl, inr, ℕ, suc, ◌<◌, ◌≤◌, List, [], ◌∷◌, ◌++◌, length, Option, Some, None, refl, sym, ap, ◌∙◌, if◌then◌else◌, arith, slice_get, append_assoc}
use Rattle.std.specs.Prelude.{nat_lt}
use Rattle.std.proofs.lemmas.Bool.Decides.{leb_tells}
use Rattle.std.proofs.lemmas.List.{append-nil, length-map}
use Rattle.std.proofs.lemmas.Option.{slice_get_past}
use Rattle.resumption.specs.Resumption.{run_of}
use Rattle.sc_base.specs.declared.value.End.{End}
use Rattle.sc_base.specs.declared.value.Place.{Place}
use Rattle.sc_base.specs.declared.value.Value.{Value}
use Rattle.sc_meaning.specs.declared.request.Request.{Request}
use Rattle.sc_meaning.specs.declared.event.SourceEvent.{SourceEvent}
use Rattle.sc_meaning.specs.Asking.{Answer, SourceDoing}
use Rattle.sc_meaning.specs.Past.{Processes, releases, arrivals, made, ended, answers, run_so_far}
use Rattle.replay_books.specs.Row.{RowBook}
use Rattle.replay_books.specs.Tables.{TablesBook, row_at}
use Rattle.replay_laws.specs.Keeps.{Knows, KnowsAll, requests_of}
use Rattle.replay_laws.specs.Laws.{Stands, Answers}
use Rattle.replay_laws.proofs.Lists.{get_front}
use Rattle.replay_laws.proofs.Answering.{books_answer}
use Rattle.replay_stages.specs.Courses.{Course}
use Rattle.replay_stages.specs.Stage.{Front, Stage}
use Rattle.replay_stages.proofs.Courses.{followed}

-- the requests made so far are the first of the run
pub made_first : (start : SourceDoing) (given : List Answer) (requests : List Request) (text : List ℕ) (rest : SourceDoing)
    → Course start given requests text rest → (more : List Request) × ((run_of start given).events ≡ requests ++ more)
made_first start given requests text rest c =
    ((run_of rest []).events, ap (λ g. (run_of start g).events) (sym (append-nil given)) ∙ ap (λ run. run.events) (c.done.run []))

front_known : (events requests more : List Request) (m number : ℕ) → events ≡ requests ++ more → length requests ≡ m
    → (if nat_lt number m then slice_get events number else None) ≡ slice_get requests number
front_known events requests more m number e l =
    ⊎_elim
    (λ q. ap (λ b. if b then slice_get events number else None) q.0 ∙ ap (λ es. slice_get es number) e
    ∙ get_front requests more number (let h = q.1 in omega arith))
    (λ q. ap (λ b. if b then slice_get events number else None) q.0 ∙ sym (slice_get_past requests number (let h = q.1 in omega arith)))
    (leb_tells (suc number) m)

pub row_length : (row : RowBook) → length (requests_of row) ≡ length row.entries
row_length row = length-map row.entries (λ e. e.request)

module _ (processes : Processes) (past : List SourceEvent) (t : TablesBook) (shows : Place → Value) (fronts : ℕ → Front)
    (s : Stage processes past t shows fronts) where
  abbrev nodes : ℕ
  nodes = processes.nodes

  -- a node is free, or it stands at a barrier
  standing : (node : ℕ) → node < nodes → (ended node past ≡ None → arrivals node past ≤ releases past) ⊎ Stands nodes past node
  standing node lt = by (ended node past) refl
    where
      by : (o : Option End) → ended node past ≡ o → (ended node past ≡ None → arrivals node past ≤ releases past) ⊎ Stands nodes past node
      by (Some end) e = inl (λ n. let c : None ≡ Some end = sym n ∙ e in absurd cc)
      by None e =
          ⊎_elim (λ q. inl (λ n. q.1))
          (λ q. inr (record {
            within = lt;
            running = e;
            at_barrier = (let a = q.1 in let b = s.keeps.no_further node lt in omega arith);
          }))
          (leb_tells (arrivals node past) (releases past))

  knows : (node : ℕ) → node < nodes → Knows processes node past (row_at t node)
  knows node lt number =
      let l : length (requests_of (row_at t node)) ≡ made node past = row_length (row_at t node) ∙ (s.keeps.rows node lt).made in
      ⊎_elim
      (λ f. let c = (s.at node lt).free f in
      let m = made_first (processes.starts node) (answers processes node past) _ _ _ c in
      front_known (run_so_far processes node past).events (requests_of (row_at t node)) m.0 (made node past) number m.1 l)
      (λ h. let w = (s.at node lt).waits h in
      let m = (followed (processes.starts node) (answers processes node past) w.before (fronts node).text).some_next (fronts node).rest w.last w.course w.next in
      front_known (run_so_far processes node past).events (requests_of (row_at t node)) m.0 (made node past) number
      (m.1 ∙ sym (append_assoc w.before (w.last ∷ []) m.0) ∙ ap (λ rs. rs ++ m.0) (sym w.all)) l)
      (standing node lt)

  pub known : KnowsAll processes past t
  known = record { keeps = s.keeps; requests = knows }

  pub answering : Answers processes past t
  answering = books_answer processes past t known
