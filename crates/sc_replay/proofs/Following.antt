-- A node's run is followed by what is left of it.
use Rattle.std.proofs.Common.{◌≡◌, ℕ, Bool, true, false, if◌then◌else◌, List, [], ◌∷◌, ◌++◌, length, Option, Some, None, slice_get, refl, sym, ap, ◌∙◌, append_assoc}
use Rattle.std.proofs.lemmas.List.{append-nil}
use Rattle.resumption.specs.Resumption.{Asks, Makes, Stops, RunOf, RunEnd, Ends, Short, Followed, unanswered, after_event, run_of, next_text, past_text}
use Rattle.resumption.specs.Laws.{run_after}
use Rattle.resumption.proofs.Next.{says}
use Rattle.sc_layout.specs.Layout.{Arrangement}
use Rattle.sc_core.specs.Core.{Program}
use Rattle.sc_meaning.specs.declared.event.SourceEvent.{SourceEvent}
use Rattle.sc_meaning.specs.declared.outcome.Outcome.{Outcome}
use Rattle.sc_meaning.specs.declared.request.Request.{Request}
use Rattle.sc_meaning.specs.Asking.{Answer, Halt, SourceDoing}
use Rattle.sc_meaning.specs.Source.{processes_of}
use Rattle.sc_meaning.specs.Whole.{outcome}
use Rattle.sc_replay.specs.Courses.{HasDone, CoursesGoOn}
use Rattle.sc_replay.specs.Judging.{Judges}
use Rattle.sc_replay.proofs.Telling.{told_in_one_way}

abbrev Run : Type 0
Run = RunOf Request Halt

abbrev so_far : List Request → List ℕ → SourceDoing → Followed Request Answer Halt
so_far requests text rest = record { events = requests; text = text; rest = rest }

abbrev run_with : List Request → List ℕ → RunEnd Halt → Run
run_with requests text end = record { events = requests; text = text; end = end }

begins : (start : SourceDoing) → HasDone start [] [] [] start
begins start = record { run = λ more. refl }

says_on : (start : SourceDoing) (given : List Answer) (requests : List Request) (text : List ℕ) (rest : SourceDoing)
    → HasDone start given requests text rest → HasDone start given requests (text ++ next_text rest) (past_text rest)
says_on start given requests text rest done = record {
  run = λ more.
      let run = run_of (past_text rest) more in
      done.run more ∙ ap (run_after (so_far requests text rest)) (says rest more)
      ∙ ap (λ t. run_with (requests ++ run.events) t run.end) (sym (append_assoc text (next_text rest) run.text));
}

makes_on : (start : SourceDoing) (given : List Answer) (requests : List Request) (text : List ℕ) (r : Request) (rest : SourceDoing)
    → HasDone start given requests text (Makes r rest) → HasDone start given (requests ++ r ∷ []) text rest
makes_on start given requests text r rest done = record {
  run = λ more.
      let run = run_of rest more in
      done.run more ∙ ap (λ es. run_with es (text ++ run.text) run.end) (sym (append_assoc requests (r ∷ []) run.events));
}

asks_on : (start : SourceDoing) (given : List Answer) (requests : List Request) (text : List ℕ) (r : Request) (fits : Answer → Bool)
    (go : Answer → SourceDoing) (answer : Answer) → fits answer ≡ true
    → HasDone start given requests text (Asks r fits go) → HasDone start (given ++ answer ∷ []) (requests ++ r ∷ []) text (go answer)
asks_on start given requests text r fits go answer e done = record {
  run = λ more.
      let run = run_of (go answer) more in
      ap (run_of start) (append_assoc given (answer ∷ []) more) ∙ done.run (answer ∷ more)
      ∙ ap (λ b. run_after (so_far requests text (Asks r fits go)) (if b then after_event r run else unanswered r)) e
      ∙ ap (λ es. run_with es (text ++ run.text) run.end) (sym (append_assoc requests (r ∷ []) run.events));
}

at_end : {A : Type 0} → (xs ys : List A) (y : A) → slice_get (xs ++ y ∷ ys) (length xs) ≡ Some y
at_end [] ys y = refl
at_end (x ∷ xs) ys y = at_end xs ys y

no_more : (start : SourceDoing) (given : List Answer) (run : Run) → run_of start (given ++ []) ≡ run → run_of start given ≡ run
no_more start given run e = ap (run_of start) (sym (append-nil given)) ∙ e

next_made : (start : SourceDoing) (given : List Answer) (requests : List Request) (text : List ℕ) (r : Request) (rest : SourceDoing)
    → HasDone start given requests text (Makes r rest) → slice_get (run_of start given).events (length requests) ≡ Some r
next_made start given requests text r rest done =
    ap (λ run. slice_get run.events (length requests)) (no_more start given _ (done.run []))
    ∙ at_end requests (run_of rest []).events r

next_asked : (start : SourceDoing) (given : List Answer) (requests : List Request) (text : List ℕ) (r : Request) (fits : Answer → Bool)
    (go : Answer → SourceDoing) → HasDone start given requests text (Asks r fits go)
    → run_of start given ≡ record { events = requests ++ r ∷ []; text = text; end = Short }
next_asked start given requests text r fits go done =
    no_more start given _ (done.run []) ∙ ap (λ t. run_with (requests ++ r ∷ []) t Short) (append-nil text)

over : (start : SourceDoing) (given : List Answer) (requests : List Request) (text : List ℕ) (halt : Halt)
    → HasDone start given requests text (Stops halt) → run_of start given ≡ record { events = requests; text = text; end = Ends halt }
over start given requests text halt done =
    no_more start given _ (done.run [])
    ∙ ap (λ t. run_with (requests ++ []) t (Ends halt)) (append-nil text) ∙ ap (λ es. run_with es text (Ends halt)) (append-nil requests)

refused : (start : SourceDoing) (given more : List Answer) (requests : List Request) (text : List ℕ) (r : Request) (fits : Answer → Bool)
    (go : Answer → SourceDoing) (answer : Answer) → fits answer ≡ false
    → HasDone start given requests text (Asks r fits go)
    → run_of start (given ++ answer ∷ more) ≡ record { events = requests ++ r ∷ []; text = text; end = Short }
refused start given more requests text r fits go answer e done =
    done.run (answer ∷ more)
    ∙ ap (λ b. run_after (so_far requests text (Asks r fits go)) (if b then after_event r (run_of (go answer) more) else unanswered r)) e
    ∙ ap (λ t. run_with (requests ++ r ∷ []) t Short) (append-nil text)

pub courses_go_on : CoursesGoOn
courses_go_on = record {
  begins = begins;
  says = says_on;
  makes = makes_on;
  asks = asks_on;
  next_made = next_made;
  next_asked = next_asked;
  over = over;
  refused = refused;
}

pub one_way : (layout : Arrangement) (program : Program) (budget : ℕ) (history : List SourceEvent) (a b : Option Outcome)
    → Judges layout program budget history a → Judges layout program budget history b → a ≡ b
one_way layout program budget history None None h g = refl
one_way layout program budget history None (Some told) amiss so = absurd (amiss so.0)
one_way layout program budget history (Some told) None so amiss = absurd (amiss so.0)
one_way layout program budget history (Some told) (Some other) h g =
    ap Some (told_in_one_way layout (outcome (processes_of layout program budget) history) told other h.1 g.1)
