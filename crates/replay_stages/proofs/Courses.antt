-- A node is followed by what is left of it.
use Rattle.std.proofs.Common.{◌≡◌, ℕ, Bool, List, [], ◌∷◌, ◌++◌, length, Some, slice_get, refl, sym, ap, ◌∙◌, append_assoc}
use Rattle.std.proofs.lemmas.List.{append-nil}
use Rattle.std.proofs.lemmas.Option.{slice_get_past}
use Rattle.std.proofs.Common.{arith}
use Rattle.resumption.specs.Resumption.{Asks, Makes, Says, Stops, Ends, run_of, next_event, next_text, past_text}
use Rattle.sc_meaning.specs.declared.request.Request.{Request}
use Rattle.sc_meaning.specs.Asking.{Answer, Halt, SourceDoing}
use Rattle.sc_replay.specs.Courses.{HasDone}
use Rattle.sc_replay.proofs.Following.{courses_go_on}
use Rattle.replay_stages.specs.Courses.{Course, Followed, CoursesAreFollowed, stop_of}
use Rattle.sc_meaning.specs.Answering.{WaitsForAnswers}

waits_past : (rest : SourceDoing) → WaitsForAnswers rest → WaitsForAnswers (past_text rest)
unfolding WaitsForAnswers
waits_past (Asks r fits go) w = w
waits_past (Makes r rest) w = w
waits_past (Says text rest) w = waits_past rest w
waits_past (Stops halt) w = w

waits_made : (r : Request) (rest : SourceDoing) → WaitsForAnswers (Makes r rest) → WaitsForAnswers rest
unfolding WaitsForAnswers
waits_made r rest w = w.1

waits_asked : (r : Request) (fits : Answer → Bool) (go : Answer → SourceDoing) (answer : Answer)
    → WaitsForAnswers (Asks r fits go) → WaitsForAnswers (go answer)
unfolding WaitsForAnswers
waits_asked r fits go answer w = w.1 answer

end_at : {A : Type 0} (xs ys : List A) (y : A) → slice_get (xs ++ y ∷ ys) (length xs) ≡ Some y
end_at [] ys y = refl
end_at (x ∷ xs) ys y = end_at xs ys y

-- a text that is said is passed
one_text : (start : SourceDoing) (given : List Answer) (requests : List Request) (t s : List ℕ) (rest : SourceDoing)
    → HasDone start given requests t (Says s rest) → HasDone start given requests (t ++ s) rest
one_text start given requests t s rest d = record {
  run = λ more. let run = run_of rest more in
      d.run more ∙ ap (λ u. record { events = requests ++ run.events; text = u; end = run.end }) (sym (append_assoc t s run.text));
}

module _ (start : SourceDoing) (given : List Answer) (requests : List Request) (text : List ℕ) where
  past_one : (t s : List ℕ) (rest : SourceDoing) → HasDone start given requests t (Says s rest) → HasDone start given requests (t ++ s) rest
  past_one t s rest d = one_text start given requests t s rest d

  said : (rest : SourceDoing) → Course start given requests text rest
      → Course start given requests (text ++ next_text rest) (past_text rest)
  said rest c = record { done = courses_go_on.says start given requests text rest c.done; waits = waits_past rest c.waits }

  -- what comes next, after what is said before it
  some_next : (t : List ℕ) (rest : SourceDoing) (r : Request) → HasDone start given requests t rest
      → next_event rest ≡ Some r → (more : List Request) × ((run_of start given).events ≡ requests ++ r ∷ more)
  some_next t (Asks q fits go) r d e = (
    [],
    ap (λ run. run.events) (courses_go_on.next_asked start given requests t q fits go d)
        ∙ ap (λ x. requests ++ x ∷ []) (let g : q ≡ r = cc in g),
  )
  some_next t (Makes q rest) r d e =
      let h = d.run [] in (
        (run_of rest []).events,
        ap (λ g. (run_of start g).events) (sym (append-nil given)) ∙ ap (λ run. run.events) h
            ∙ ap (λ x. requests ++ x ∷ (run_of rest []).events) (let g : q ≡ r = cc in g),
      )
  some_next t (Says s rest) r d e = some_next (t ++ s) rest r (past_one t s rest d) e
  some_next t (Stops halt) r d e = absurd cc

  stopped : (t : List ℕ) (rest : SourceDoing) (halt : Halt) → HasDone start given requests t rest → stop_of rest ≡ Some halt
      → run_of start given ≡ record { events = requests; text = t ++ next_text rest; end = Ends halt }
  stopped t (Asks q fits go) halt d e = absurd cc
  stopped t (Makes q rest) halt d e = absurd cc
  stopped t (Says s rest) halt d e =
      stopped (t ++ s) rest halt (past_one t s rest d) e
      ∙ ap (λ u. record { events = requests; text = u; end = Ends halt }) (append_assoc t s (next_text rest))
  stopped t (Stops other) halt d e =
      courses_go_on.over start given requests t other d
      ∙ ap (λ h. record { events = requests; text = t; end = Ends h }) (let g : other ≡ halt = cc in g)
      ∙ ap (λ u. record { events = requests; text = u; end = Ends halt }) (sym (append-nil t))

  next : (t : List ℕ) (rest : SourceDoing) → HasDone start given requests t rest
      → slice_get (run_of start given).events (length requests) ≡ next_event rest
  next t (Asks q fits go) d =
      let h = some_next t (Asks q fits go) q d refl in ap (λ es. slice_get es (length requests)) h.1 ∙ end_at requests h.0 q
  next t (Makes q rest) d =
      let h = some_next t (Makes q rest) q d refl in ap (λ es. slice_get es (length requests)) h.1 ∙ end_at requests h.0 q
  next t (Says s rest) d = next (t ++ s) rest (past_one t s rest d)
  next t (Stops halt) d =
      ap (λ run. slice_get run.events (length requests)) (stopped t (Stops halt) halt d refl)
      ∙ slice_get_past requests (length requests) (omega arith)

  pub followed : Followed start given requests text
  followed = record {
    said = said;
    next = λ rest c. next text rest c.done;
    some_next = λ rest r c e. some_next text rest r c.done e;
    stopped = λ rest halt c e. stopped text rest halt c.done e;
    passed = λ r rest c. record {
      done = courses_go_on.makes start given requests text r rest c.done;
      waits = waits_made r rest c.waits;
    };
    answered = λ r fits go answer e c. record {
      done = courses_go_on.asks start given requests text r fits go answer e c.done;
      waits = waits_asked r fits go answer c.waits;
    };
    stuck = λ r fits go answer e c more.
        ap (λ g. (run_of start g).end) (append_assoc given (answer ∷ []) more)
        ∙ ap (λ run. run.end) (courses_go_on.refused start given more requests text r fits go answer e c.done);
  }

pub courses_are_followed : CoursesAreFollowed
courses_are_followed = record {
  begins = λ start w. record { done = courses_go_on.begins start; waits = w };
  goes_on = followed;
}
