-- An answer that fits goes on in the code's run.
use Rattle.std.proofs.Common.{◌≡◌, ℕ, ◌+◌, Bool, true, if◌then◌else◌, List, [], ◌∷◌, ◌++◌, refl, sym, ap, ◌∙◌, append_assoc}
use Rattle.std.proofs.lemmas.List.{append-nil}
use Rattle.resumption.specs.Resumption.{RunOf, after_event, unanswered, run_of}
use Rattle.sc_base.specs.declared.value.End.TheVariants.{Waiting}
use Rattle.sc_base.specs.declared.value.Value.{Value}
use Rattle.sc_layout.specs.Layout.{Arrangement}
use Rattle.sc_isa.specs.declared.access.Access.{Access}
use Rattle.sc_isa.specs.declared.code.Code.{Code}
use Rattle.sc_isa.specs.State.{State, Flight, landed, without_reads_on}
use Rattle.sc_isa.specs.Run.{Ask, Issue, Wait, Arrive, Pass, Answer, Landed, Passed, Broken, Halt, NodeDoing, fits_wait, code_run, asks_from}
use Rattle.node_machine.specs.declared.machine.After.{After}
use Rattle.node_machine.specs.declared.machine.After.TheVariants as made
use Rattle.node_machine.specs.declared.machine.Machine.{Machine}
use Rattle.node_machine.specs.declared.node.Answer.{Answer as Given}
use Rattle.node_machine.specs.declared.node.Answer.TheVariants as given
use Rattle.node_machine.specs.declared.node.Standing.{Standing}
use Rattle.node_machine.specs.declared.node.Standing.TheVariants as standing
use Rattle.node_machine.specs.View.{Stands}
use Rattle.node_machine.specs.Course.{after, HasDone}
use Rattle.node_machine.specs.Standings.{rest_after, rest_of, passing, standing_by, standing_passed, StandsAfter, StandsBy, FliesAfter, FliesBy, FitsAsk}
use Rattle.node_machine.specs.Flights.{flown_by, flights_from, flights_of}
use Rattle.node_machine.specs.Nodes.{plain_answers}

-- ---- the answers so far and one more

pub one_more_answer : (before : List Given) (last : Given)
    → plain_answers (before ++ last ∷ []) ≡ plain_answers before ++ plain_answers (last ∷ [])
one_more_answer [] last = refl
one_more_answer (given.Landed l ∷ before) last = ap (λ (as_ : List Answer). Landed l.values ∷ as_) (one_more_answer before last)
one_more_answer (given.Passed ∷ before) last = ap (λ (as_ : List Answer). Passed ∷ as_) (one_more_answer before last)
one_more_answer (given.Broken ∷ before) last = ap (λ (as_ : List Answer). Broken ∷ as_) (one_more_answer before last)
one_more_answer (given.Issued ∷ before) last = one_more_answer before last
one_more_answer (given.Arrived ∷ before) last = one_more_answer before last

abbrev pub AwaitsNothing : Standing → Type 0
AwaitsNothing (standing.Issued access m) = Unit {0}
AwaitsNothing (standing.Arrives stores) = Unit {0}
AwaitsNothing _ = ⊥

pub nothing_given : (layout : Arrangement) (st : Standing) (s : List Ask) (answer : Given) (before : List Answer)
    → AwaitsNothing st → FitsAsk layout st s answer → before ≡ before ++ plain_answers (answer ∷ [])
nothing_given layout (standing.Issued access m) s given.Issued before a f = sym (append-nil before)
nothing_given layout (standing.Arrives stores) s given.Arrived before a f = sym (append-nil before)
nothing_given layout (standing.Issued access m) s given.Arrived before a f = absurd f
nothing_given layout (standing.Issued access m) s given.Passed before a f = absurd f
nothing_given layout (standing.Issued access m) s given.Broken before a f = absurd f
nothing_given layout (standing.Issued access m) s (given.Landed l) before a f = absurd f
nothing_given layout (standing.Arrives stores) s given.Issued before a f = absurd f
nothing_given layout (standing.Arrives stores) s given.Passed before a f = absurd f
nothing_given layout (standing.Arrives stores) s given.Broken before a f = absurd f
nothing_given layout (standing.Arrives stores) s (given.Landed l) before a f = absurd f
nothing_given layout standing.Between s answer before a f = absurd a
nothing_given layout (standing.Waits counter) s answer before a f = absurd a
nothing_given layout standing.Passes s answer before a f = absurd a
nothing_given layout (standing.Ended e) s answer before a f = absurd a
nothing_given layout standing.Stuck s answer before a f = absurd a

-- ---- the course

module _ (code : Code) (layout : Arrangement) (own budget : ℕ) (answers : List Answer) (asked : List Ask)
    (printed : List ℕ) where
  event_on : (ask : Ask) (run : RunOf Ask Halt) → after asked printed (after_event ask run) ≡ after (asked ++ ask ∷ []) printed run
  event_on ask run =
      ap (λ (es : List Ask). record { events = es; text = printed ++ run.text; end = run.end })
      (sym (append_assoc asked (ask ∷ []) run.events))

  rest_by : (m : After) (s : State) (many : ℕ) → rest_after code layout own m s many
      ≡ rest_of code layout own (standing_by m) s many
  rest_by made.GoesOn s many = refl
  rest_by (made.Ends e) s many = refl
  rest_by made.Sticks s many = refl

  pub issued : (access : Access) (m : After) (s : State)
      → HasDone code layout own budget answers asked printed (rest_of code layout own (standing.Issued access m) s)
      → HasDone code layout own budget answers (asked ++ Issue access ∷ []) printed (rest_of code layout own (standing_by m) s)
  issued access m s h = record {
    instructions = h.instructions;
    run = λ many more. h.run many more ∙ event_on (Issue access) (run_of (rest_after code layout own m s many) more)
        ∙ ap (λ (d : NodeDoing). after (asked ++ Issue access ∷ []) printed (run_of d more)) (rest_by m s many);
  }

  pub arrived : (stores : Bool) (s : State)
      → HasDone code layout own budget answers asked printed (rest_of code layout own (standing.Arrives stores) s)
      → HasDone code layout own budget answers (asked ++ Arrive stores ∷ []) printed (rest_of code layout own standing.Passes s)
  arrived stores s h = record {
    instructions = h.instructions;
    run = λ many more. h.run many more ∙ event_on (Arrive stores) (run_of (passing code layout own s many) more);
  }

  -- an answer that is taken
  taken_more : (answer : Answer) (more : List Answer) (n : ℕ)
      → code_run code layout own budget n ((answers ++ answer ∷ []) ++ more)
      ≡ code_run code layout own budget n (answers ++ answer ∷ more)
  taken_more answer more n = ap (code_run code layout own budget n) (append_assoc answers (answer ∷ []) more)

  fits_on : (b : Bool) (ask : Ask) (run : RunOf Ask Halt) → b ≡ true
      → (if b then after_event ask run else unanswered ask) ≡ after_event ask run
  fits_on b ask run e = rw e refl

  pub lands : (counter : ℕ) (values : List Value) (s : State) → fits_wait layout counter s (Landed values) ≡ true
      → HasDone code layout own budget answers asked printed (rest_of code layout own (standing.Waits counter) s)
      → HasDone code layout own budget (answers ++ Landed values ∷ []) (asked ++ Wait counter ∷ []) printed
      (rest_of code layout own standing.Between (landed counter values s))
  lands counter values s fits h = record {
    instructions = h.instructions;
    run = λ many more.
        let run = run_of (asks_from code layout own many (landed counter values s)) more in
        taken_more (Landed values) more (h.instructions + many) ∙ h.run many (Landed values ∷ more)
        ∙ ap (after asked printed) (fits_on (fits_wait layout counter s (Landed values)) (Wait counter) run fits)
        ∙ event_on (Wait counter) run;
  }

  pub passes : (s : State)
      → HasDone code layout own budget answers asked printed (rest_of code layout own standing.Passes s)
      → HasDone code layout own budget (answers ++ Passed ∷ []) (asked ++ Pass ∷ []) printed
      (rest_of code layout own standing.Between s)
  passes s h = record {
    instructions = h.instructions;
    run = λ many more.
        taken_more Passed more (h.instructions + many) ∙ h.run many (Passed ∷ more)
        ∙ event_on Pass (run_of (asks_from code layout own many s) more);
  }

  pub breaks : (s : State)
      → HasDone code layout own budget answers asked printed (rest_of code layout own standing.Passes s)
      → HasDone code layout own budget (answers ++ Broken ∷ []) (asked ++ Pass ∷ []) printed
      (rest_of code layout own (standing.Ended Waiting) s)
  breaks s h = record {
    instructions = h.instructions;
    run = λ many more.
        taken_more Broken more (h.instructions + many) ∙ h.run many (Broken ∷ more)
        ∙ event_on Pass (run_of (rest_of code layout own (standing.Ended Waiting) s many) more);
  }

  pub passed_on : (answer : Given) (s : State) → FitsAsk layout standing.Passes asked answer
      → HasDone code layout own budget answers asked printed (rest_of code layout own standing.Passes s)
      → HasDone code layout own budget (answers ++ plain_answers (answer ∷ [])) (asked ++ Pass ∷ []) printed
      (rest_of code layout own (standing_passed answer) s)
  passed_on given.Passed s f h = passes s h
  passed_on given.Broken s f h = breaks s h
  passed_on (given.Landed l) s f h = absurd f
  passed_on given.Issued s f h = absurd f
  passed_on given.Arrived s f h = absurd f

-- ---- the reads on their way

flights_more : (flying : List Flight) (asked : List Ask) (ask : Ask)
    → flights_from flying (asked ++ ask ∷ []) ≡ flights_from (flights_from flying asked) (ask ∷ [])
flights_more flying [] ask = refl
flights_more flying (Issue access ∷ asked) ask = flights_more (flown_by access flying) asked ask
flights_more flying (Wait counter ∷ asked) ask = flights_more (without_reads_on counter flying) asked ask
flights_more flying (Arrive stores ∷ asked) ask = flights_more flying asked ask
flights_more flying (Pass ∷ asked) ask = flights_more flying asked ask

pub flies_landed : (counter : ℕ) (asked : List Ask) (s : State) (values : List Value) → s.flying ≡ flights_of asked
    → (landed counter values s).flying ≡ flights_of (asked ++ Wait counter ∷ [])
flies_landed counter asked s values e =
    ap (without_reads_on counter) e ∙ sym (flights_more [] asked (Wait counter))

pub flies_issued : (access : Access) (m : After) (asked : List Ask) (s : State)
    → FliesAfter m (flown_by access (flights_of asked)) s
    → FliesBy (standing_by m) (flights_of (asked ++ Issue access ∷ [])) s
flies_issued access made.GoesOn asked s h = h ∙ sym (flights_more [] asked (Issue access))
flies_issued access (made.Ends e) asked s h = tt
flies_issued access made.Sticks asked s h = tt

pub flies_arrived : (stores : Bool) (asked : List Ask) (s : State) → s.flying ≡ flights_of asked
    → s.flying ≡ flights_of (asked ++ Arrive stores ∷ [])
flies_arrived stores asked s h = h ∙ sym (flights_more [] asked (Arrive stores))

pub flies_passed : (answer : Given) (asked : List Ask) (s : State) → s.flying ≡ flights_of asked
    → FliesBy (standing_passed answer) (flights_of (asked ++ Pass ∷ [])) s
flies_passed given.Broken asked s h = tt
flies_passed given.Passed asked s h = h ∙ sym (flights_more [] asked Pass)
flies_passed (given.Landed l) asked s h = h ∙ sym (flights_more [] asked Pass)
flies_passed given.Issued asked s h = h ∙ sym (flights_more [] asked Pass)
flies_passed given.Arrived asked s h = h ∙ sym (flights_more [] asked Pass)

-- ---- the machine

pub stands_after : (m : After) (machine : Machine) (s : State) → StandsAfter m machine s → StandsBy (standing_by m) machine s
stands_after made.GoesOn machine s h = h
stands_after (made.Ends e) machine s h = tt
stands_after made.Sticks machine s h = tt

pub stands_passed : (answer : Given) (machine : Machine) (s : State) → Stands machine s → StandsBy (standing_passed answer) machine s
stands_passed given.Broken machine s h = tt
stands_passed given.Passed machine s h = h
stands_passed (given.Landed l) machine s h = h
stands_passed given.Issued machine s h = h
stands_passed given.Arrived machine s h = h
