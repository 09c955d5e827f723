-- A run of code whose answers are an oracle's, and fit, is not short of the asks that they answer.
use Rattle.std.proofs.Common.{◌≡◌, ℕ, zero, suc, ◌<◌, List, [], ◌∷◌, ◌++◌, length, Bool, true, false, if◌then◌else◌, sym, ap, ◌∙◌, subst, arith}
use Rattle.resumption.specs.Resumption.{Asks, Makes, Short, RunOf, run_of, unanswered, after_event}
use Rattle.sc_base.specs.declared.value.Place.{Place}
use Rattle.sc_base.specs.declared.value.Value.{Value}
use Rattle.sc_layout.specs.Layout.{Arrangement}
use Rattle.sc_isa.specs.declared.access.Access.{Access}
use Rattle.sc_isa.specs.declared.access.Access.TheVariants as access
use Rattle.sc_isa.specs.declared.access.Track.TheVariants.{Counter, Store, Covered}
use Rattle.sc_isa.specs.declared.code.Code.{Code}
use Rattle.sc_isa.specs.Fitting.{fits_all}
use Rattle.sc_isa.specs.State.{State, Flight, reads_on, without_reads_on}
use Rattle.sc_isa.specs.Moves.{After, GoesOn, Ends, Sticks, Move, Comes, Issues, Waits, Meets, Says as Tells}
use Rattle.sc_isa.specs.Run.{Ask, Issue, Wait, Arrive, Pass, Answer, Landed, Passed, Broken, Halt, NodeDoing, fits_wait, fits_pass, landed_by, passed_by, comes_to, asked_by, asks_from}
use Rattle.sc_isa.specs.Table.{step_of}
use Rattle.node_emit.specs.Oracles.{Oracle, Flying, Progress, issued, waited, landing, passing}
use Rattle.forgotten_marks.proofs.Steps.{AfterTo, MoveTo}
use Rattle.forgotten_marks.proofs.Counted.{Flies}
use Rattle.code_requests.proofs.Listed.{Front}
use Rattle.code_requests.proofs.Oracled.{step_by, answers_to, answers_of, append_none}
use Rattle.code_requests.proofs.Telling.{FitAsks}
use Rattle.run_laws.proofs.Flights.{InStep, values_on, step_end, step_reads, step_waited, step_flies}

first_is : (x : Ask) (E : List Ask) (ask : Ask) (es : List Ask) → Front (x ∷ E) (ask ∷ es) → x ≡ ask
first_is x E ask es f = let e = f.is in cc

rest_is : (x : Ask) (E : List Ask) (ask : Ask) (es : List Ask) → Front (x ∷ E) (ask ∷ es) → Front E es
rest_is x E ask es f = let e = f.is in record { more = f.more; is = cc }

not_landed : (values : List Value) (b : Bool) → Landed values ≡ (if b then Passed else Broken) → ⊥
not_landed values true e = cc
not_landed values false e = cc

module _ (layout : Arrangement) (oracle : Oracle) where
  -- where the run is short, it asks for more than these asks
  abbrev pub Beyond : RunOf Ask Halt → List Ask → Type 0
  Beyond run asks = run.end ≡ Short → length asks < length run.events

  -- so it is with the oracle's answers to asks whose values fit, while these reads are on their way
  abbrev pub GoesBeyond : NodeDoing → List Flight → Type 0
  GoesBeyond doing flights =
      (p : Progress) (given : List Answer) (asks : List Ask) → InStep layout oracle flights p.flying → FitAsks layout oracle p asks
      → given ≡ answers_of oracle p asks → Front asks (run_of doing given).events → Beyond (run_of doing given) asks

  module _ (go : State → NodeDoing) (next : (s : State) → GoesBeyond (go s) s.flying) where
    after_beyond : (after : After) (flights : List Flight) → AfterTo (Flies flights) after
        → GoesBeyond (comes_to go after) flights
    after_beyond (GoesOn s) flights h = subst (GoesBeyond (go s)) h (next s)
    after_beyond (Ends end) flights h = λ p given asks m f e front short. absurd (cc)
    after_beyond Sticks flights h = λ p given asks m f e front short. absurd (cc)

    issue_beyond : (a : Access) (after : After) (flights later : List Flight) → GoesBeyond (comes_to go after) later
        → ((p : Progress) (E : List Ask) → InStep layout oracle flights p.flying → FitAsks layout oracle p (Issue a ∷ E)
        → InStep layout oracle later (issued a p).flying × FitAsks layout oracle (issued a p) E)
        → GoesBeyond (Makes (Issue a) (comes_to go after)) flights
    issue_beyond a after flights later ih step p given [] m f e front short = omega arith
    issue_beyond a after flights later ih step p given (x ∷ E) m f e front short =
        let run = run_of (comes_to go after) given in
        let same = first_is x E (Issue a) run.events front in
        let g = step p E m (subst (λ y. FitAsks layout oracle p (y ∷ E)) same f) in
        let h = ih (issued a p) given E g.0 g.1 (subst (λ y. given ≡ answers_to oracle p y ++ answers_of oracle (step_by p y) E) same e)
        (rest_is x E (Issue a) run.events front) short in
        omega (arith, h)

    read_step : (counter : ℕ) (place : Place) (flights : List Flight) (p : Progress) (E : List Ask)
        → InStep layout oracle flights p.flying
        → FitAsks layout oracle p (Issue (access.Read place (Counter counter)) ∷ E)
        → InStep layout oracle (flights ++ record { counter = counter; place = place } ∷ []) (issued (access.Read place (Counter counter)) p).flying
        × FitAsks layout oracle (issued (access.Read place (Counter counter)) p) E
    read_step counter place flights p E m f = (step_end layout oracle flights p.flying counter p.accesses place m f.0, f.1)

    no_read : (flights : List Flight) (fs : List Flying) → InStep layout oracle flights fs
        → InStep layout oracle flights (fs ++ [])
    no_read flights fs m = subst (InStep layout oracle flights) (sym (append_none fs)) m

    wait_beyond : (counter : ℕ) (s : State) (flights : List Flight) → s.flying ≡ flights
        → GoesBeyond (Asks (Wait counter) (fits_wait layout counter s) (λ answer. go (landed_by counter s answer))) flights
    wait_beyond counter s flights flown p [] [] m f e front short = omega arith
    wait_beyond counter s flights flown p (a ∷ given) [] m f e front short = absurd (cc)
    wait_beyond counter s flights flown p [] (x ∷ E) m f e front short =
        let same = first_is x E (Wait counter) [] front in
        let none : [] ≡ landing oracle counter p ∷ answers_of oracle (waited counter p) E =
        subst (λ y. [] ≡ answers_to oracle p y ++ answers_of oracle (step_by p y) E) same e in
        absurd (cc)
    wait_beyond counter s flights flown p (a ∷ given) (x ∷ E) m f e front short =
        let on = λ (b : Bool). if b then after_event (Wait counter) run else unanswered (Wait counter) in
        let same = first_ask (fits_wait layout counter s a) front in
        let both : a ∷ given ≡ landing oracle counter p ∷ answers_of oracle (waited counter p) E =
        subst (λ y. a ∷ given ≡ answers_to oracle p y ++ answers_of oracle (step_by p y) E) same e in
        let is_landing : a ≡ landing oracle counter p = cc in
        let tail : given ≡ answers_of oracle (waited counter p) E = cc in
        let fit : fits_wait layout counter s a ≡ true =
        ap (fits_wait layout counter s) is_landing
        ∙ ap (λ (fl : List Flight). fits_all layout (reads_on counter fl) (values_on layout oracle counter p.flying)) flown ∙ step_reads layout oracle counter flights p.flying m in
        let g : Front (x ∷ E) (Wait counter ∷ run.events) = subst (λ b. Front (x ∷ E) (on b).events) fit front in
        let landed_ : InStep layout oracle (landed_by counter s (landing oracle counter p)).flying (waited counter p).flying =
        subst (λ fl. InStep layout oracle (without_reads_on counter fl) (waited counter p).flying) (sym flown) (step_waited layout oracle counter flights p.flying m) in
        let h = next (landed_by counter s a) (waited counter p) given E
        (subst (λ b. InStep layout oracle (landed_by counter s b).flying (waited counter p).flying) (sym is_landing) landed_)
        (subst (λ y. FitAsks layout oracle p (y ∷ E)) same f) tail (rest_is x E (Wait counter) run.events g) (subst (λ b. (on b).end ≡ Short) fit short) in
        subst (λ b. length (x ∷ E) < length (on b).events) (sym fit) (omega (arith, h))
      where
        run : RunOf Ask Halt
        run = run_of (go (landed_by counter s a)) given

        first_ask : (b : Bool)
            → Front (x ∷ E) (if b then after_event (Wait counter) run else unanswered (Wait counter)).events
            → x ≡ Wait counter
        first_ask true front = first_is x E (Wait counter) run.events front
        first_ask false front = first_is x E (Wait counter) [] front

    pass_beyond : (s : State) (flights : List Flight) → s.flying ≡ flights
        → GoesBeyond (Asks Pass fits_pass (λ answer. passed_by answer (go s))) flights
    pass_beyond s flights flown p [] [] m f e front short = omega arith
    pass_beyond s flights flown p (a ∷ given) [] m f e front short = absurd (cc)
    pass_beyond s flights flown p [] (x ∷ E) m f e front short =
        let same = first_is x E Pass [] front in
        let none : [] ≡ passing oracle p ∷ answers_of oracle (step_by p Pass) E = subst (λ y. [] ≡ answers_to oracle p y ++ answers_of oracle (step_by p y) E) same e in
        absurd (cc)
    pass_beyond s flights flown p (Landed values ∷ given) (x ∷ E) m f e front short =
        let same = first_is x E Pass [] front in
        let both : Landed values ∷ given ≡ passing oracle p ∷ answers_of oracle (step_by p Pass) E =
        subst (λ y. Landed values ∷ given ≡ answers_to oracle p y ++ answers_of oracle (step_by p y) E) same e in
        let is_passing : Landed values ≡ passing oracle p = cc in
        absurd (not_landed values (oracle.passes p.barriers) is_passing)
    pass_beyond s flights flown p (Passed ∷ given) (x ∷ E) m f e front short =
        let run = run_of (go s) given in
        let same = first_is x E Pass run.events front in
        let both : Passed ∷ given ≡ passing oracle p ∷ answers_of oracle (step_by p Pass) E =
        subst (λ y. Passed ∷ given ≡ answers_to oracle p y ++ answers_of oracle (step_by p y) E) same e in
        let tail : given ≡ answers_of oracle (step_by p Pass) E = cc in
        let h = next s (step_by p Pass) given E (subst (λ fl. InStep layout oracle fl p.flying) (sym flown) m)
        (subst (λ y. FitAsks layout oracle p (y ∷ E)) same f) tail (rest_is x E Pass run.events front) short in
        omega (arith, h)
    pass_beyond s flights flown p (Broken ∷ given) (x ∷ E) m f e front short = absurd (cc)

    meet_beyond : (stores : Bool) (s : State) (flights : List Flight) → s.flying ≡ flights
        → GoesBeyond (Makes (Arrive stores) (Asks Pass fits_pass (λ answer. passed_by answer (go s)))) flights
    meet_beyond stores s flights flown p given [] m f e front short = omega arith
    meet_beyond stores s flights flown p given (x ∷ E) m f e front short =
        let run = run_of (Asks Pass fits_pass (λ answer. passed_by answer (go s))) given in
        let same = first_is x E (Arrive stores) run.events front in
        let h = pass_beyond s flights flown p given E m (subst (λ y. FitAsks layout oracle p (y ∷ E)) same f)
        (subst (λ y. given ≡ answers_to oracle p y ++ answers_of oracle (step_by p y) E) same e) (rest_is x E (Arrive stores) run.events front) short in
        omega (arith, h)

    move_beyond : (move : Move) (flights : List Flight) → MoveTo Flies flights move
        → GoesBeyond (asked_by layout go move) flights
    move_beyond (Comes after) flights h = after_beyond after flights h
    move_beyond (Issues (access.Read place (Counter counter)) after) flights h =
        let later = flights ++ record { counter = counter; place = place } ∷ [] in
        issue_beyond (access.Read place (Counter counter)) after flights later (after_beyond after later h) (λ p E m f. read_step counter place flights p E m f)
    move_beyond (Issues (access.Read place Store) after) flights h = absurd h
    move_beyond (Issues (access.Read place Covered) after) flights h = absurd h
    move_beyond (Issues (access.Write place value track) after) flights h =
        issue_beyond (access.Write place value track) after flights flights (after_beyond after flights h) (λ p E m f. (no_read flights p.flying m, f))
    move_beyond (Issues (access.Copy from to cells track) after) flights h =
        issue_beyond (access.Copy from to cells track) after flights flights (after_beyond after flights h) (λ p E m f. (no_read flights p.flying m, f))
    move_beyond (Waits counter s) flights h = wait_beyond counter s flights h
    move_beyond (Meets stores s) flights h = meet_beyond stores s flights h
    move_beyond (Tells text s) flights h = subst (GoesBeyond (go s)) h (next s)

  module _ (code : Code) (node : ℕ) where
    pub goes_beyond : (many : ℕ) (s : State) → GoesBeyond (asks_from code layout node many s) s.flying
    goes_beyond zero s = λ p given asks m f e front short. absurd (cc)
    goes_beyond (suc many) s =
        move_beyond (asks_from code layout node many) (λ next. goes_beyond many next) (step_of code layout node s) s.flying (step_flies code layout node s)
