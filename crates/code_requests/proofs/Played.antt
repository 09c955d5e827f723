-- Answers that end a run and are the oracle's, ask for ask, are those that it plays.
use Rattle.std.proofs.Common.{◌≡◌, ℕ, zero, suc, List, [], ◌∷◌, ◌++◌, Option, Some, None, Bool, true, false, if◌then◌else◌, refl, sym, ap, ◌∙◌, subst}
use Rattle.resumption.specs.Resumption.{Asks, Makes, Says, Stops, Ends, RunOf, run_of, unanswered, after_event}
use Rattle.sc_base.specs.declared.value.End.{End}
use Rattle.sc_base.specs.declared.value.End.TheVariants.{Waiting}
use Rattle.sc_layout.specs.Layout.{Arrangement}
use Rattle.sc_isa.specs.declared.code.Code.{Code}
use Rattle.sc_isa.specs.State.{State}
use Rattle.sc_isa.specs.Moves.{After, GoesOn, Ends as EndsBy, Sticks, Move, Comes, Issues, Waits, Meets, Says as Tells}
use Rattle.sc_isa.specs.Run.{Ask, Issue, Wait, Arrive, Pass, Answer, Landed, Passed, Broken, Halt, Finish, Stuck, UsedUp, landed_by}
use Rattle.sc_isa.specs.Table.{step_of}
use Rattle.site_graph.specs.declared.plan.Plan.{Plan}
use Rattle.node_emit.specs.Spelled.{Piece}
use Rattle.node_emit.specs.Stands.{stands_at}
use Rattle.node_emit.specs.Pointed.{PointedAsking, Asked, Came, entered_at, marked, come_all, comes_to, asked_by, passed_by, points_from}
use Rattle.node_emit.specs.Oracles.{Oracle, Progress, issued, waited, landing, passing}
use Rattle.forgotten_marks.specs.Played.{answers_played}
use Rattle.forgotten_marks.proofs.Marks.{forgotten}
use Rattle.code_requests.proofs.Listed.{Front}
use Rattle.code_requests.proofs.Oracled.{step_by, after_asks, answers_to, answers_of}

-- it asks for waits and passes alone, and ends at a broken barrier
unfoldable pub Coded : PointedAsking → Type 0
Coded (Makes (Came t) rest) = Coded rest
Coded (Makes (Asked (Issue a)) rest) = Coded rest
Coded (Makes (Asked (Arrive stores)) rest) = Coded rest
Coded (Asks (Asked (Wait counter)) fits go) = (answer : Answer) → Coded (go answer)
Coded (Asks (Asked Pass) fits go) = (go Broken ≡ Stops (Finish Waiting)) × ((answer : Answer) → Coded (go answer))
Coded (Says text rest) = Coded rest
Coded (Stops halt) = Unit {0}
Coded _ = ⊥

coded_come : (ts : List ℕ) (rest : PointedAsking) → Coded rest → Coded (come_all ts rest)
unfolding Coded
coded_come [] rest h = h
coded_come (t ∷ ts) rest h = coded_come ts rest h

coded_marked : (between : ℕ → ℕ → List ℕ) (now : ℕ) (o : Option ℕ) (go : ℕ → PointedAsking) → ((t : ℕ) → Coded (go t)) → Coded (marked between now o go)
coded_marked between now None go h = h now
coded_marked between now (Some t) go h = coded_come (between now t ++ t ∷ []) (go t) (h t)

coded_stop : (halt : Halt) → Coded (Stops halt)
unfolding Coded
coded_stop halt = tt

module _ (layout : Arrangement) (go : State → PointedAsking) (next : (s : State) → Coded (go s)) where
  coded_after : (after : After) → Coded (comes_to go after)
  coded_after (GoesOn s) = next s
  coded_after (EndsBy end) = coded_stop (Finish end)
  coded_after Sticks = coded_stop Stuck

  coded_pass : (answer : Answer) (s : State) → Coded (passed_by answer (go s))
  coded_pass (Landed values) s = next s
  coded_pass Passed s = next s
  coded_pass Broken s = coded_stop (Finish Waiting)

  coded_move : (move : Move) → Coded (asked_by layout go move)
  unfolding Coded
  coded_move (Comes after) = coded_after after
  coded_move (Issues a after) = coded_after after
  coded_move (Waits counter s) = λ answer. next (landed_by counter s answer)
  coded_move (Meets stores s) = (refl, λ answer. coded_pass answer s)
  coded_move (Tells text s) = next s

pub coded_from : (code : Code) (layout : Arrangement) (plan : Plan) (pieces : List Piece) (between : ℕ → ℕ → List ℕ) (node many now : ℕ) (s : State)
    → Coded (points_from code layout plan pieces between node many now s)
coded_from code layout plan pieces between node zero now s = coded_stop UsedUp
coded_from code layout plan pieces between node (suc many) now s =
    coded_marked between now (entered_at (stands_at plan pieces s.frame.at))
    (λ t. asked_by layout (points_from code layout plan pieces between node many t) (step_of code layout node s))
    (λ t. coded_move layout (points_from code layout plan pieces between node many t) (λ s. coded_from code layout plan pieces between node many t s) (step_of code layout node s))

abbrev pub IsOver : RunOf Ask Halt → Type 0
IsOver run = (end : End) × (run.end ≡ Ends (Finish end))

abbrev pub run_by : PointedAsking → List Answer → RunOf Ask Halt
run_by d given = run_of (forgotten d) given

pub not_over : (ask : Ask) → IsOver (unanswered ask) → ⊥
not_over ask h = let e = h.1 in cc

pub over_fits : (b : Bool) (ask : Ask) (run : RunOf Ask Halt) → IsOver (if b then after_event ask run else unanswered ask) → b ≡ true
over_fits true ask run h = refl
over_fits false ask run h = absurd (not_over ask h)

-- the first of the asks
first_is : (x : Ask) (E : List Ask) (ask : Ask) (es : List Ask) → Front (x ∷ E) (ask ∷ es) → x ≡ ask
first_is x E ask es f = let e = f.is in cc

rest_is : (x : Ask) (E : List Ask) (ask : Ask) (es : List Ask) → Front (x ∷ E) (ask ∷ es) → Front E es
rest_is x E ask es f = let e = f.is in record { more = f.more; is = cc }

nothing_first : (xs : List Ask) → Front [] xs
nothing_first xs = record { more = xs; is = refl }

module _ (oracle : Oracle) where
  -- where nothing is answered, nothing is played
  unplayed : (d : PointedAsking) (p : Progress) → Coded d → IsOver (run_by d []) → answers_played oracle p d ≡ []
  unfolding Coded
  unplayed (Makes (Came t) rest) p c o = unplayed rest p c o
  unplayed (Makes (Asked (Issue a)) rest) p c o = unplayed rest (issued a p) c o
  unplayed (Makes (Asked (Arrive stores)) rest) p c o = unplayed rest p c o
  unplayed (Makes (Asked (Wait counter)) rest) p c o = absurd c
  unplayed (Makes (Asked Pass) rest) p c o = absurd c
  unplayed (Asks (Asked (Wait counter)) fits go) p c o = absurd (not_over (Wait counter) o)
  unplayed (Asks (Asked Pass) fits go) p c o = absurd (not_over Pass o)
  unplayed (Asks (Asked (Issue a)) fits go) p c o = absurd c
  unplayed (Asks (Asked (Arrive stores)) fits go) p c o = absurd c
  unplayed (Asks (Came t) fits go) p c o = absurd c
  unplayed (Says text rest) p c o = unplayed rest p c o
  unplayed (Stops halt) p c o = refl

  fits_play : (fits : Answer → Bool) (a landing_ : Answer) (given rest : List Answer) → a ≡ landing_ → fits a ≡ true → rest ≡ given
      → (if fits landing_ then landing_ ∷ rest else []) ≡ a ∷ given
  fits_play fits a landing_ given rest e fit h =
      ap (λ b. if b then landing_ ∷ rest else []) (ap fits (sym e) ∙ fit) ∙ ap (λ x. x ∷ rest) (sym e) ∙ ap (λ l. a ∷ l) h

  -- the answers of the asks that begin the run
  pub played_is : (d : PointedAsking) (p : Progress) (given : List Answer) (E : List Ask) → Coded d → IsOver (run_by d given) → Front E (run_by d given).events
      → given ≡ answers_of oracle p E → answers_played oracle p d ≡ given
  unfolding Coded
  played_is d p given [] c o f e = subst (λ g. answers_played oracle p d ≡ g) (sym e) (unplayed d p c (subst (λ g. IsOver (run_by d g)) e o))
  played_is (Makes (Came t) rest) p given (x ∷ E) c o f e = played_is rest p given (x ∷ E) c o f e
  played_is (Makes (Asked (Issue a)) rest) p given (x ∷ E) c o f e =
      let s = first_is x E (Issue a) (run_by rest given).events f in
      played_is rest (issued a p) given E c o (rest_is x E (Issue a) (run_by rest given).events f) (subst (λ y. given ≡ answers_to oracle p y ++ answers_of oracle (step_by p y) E) s e)
  played_is (Makes (Asked (Arrive stores)) rest) p given (x ∷ E) c o f e =
      let s = first_is x E (Arrive stores) (run_by rest given).events f in
      played_is rest p given E c o (rest_is x E (Arrive stores) (run_by rest given).events f) (subst (λ y. given ≡ answers_to oracle p y ++ answers_of oracle (step_by p y) E) s e)
  played_is (Makes (Asked (Wait counter)) rest) p given (x ∷ E) c o f e = absurd c
  played_is (Makes (Asked Pass) rest) p given (x ∷ E) c o f e = absurd c
  played_is (Asks (Asked (Wait counter)) fits go) p [] (x ∷ E) c o f e = absurd (not_over (Wait counter) o)
  played_is (Asks (Asked (Wait counter)) fits go) p (a ∷ given) (x ∷ E) c o f e =
      let fit = over_fits (fits a) (Wait counter) (run_by (go a) given) o in
      let on = λ (b : Bool). if b then after_event (Wait counter) (run_by (go a) given) else unanswered (Wait counter) in
      let g : Front (x ∷ E) (Wait counter ∷ (run_by (go a) given).events) = subst (λ b. Front (x ∷ E) (on b).events) fit f in
      let s = first_is x E (Wait counter) (run_by (go a) given).events g in
      let h : a ∷ given ≡ landing oracle counter p ∷ answers_of oracle (waited counter p) E = subst (λ y. a ∷ given ≡ answers_to oracle p y ++ answers_of oracle (step_by p y) E) s e in
      let same : a ≡ landing oracle counter p = cc in
      let tail : given ≡ answers_of oracle (waited counter p) E = cc in
      let ih = played_is (go a) (waited counter p) given E (c a) (subst (λ b. IsOver (on b)) fit o) (rest_is x E (Wait counter) (run_by (go a) given).events g) tail in
      fits_play fits a (landing oracle counter p) given (answers_played oracle (waited counter p) (go (landing oracle counter p))) same fit
      (subst (λ b. answers_played oracle (waited counter p) (go b) ≡ given) same ih)
  played_is (Asks (Asked Pass) fits go) p [] (x ∷ E) c o f e = absurd (not_over Pass o)
  played_is (Asks (Asked Pass) fits go) p (a ∷ given) (x ∷ E) c o f e =
      let q : Progress = record p { barriers = suc p.barriers } in
      let fit = over_fits (fits a) Pass (run_by (go a) given) o in
      let on = λ (b : Bool). if b then after_event Pass (run_by (go a) given) else unanswered Pass in
      let g : Front (x ∷ E) (Pass ∷ (run_by (go a) given).events) = subst (λ b. Front (x ∷ E) (on b).events) fit f in
      let s = first_is x E Pass (run_by (go a) given).events g in
      let h : a ∷ given ≡ passing oracle p ∷ answers_of oracle q E = subst (λ y. a ∷ given ≡ answers_to oracle p y ++ answers_of oracle (step_by p y) E) s e in
      let same : a ≡ passing oracle p = cc in
      let tail : given ≡ answers_of oracle q E = cc in
      let ih = played_is (go a) q given E (c.1 a) (subst (λ b. IsOver (on b)) fit o) (rest_is x E Pass (run_by (go a) given).events g) tail in
      fits_play fits a (passing oracle p) given (answers_played oracle q (go (passing oracle p))) same fit
      (subst (λ b. answers_played oracle q (go b) ≡ given) same ih)
  played_is (Asks (Asked (Issue a)) fits go) p given (x ∷ E) c o f e = absurd c
  played_is (Asks (Asked (Arrive stores)) fits go) p given (x ∷ E) c o f e = absurd c
  played_is (Asks (Came t) fits go) p given (x ∷ E) c o f e = absurd c
  played_is (Says text rest) p given (x ∷ E) c o f e = played_is rest p given (x ∷ E) c o f e
  played_is (Stops halt) p given (x ∷ E) c o f e = absurd (let i = f.is in cc)

  -- the last of the asks finds its barrier broken
  abbrev pub BreaksAt : Progress → List Ask → Type 0
  BreaksAt p [] = ⊥
  BreaksAt p (x ∷ []) = answers_to oracle p x ≡ Broken ∷ []
  BreaksAt p (x ∷ y ∷ E) = BreaksAt (step_by p x) (y ∷ E)

  not_broken : (p : Progress) (x : Ask) (E : List Ask) → answers_to oracle p x ≡ [] → BreaksAt p (x ∷ E) → BreaksAt (step_by p x) E
  not_broken p x [] none b = absurd (cc)
  not_broken p x (y ∷ E) none b = b

  no_more : (es : List Ask) → Front es [] → es ≡ []
  no_more [] f = refl
  no_more (x ∷ es) f = absurd (let e = f.is in cc)

  lands_on : (p : Progress) (counter : ℕ) (E : List Ask) → BreaksAt p (Wait counter ∷ E) → BreaksAt (waited counter p) E
  lands_on p counter [] b = absurd (cc)
  lands_on p counter (y ∷ E) b = b

  -- where the last ask finds its barrier broken nothing more is asked
  pub broken_exact : (d : PointedAsking) (p : Progress) (given : List Answer) (E : List Ask) → Coded d → IsOver (run_by d given) → Front E (run_by d given).events
      → given ≡ answers_of oracle p E → BreaksAt p E → (run_by d given).events ≡ E
  unfolding Coded
  broken_exact d p given [] c o f e b = absurd b
  broken_exact (Makes (Came t) rest) p given (x ∷ E) c o f e b = broken_exact rest p given (x ∷ E) c o f e b
  broken_exact (Makes (Asked (Issue a)) rest) p given (x ∷ E) c o f e b =
      let s = first_is x E (Issue a) (run_by rest given).events f in
      let ih = broken_exact rest (issued a p) given E c o (rest_is x E (Issue a) (run_by rest given).events f) (subst (λ y. given ≡ answers_to oracle p y ++ answers_of oracle (step_by p y) E) s e)
      (not_broken p (Issue a) E refl (subst (λ y. BreaksAt p (y ∷ E)) s b)) in
      ap (λ es. Issue a ∷ es) ih ∙ ap (λ y. y ∷ E) (sym s)
  broken_exact (Makes (Asked (Arrive stores)) rest) p given (x ∷ E) c o f e b =
      let s = first_is x E (Arrive stores) (run_by rest given).events f in
      let ih = broken_exact rest p given E c o (rest_is x E (Arrive stores) (run_by rest given).events f) (subst (λ y. given ≡ answers_to oracle p y ++ answers_of oracle (step_by p y) E) s e)
      (not_broken p (Arrive stores) E refl (subst (λ y. BreaksAt p (y ∷ E)) s b)) in
      ap (λ es. Arrive stores ∷ es) ih ∙ ap (λ y. y ∷ E) (sym s)
  broken_exact (Makes (Asked (Wait counter)) rest) p given (x ∷ E) c o f e b = absurd c
  broken_exact (Makes (Asked Pass) rest) p given (x ∷ E) c o f e b = absurd c
  broken_exact (Asks (Asked (Wait counter)) fits go) p [] (x ∷ E) c o f e b = absurd (not_over (Wait counter) o)
  broken_exact (Asks (Asked (Wait counter)) fits go) p (a ∷ given) (x ∷ E) c o f e b =
      let fit = over_fits (fits a) (Wait counter) (run_by (go a) given) o in
      let on = λ (b : Bool). if b then after_event (Wait counter) (run_by (go a) given) else unanswered (Wait counter) in
      let g : Front (x ∷ E) (Wait counter ∷ (run_by (go a) given).events) = subst (λ b. Front (x ∷ E) (on b).events) fit f in
      let s = first_is x E (Wait counter) (run_by (go a) given).events g in
      let h : a ∷ given ≡ landing oracle counter p ∷ answers_of oracle (waited counter p) E = subst (λ y. a ∷ given ≡ answers_to oracle p y ++ answers_of oracle (step_by p y) E) s e in
      let tail : given ≡ answers_of oracle (waited counter p) E = cc in
      let ih = broken_exact (go a) (waited counter p) given E (c a) (subst (λ b. IsOver (on b)) fit o) (rest_is x E (Wait counter) (run_by (go a) given).events g) tail
      (lands_on p counter E (subst (λ y. BreaksAt p (y ∷ E)) s b)) in
      ap (λ b. (on b).events) fit ∙ ap (λ es. Wait counter ∷ es) ih ∙ ap (λ y. y ∷ E) (sym s)
  broken_exact (Asks (Asked Pass) fits go) p [] (x ∷ E) c o f e b = absurd (not_over Pass o)
  broken_exact (Asks (Asked Pass) fits go) p (a ∷ given) (x ∷ E) c o f e b =
      let q : Progress = record p { barriers = suc p.barriers } in
      let fit = over_fits (fits a) Pass (run_by (go a) given) o in
      let on = λ (b : Bool). if b then after_event Pass (run_by (go a) given) else unanswered Pass in
      let g : Front (x ∷ E) (Pass ∷ (run_by (go a) given).events) = subst (λ b. Front (x ∷ E) (on b).events) fit f in
      let s = first_is x E Pass (run_by (go a) given).events g in
      let h : a ∷ given ≡ passing oracle p ∷ answers_of oracle q E = subst (λ y. a ∷ given ≡ answers_to oracle p y ++ answers_of oracle (step_by p y) E) s e in
      let same : a ≡ passing oracle p = cc in
      let tail : given ≡ answers_of oracle q E = cc in
      ap (λ b. (on b).events) fit
      ∙ ap (λ es. Pass ∷ es) (by_rest E (rest_is x E Pass (run_by (go a) given).events g) tail (subst (λ y. BreaksAt p (y ∷ E)) s b) same
      (λ b. broken_exact (go a) q given E (c.1 a) (subst (λ b. IsOver (on b)) fit o) (rest_is x E Pass (run_by (go a) given).events g) tail b) c.0)
      ∙ ap (λ y. y ∷ E) (sym s)
    where
      by_rest : (E : List Ask) → Front E (run_by (go a) given).events → given ≡ answers_of oracle (record p { barriers = suc p.barriers }) E → BreaksAt p (Pass ∷ E) → a ≡ passing oracle p
          → (BreaksAt (record p { barriers = suc p.barriers }) E → (run_by (go a) given).events ≡ E) → go Broken ≡ Stops (Finish Waiting) → (run_by (go a) given).events ≡ E
      by_rest [] f e b same ih ends =
          let broken : passing oracle p ≡ Broken = cc in
          ap (λ d. (run_by d given).events) (ap go (same ∙ broken) ∙ ends)
      by_rest (y ∷ E) f e b same ih ends = ih b
  broken_exact (Asks (Asked (Issue a)) fits go) p given (x ∷ E) c o f e b = absurd c
  broken_exact (Asks (Asked (Arrive stores)) fits go) p given (x ∷ E) c o f e b = absurd c
  broken_exact (Asks (Came t) fits go) p given (x ∷ E) c o f e b = absurd c
  broken_exact (Says text rest) p given (x ∷ E) c o f e b = broken_exact rest p given (x ∷ E) c o f e b
  broken_exact (Stops halt) p given (x ∷ E) c o f e b = absurd (let i = f.is in cc)

  pub breaks_last : (p : Progress) (E : List Ask) (x : Ask) → answers_to oracle (after_asks p E) x ≡ Broken ∷ [] → BreaksAt p (E ++ x ∷ [])
  breaks_last p [] x h = h
  breaks_last p (y ∷ []) x h = h
  breaks_last p (y ∷ z ∷ E) x h = breaks_last (step_by p y) (z ∷ E) x h
