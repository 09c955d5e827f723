-- How a runner goes on with the node that it follows.
use Rattle.std.proofs.Common.{◌≡◌, ⊎_elim, ℕ, List, [], ◌∷◌, ◌++◌, length, Some, Bool, true, false, ◌==◌, refl, sym, ap, ◌∙◌, subst, slice_set, if◌then◌else◌}
use Rattle.std.specs.Prelude.{Result, Ok, Err, IfOk}
use Rattle.std.proofs.lemmas.Bool.Decides.{eqb_tells}
use Rattle.resumption.specs.Resumption.{Asks, Makes, Says, Stops, next_event, next_text, past_text}
use Rattle.sc_meaning.specs.declared.request.Request.{Request}
use Rattle.sc_meaning.specs.Asking.{Answer, SourceDoing}
use Rattle.core_run.specs.declared.runner.Runner.{Runner}
use Rattle.core_run.specs.declared.step.Step.{Step}
use Rattle.core_run.specs.declared.step.Step.TheVariants as step
use Rattle.core_run.specs.Seen.{Stands, Shows}
use Rattle.replay_laws.proofs.Lists.{of_changed, of_longer}
use Rattle.replay_laws.proofs.Others.{unless}
use Rattle.replay_stages.specs.Courses.{Course, stop_of, IsStuck}
use Rattle.sc_meaning.specs.Answering.{WaitsForAnswers, is_answered}
use Rattle.replay_stages.specs.Stage.{Front}
use Rattle.replay_stages.specs.Laws.{with_front}
use Rattle.replay_stages.proofs.Courses.{followed}
use Rattle.history_replay.specs.Fronts.{request_in, stop_in, IsAt, AllAt, StandsOn, GoesTo}

pub shows_next : (doing : SourceDoing) (s : Step) → Shows (past_text doing) s → request_in s ≡ next_event doing
shows_next (Asks r fits go) s h = ap request_in h
shows_next (Makes r rest) s h = ap request_in h
shows_next (Says text rest) s h = shows_next rest s h
shows_next (Stops halt) (step.Stops k) h = refl
shows_next (Stops halt) (step.Asks r) h = absurd h
shows_next (Stops halt) (step.Makes r) h = absurd h

pub shows_stop : (doing : SourceDoing) (s : Step) → Shows (past_text doing) s → stop_in s ≡ stop_of doing
shows_stop (Asks r fits go) s h = ap stop_in h
shows_stop (Makes r rest) s h = ap stop_in h
shows_stop (Says text rest) s h = shows_stop rest s h
shows_stop (Stops halt) (step.Stops k) h = ap Some h
shows_stop (Stops halt) (step.Asks r) h = absurd h
shows_stop (Stops halt) (step.Makes r) h = absurd h

-- a request that is answered is asked, and any other is made
record Asked (r : Request) (rest : SourceDoing) : Type 0 where
  fits : Answer → Bool
  go : Answer → SourceDoing
  is : rest ≡ Asks r fits go

asked : (rest : SourceDoing) (r : Request) → WaitsForAnswers rest → next_event rest ≡ Some r → is_answered r ≡ true
    → Asked r (past_text rest)
unfolding WaitsForAnswers
asked (Asks q fits go) r w e i = record { fits = fits; go = go; is = ap (λ x. Asks x fits go) (let g : q ≡ r = cc in g) }
asked (Makes q rest) r w e i =
    let g : q ≡ r = cc in
    let c : false ≡ true = sym w.0 ∙ ap is_answered g ∙ i in absurd cc
asked (Says text rest) r w e i = asked rest r w e i
asked (Stops halt) r w e i = absurd cc

makes : (rest : SourceDoing) (r : Request) → WaitsForAnswers rest → next_event rest ≡ Some r → is_answered r ≡ false
    → (more : SourceDoing) × (past_text rest ≡ Makes r more)
unfolding WaitsForAnswers
makes (Asks q fits go) r w e i =
    let g : q ≡ r = cc in
    let c : true ≡ false = sym w.0 ∙ ap is_answered g ∙ i in absurd cc
makes (Makes q rest) r w e i = (rest, ap (λ x. Makes x rest) (let g : q ≡ r = cc in g))
makes (Says text rest) r w e i = makes rest r w e i
makes (Stops halt) r w e i = absurd cc

module _ (start : SourceDoing) (given : List Answer) (requests : List Request) (f : Front) (r : Request)
    (c : Course start given requests f.text f.rest) (next : next_event f.rest ≡ Some r) where
  abbrev text : List ℕ
  text = f.text ++ next_text f.rest

  course : Course start given requests text (past_text f.rest)
  course = (followed start given requests f.text).said f.rest c

  -- past a request that is not answered
  pub passes : (new : Runner) → is_answered r ≡ false → new.printed.items ≡ text
      → ((request : Request) (rest : SourceDoing) → past_text f.rest ≡ Makes request rest → Stands new rest)
      → StandsOn new start given (requests ++ r ∷ [])
  passes new i printed stands =
      let m = makes f.rest r c.waits next i in
      record {
        front = record { text = text; rest = m.0 };
        at = record { stands = stands r m.0 m.1; text = printed };
        course = (followed start given requests text).passed r m.0 (subst (Course start given requests text) m.1 course);
      }

  -- by an answer that fits, and by one that does not
  pub takes : (new : Runner) (answer : Answer) (taken : Bool) → is_answered r ≡ true → taken ≡ true → new.printed.items ≡ text
      → ((request : Request) (fits : Answer → Bool) (go : Answer → SourceDoing) → past_text f.rest ≡ Asks request fits go → taken ≡ fits answer)
      → ((request : Request) (fits : Answer → Bool) (go : Answer → SourceDoing) → past_text f.rest ≡ Asks request fits go → Stands new (go answer))
      → StandsOn new start (given ++ answer ∷ []) (requests ++ r ∷ [])
  takes new answer taken i t printed fits stands =
      let a = asked f.rest r c.waits next i in
      record {
        front = record { text = text; rest = a.go answer };
        at = record { stands = stands r a.fits a.go a.is; text = printed };
        course = (followed start given requests text).answered r a.fits a.go answer
            (sym (fits r a.fits a.go a.is) ∙ t) (subst (Course start given requests text) a.is course);
      }

  pub refuses : (answer : Answer) (taken : Bool) → is_answered r ≡ true → taken ≡ false
      → ((request : Request) (fits : Answer → Bool) (go : Answer → SourceDoing) → past_text f.rest ≡ Asks request fits go → taken ≡ fits answer)
      → IsStuck start (given ++ answer ∷ [])
  refuses answer taken i t fits =
      let a = asked f.rest r c.waits next i in
      (followed start given requests text).stuck r a.fits a.go answer
      (sym (fits r a.fits a.go a.is) ∙ t) (subst (Course start given requests text) a.is course)

  pub takes_ok : {E : Type 0} (result : Result Bool E) (new : Runner) (answer : Answer) → is_answered r ≡ true → new.printed.items ≡ text
      → ((request : Request) (fits : Answer → Bool) (go : Answer → SourceDoing) → past_text f.rest ≡ Asks request fits go
      → IfOk result (λ taken. taken ≡ fits answer))
      → ((request : Request) (fits : Answer → Bool) (go : Answer → SourceDoing) → past_text f.rest ≡ Asks request fits go
      → IfOk result (λ taken. taken ≡ true → Stands new (go answer)))
      → IfOk result (λ taken. taken ≡ true → StandsOn new start (given ++ answer ∷ []) (requests ++ r ∷ []))
  takes_ok (Ok taken) new answer i printed fits stands = λ t.
      takes new answer taken i t printed fits (λ request fits go e. stands request fits go e t)
  takes_ok (Err e) new answer i printed fits stands = tt

  pub refuses_ok : {E : Type 0} (result : Result Bool E) (answer : Answer) → is_answered r ≡ true
      → ((request : Request) (fits : Answer → Bool) (go : Answer → SourceDoing) → past_text f.rest ≡ Asks request fits go
      → IfOk result (λ taken. taken ≡ fits answer))
      → IfOk result (λ taken. taken ≡ false → IsStuck start (given ++ answer ∷ []))
  refuses_ok (Ok taken) answer i fits = λ t. refuses answer taken i t fits
  refuses_ok (Err e) answer i fits = tt

-- ---- one of many runners

-- the runner of the node stands otherwise, and the others as before
pub all_changed : (runners : List Runner) (node : ℕ) (new : Runner) (fronts : ℕ → Front) (f : Front) → AllAt runners fronts → IsAt new f
    → AllAt (slice_set runners node new) (with_front fronts node f)
all_changed runners node new fronts f all at n r e =
    ⊎_elim
    (λ p. subst (IsAt r) (sym (ap (λ b. if b then f else fronts n) (eq p.0)))
    (subst (λ x. IsAt x f) p.1 at))
    (λ p. subst (IsAt r) (sym (unless (node == n) f (fronts n) (ne p.0))) (all n r p.1))
    (of_changed runners node new n r e)
  where
    eq : n ≡ node → (node == n) ≡ true
    eq q = ⊎_elim (λ t. t.0) (λ u. absurd (u.1 (sym q))) (eqb_tells node n)

    ne : (n ≡ node → ⊥) → (node == n) ≡ false
    ne q = ⊎_elim (λ t. absurd (q (sym t.1))) (λ u. u.0) (eqb_tells node n)

pub goes_to : (runners : List Runner) (node : ℕ) (new : Runner) (fronts : ℕ → Front) (start : SourceDoing) (given : List Answer)
    (requests : List Request) → AllAt runners fronts → StandsOn new start given requests
    → GoesTo (slice_set runners node new) fronts node start given requests
goes_to runners node new fronts start given requests all s = record {
  front = s.front;
  all = all_changed runners node new fronts s.front all s.at;
  course = s.course;
}

pub if_taken : {E : Type 0} (result : Result Bool E) (P Q : Type 0) → (P → Q) → IfOk result (λ taken. taken ≡ true → P)
    → IfOk result (λ taken. taken ≡ true → Q)
if_taken (Ok taken) P Q f h = λ t. f (h t)
if_taken (Err e) P Q f h = tt

pub all_pushed : (runners : List Runner) (new : Runner) (fronts : ℕ → Front) → AllAt runners fronts → IsAt new (fronts (length runners))
    → AllAt (runners ++ new ∷ []) fronts
all_pushed runners new fronts all at n r e =
    ⊎_elim (λ p. all n r p.1) (λ p. subst (λ m. IsAt r (fronts m)) (sym p.0) (subst (λ x. IsAt x (fronts (length runners))) p.1 at))
    (of_longer runners new n r e)
