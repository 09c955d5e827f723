-- Where answers lead: what was done up to the last of them, and what is left. The next request that is asked is
-- answered next, and nothing is done behind it before.
use Rattle.std.proofs.Common.{◌≡◌, ℕ, Option, Some, None, Bool, true, false, List, [], ◌∷◌, ◌++◌, refl, sym, ap, ◌∙◌, subst}
use Rattle.std.specs.Prelude.{IsSome}
use Rattle.std.specs.Option.{option_map}
use Rattle.resumption.specs.Resumption.{Doing, Asks, Makes, Says, Stops, run_of, Followed, event_before, text_before, follow}
use Rattle.sc_base.specs.declared.value.Place.{Place}
use Rattle.sc_layout.specs.Layout.{Arrangement}
use Rattle.sc_meaning.specs.declared.request.Request.{Request}
use Rattle.sc_meaning.specs.Asking.{Answer, Halt, Finishes, Breaks, SourceDoing}
use Rattle.value_soundness.specs.Lawful.{AnswerNamesOnly}
use Rattle.value_soundness.proofs.Promises.{then_gets, is_asked, fits_request, Promises}

-- the answers are asked for and fit; up to the last of them these events are, and behind them what is left
pub data Leads (Event Given Stop : Type 0) : Doing Event Given Stop → List Given → List Event
    → Doing Event Given Stop → Type 0 where
  at_once : {d : Doing Event Given Stop} → Leads Event Given Stop d [] [] d
  asked : {event : Event} {test : Given → Bool} {go : Given → Doing Event Given Stop} {a : Given} {more : List Given}
      {events : List Event} {rest : Doing Event Given Stop} → test a ≡ true
      → Leads Event Given Stop (go a) more events rest
      → Leads Event Given Stop (Asks event test go) (a ∷ more) (event ∷ events) rest
  made : {event : Event} {d : Doing Event Given Stop} {a : Given} {more : List Given} {events : List Event}
      {rest : Doing Event Given Stop} → Leads Event Given Stop d (a ∷ more) events rest
      → Leads Event Given Stop (Makes event d) (a ∷ more) (event ∷ events) rest
  said : {text : List ℕ} {d : Doing Event Given Stop} {a : Given} {more : List Given} {events : List Event}
      {rest : Doing Event Given Stop} → Leads Event Given Stop d (a ∷ more) events rest
      → Leads Event Given Stop (Says text d) (a ∷ more) events rest

module _ {E A S : Type 0} where
  pub leads_on : {d : Doing E A S} {as_ : List A} {es : List E} {r : Doing E A S} → Leads E A S d as_ es r
      → (bs : List A) (fs : List E) (q : Doing E A S) → Leads E A S r bs fs q → Leads E A S d (as_ ++ bs) (es ++ fs) q
  leads_on at_once bs fs q h = h
  leads_on (asked fit l) bs fs q h = asked fit (leads_on l bs fs q h)
  leads_on (made l) bs fs q h = made (leads_on l bs fs q h)
  leads_on (said l) bs fs q h = said (leads_on l bs fs q h)

  -- the events of the run under the answers
  pub leads_events : {d : Doing E A S} {as_ : List A} {es : List E} {r : Doing E A S} → Leads E A S d as_ es r
      → (run_of d as_).events ≡ es ++ (run_of r []).events
  leads_events at_once = refl
  leads_events (asked {event = event} fit l) = rw fit (ap (λ (es : List E). event ∷ es) (leads_events l))
  leads_events (made {event = event} l) = ap (λ (es : List E). event ∷ es) (leads_events l)
  leads_events (said l) = leads_events l

  some_event : (event : E) (o : Option (Followed E A S)) → IsSome o → IsSome (option_map (event_before event) o)
  some_event event None h = absurd (cc)
  some_event event (Some f) h = refl

  some_text : (text : List ℕ) (o : Option (Followed E A S)) → IsSome o → IsSome (option_map (text_before text) o)
  some_text text None h = absurd (cc)
  some_text text (Some f) h = refl

  none_left : (d : Doing E A S) → IsSome (follow d [])
  none_left (Asks event test go) = refl
  none_left (Makes event d) = refl
  none_left (Says text d) = refl
  none_left (Stops stop) = refl

  -- each answer was asked for and fits
  pub leads_fit : {d : Doing E A S} {as_ : List A} {es : List E} {r : Doing E A S} → Leads E A S d as_ es r
      → IsSome (follow d as_)
  leads_fit (at_once {d = d}) = none_left d
  leads_fit (asked {event = event} fit l) = rw fit (some_event event _ (leads_fit l))
  leads_fit (made {event = event} l) = some_event event _ (leads_fit l)
  leads_fit (said {text = text} l) = some_text text _ (leads_fit l)

-- ---- the next request that is asked

-- the gets whose values the next sync lands, after these requests
abbrev pub gets_after : List Place → List Request → List Place
gets_after gets [] = gets
gets_after gets (request ∷ more) = gets_after (then_gets gets request) more

pub gets_after_all : (gets : List Place) (xs ys : List Request)
    → gets_after gets (xs ++ ys) ≡ gets_after (gets_after gets xs) ys
gets_after_all gets [] ys = refl
gets_after_all gets (x ∷ xs) ys = gets_after_all (then_gets gets x) xs ys

module _ (layout : Arrangement) (exposed : List ℕ) where
  -- the requests are made up to this one, which is asked and so answered
  pub record Answers (d : SourceDoing) (gets : List Place) (before : List Request) (request : Request)
      (behind : List Request) (answer : Answer) : Type 0 where
    pub rest : SourceDoing
    pub leads : Leads Request Answer Halt d (answer ∷ []) (before ++ request ∷ []) rest
    pub promises : Promises layout exposed (then_gets (gets_after gets before) request) rest
    pub last : behind ≡ []

  made_first : (event r : Request) (d : SourceDoing) (gets : List Place) (before : List Request) (request : Request)
      (behind : List Request) (answer : Answer) → event ≡ r → Answers d (then_gets gets r) before request behind answer
      → Answers (Makes event d) gets (r ∷ before) request behind answer
  made_first event r d gets before request behind answer same more = record {
    rest = more.rest;
    leads = subst (λ (r : Request). Leads Request Answer Halt (Makes event d) (answer ∷ []) (r ∷
        (before ++ request ∷ [])) more.rest)
        same (made {rest = more.rest} more.leads);
    promises = more.promises;
    last = more.last;
  }

  pub answers : (d : SourceDoing) (gets : List Place) (before : List Request) (request : Request)
      (behind : List Request)
      (answer : Answer) → Promises layout exposed gets d → (run_of d []).events ≡ before ++ request ∷ behind
      → is_asked request ≡ true → fits_request layout (gets_after gets before) request answer ≡ true
      → AnswerNamesOnly exposed answer → Answers d gets before request behind answer
  answers (Asks event test go) gets [] request behind answer h e is fit names =
      let same : event ≡ request = cc in
      let none : behind ≡ [] = cc in
      let right : test answer ≡ true = h.0.fits answer ∙ (rw same fit) in
      record {
        rest = go answer;
        leads = subst (λ (r : Request). Leads Request Answer Halt (Asks event test go) (answer ∷ []) (r ∷ [])
            (go answer)) same
            (asked right at_once);
        promises = subst (λ (r : Request). Promises layout exposed (then_gets gets r) (go answer)) same
            (h.1 answer right names);
        last = none;
      }
  answers (Asks event test go) gets (r ∷ before) request behind answer h e is fit names =
      absurd (nothing_there before request behind (let tail : [] ≡ before ++ request ∷ behind = cc in tail))
    where
      nothing_there : (xs : List Request) (r : Request) (ys : List Request) → [] ≡ xs ++ r ∷ ys → ⊥
      nothing_there [] r ys e = cc
      nothing_there (x ∷ xs) r ys e = cc
  answers (Makes event d) gets [] request behind answer h e is fit names =
      let same : event ≡ request = cc in
      let no : is_asked event ≡ false = h.0.made in
      absurd (let both : true ≡ false = sym is ∙ (ap is_asked (sym same) ∙ no) in cc)
  answers (Makes event d) gets (r ∷ before) request behind answer h e is fit names =
      let same : event ≡ r = cc in
      let tail : (run_of d []).events ≡ before ++ request ∷ behind = cc in
      let promised : Promises layout exposed (then_gets gets r) d =
      subst (λ (r : Request). Promises layout exposed (then_gets gets r) d) same h.1 in
      let more = answers d (then_gets gets r) before request behind answer promised tail is fit names in
      made_first event r d gets before request behind answer same more
  answers (Says text d) gets before request behind answer h e is fit names =
      let more = answers d gets before request behind answer h e is fit names in
      record { rest = more.rest; leads = said more.leads; promises = more.promises; last = more.last }
  answers (Stops (Finishes end)) gets [] request behind answer h e is fit names = absurd (cc)
  answers (Stops (Finishes end)) gets (r ∷ before) request behind answer h e is fit names = absurd (cc)
  answers (Stops Breaks) gets before request behind answer h e is fit names = absurd h
