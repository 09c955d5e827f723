-- A node's own events are a front of its run.
use Rattle.std.proofs.Common.{◌≡◌, ℕ, suc, ◌+◌, List, [], ◌∷◌, ◌++◌, length, Option, Some, None, Bool, true, false, if◌then◌else◌, ◌==◌, slice_get, refl, sym, ap, ◌∙◌, subst, eqb-true, eq-eqb, arith, append_assoc}
use Rattle.std.proofs.lemmas.List.{append-nil, nil_from_length}
use Rattle.resumption.specs.Resumption.{Doing, RunOf, RunEnd, Ends, run_of}
use Rattle.resumption.specs.Laws.{Extends}
use Rattle.resumption.proofs.Extending.{extends}
use Rattle.sc_base.specs.declared.value.End.{End}
use Rattle.sc_base.specs.declared.value.End.TheVariants.{Ended, Fault, Cut, Waiting}
use Rattle.sc_meaning.specs.declared.request.Request.{Request}
use Rattle.sc_meaning.specs.declared.request.Request.TheVariants.{Read, Write, Sync as SyncRequest, Barrier, AllStoreSync}
use Rattle.sc_meaning.specs.declared.event.SourceEvent.{SourceEvent}
use Rattle.sc_meaning.specs.declared.event.SourceEvent.TheVariants.{Do, Issue, Effect, Sync, Arrive, Release, End as Over}
use Rattle.sc_meaning.specs.Asking.{Answer, Halt, Finishes}
use Rattle.sc_meaning.specs.Past.{Processes, made, ended, answer_to, and_answer, answers, run_so_far}
use Rattle.sc_meaning.specs.History.{IsNext, EndAllowed, Allowed, Legal}
use Rattle.meaning_laws.specs.Fronts.{is_own, own, Makes, reads, writes, issues, syncs, arrives, arrives_with_stores, IsFront, so_far, makes, is_over, IsOver, EventsAreAFront, EndIsOfTheRun, EventsExtend, EventsAreNumbered}

-- ---- further events extend a run

extends_itself : {E S : Type 0} → (run : RunOf E S) → Extends E S run run
extends_itself run = record {
  more_events = [];
  more_text = [];
  events = sym (append-nil run.events);
  text = sym (append-nil run.text);
  stopped = λ stop h. refl;
}

then_extends : {E S : Type 0} → (a b c : RunOf E S) → Extends E S a b → Extends E S b c → Extends E S a c
then_extends a b c x y = record {
  more_events = x.more_events ++ y.more_events;
  more_text = x.more_text ++ y.more_text;
  events = y.events ∙ ap (λ es. es ++ y.more_events) x.events ∙ append_assoc a.events x.more_events y.more_events;
  text = y.text ∙ ap (λ t. t ++ y.more_text) x.text ∙ append_assoc a.text x.more_text y.more_text;
  stopped = λ stop h. y.stopped stop (ap (λ r. r.end) (x.stopped stop h) ∙ h) ∙ x.stopped stop h;
}

with_answer : {E S : Type 0} → (d : Doing E Answer S) (given : List Answer) (o : Option Answer)
    → Extends E S (run_of d given) (run_of d (and_answer given o))
with_answer d given None = extends_itself (run_of d given)
with_answer d given (Some answer) = extends d given (answer ∷ [])

module _ (processes : Processes) (node : ℕ) where
  abbrev with_event : (past : List SourceEvent) (event : SourceEvent)
      → Extends Request Halt (run_so_far processes node past) (run_so_far processes node (event ∷ past))
  with_event past event =
      with_answer (processes.starts node) (answers processes node past)
      (answer_to processes node (answers processes node past) past event)

  pub with_events : (newer past : List SourceEvent)
      → Extends Request Halt (run_so_far processes node past) (run_so_far processes node (newer ++ past))
  with_events [] past = extends_itself (run_so_far processes node past)
  with_events (event ∷ newer) past =
      then_extends (run_so_far processes node past) (run_so_far processes node (newer ++ past)) _
      (with_events newer past) (with_event (newer ++ past) event)

pub events_extend : EventsExtend
events_extend processes newer past node = with_events processes node newer past

-- ---- events and the requests that they make

-- by the events the node makes all of the requests but the rest
Told : (node number : ℕ) → List SourceEvent → List Request → List Request → Type 0
Told node number [] requests rest = requests ≡ rest
Told node number (event ∷ events) [] rest = ⊥
Told node number (event ∷ events) (request ∷ requests) rest =
    Makes node number event request × Told node (number + 1) events requests rest

told_more : (node number : ℕ) (events : List SourceEvent) (requests rest more : List Request)
    → Told node number events requests rest → Told node number events (requests ++ more) (rest ++ more)
unfolding Told
told_more node number [] requests rest more h = ap (λ rs. rs ++ more) h
told_more node number (event ∷ events) [] rest more h = absurd h
told_more node number (event ∷ events) (request ∷ requests) rest more h =
    (h.0, told_more node (number + 1) events requests rest more h.1)

told_next : (node number : ℕ) (events : List SourceEvent) (requests rest : List Request) (event : SourceEvent) (request : Request)
    → Told node number events requests (request ∷ rest) → Makes node (number + length events) event request
    → Told node number (events ++ event ∷ []) requests rest
unfolding Told
told_next node number [] requests rest event request h m =
    let same : number + 0 ≡ number = omega arith in
    subst (λ rs. Told node number (event ∷ []) rs rest) (sym h) (subst (λ n. Makes node n event request) same m, refl)
told_next node number (e ∷ events) [] rest event request h m = absurd h
told_next node number (e ∷ events) (r ∷ requests) rest event request h m =
    let same : number + suc (length events) ≡ number + 1 + length events = omega arith in
    (h.0, told_next node (number + 1) events requests rest event request h.1 (subst (λ n. Makes node n event request) same m))

told_gets : (node number : ℕ) (events : List SourceEvent) (requests rest : List Request)
    → Told node number events requests rest → slice_get requests (length events) ≡ slice_get rest 0
unfolding Told
told_gets node number [] requests rest h = ap (λ rs. slice_get rs 0) h
told_gets node number (event ∷ events) [] rest h = absurd h
told_gets node number (event ∷ events) (request ∷ requests) rest h = told_gets node (number + 1) events requests rest h.1

told_length : (node number : ℕ) (events : List SourceEvent) (requests rest : List Request)
    → Told node number events requests rest → length requests ≡ length events + length rest
unfolding Told
told_length node number [] requests rest h = let e : length requests ≡ length rest = ap length h in omega arith
told_length node number (event ∷ events) [] rest h = absurd h
told_length node number (event ∷ events) (request ∷ requests) rest h =
    let e = told_length node (number + 1) events requests rest h.1 in omega arith

-- the first of what is left
record First (rest : List Request) (request : Request) : Type 0 where
  pub behind : List Request
  pub is_first : rest ≡ request ∷ behind

first_of : (rest : List Request) (request : Request) → slice_get rest 0 ≡ Some request → First rest request
first_of [] request h = absurd cc
first_of (r ∷ rest) request h = let e : r ≡ request = cc in record { behind = rest; is_first = ap (λ x. x ∷ rest) e }

-- ---- what a node's past comes to

module _ (processes : Processes) (node : ℕ) where
  -- the node goes on
  record Going (past : List SourceEvent) : Type 0 where
    pub running : ended node past ≡ None
    pub rest : List Request
    pub told : Told node 0 (own node past) (run_so_far processes node past).events rest
    pub counted : made node past ≡ length (own node past)

  -- it has ended
  record Gone (past : List SourceEvent) (end : End) : Type 0 where
    pub was : ended node past ≡ Some end
    pub before : List SourceEvent
    pub behind : own node past ≡ before ++ Over node end ∷ []
    pub told : Told node 0 before (run_so_far processes node past).events []
    pub is_of_run : IsOver processes past node end

  data Stands (past : List SourceEvent) : Type 0 where
    going : Going past → Stands past
    gone : (end : End) → Gone past end → Stands past

  -- what may go on differs from what was by no event of the node's own
  record Unchanged (past next : List SourceEvent) : Type 0 where
    pub own_same : own node next ≡ own node past
    pub made_same : made node next ≡ made node past
    pub ended_same : ended node next ≡ ended node past

unless : {A : Type 0} → (b : Bool) (x y : A) → b ≡ false → (if b then x else y) ≡ y
unless true x y e = absurd cc
unless false x y e = refl

when : {A : Type 0} → (b : Bool) (x y : A) → b ≡ true → (if b then x else y) ≡ x
when true x y e = refl
when false x y e = absurd cc

module _ (processes : Processes) (node : ℕ) (past : List SourceEvent) where
  unchanged : (event : SourceEvent) → is_own node event ≡ false → Unchanged processes node past (event ∷ past)
  unchanged (Do other request wrote place value) e = record { own_same = unless (other == node) _ _ e; made_same = unless (other == node) _ _ e; ended_same = refl }
  unchanged (Issue other request) e = record { own_same = unless (other == node) _ _ e; made_same = unless (other == node) _ _ e; ended_same = refl }
  unchanged (Effect other request cell wrote place value) e = record { own_same = refl; made_same = refl; ended_same = refl }
  unchanged (Sync other request) e = record { own_same = unless (other == node) _ _ e; made_same = unless (other == node) _ _ e; ended_same = refl }
  unchanged (Arrive other request stores) e = record { own_same = unless (other == node) _ _ e; made_same = unless (other == node) _ _ e; ended_same = refl }
  unchanged (Release number) e = record { own_same = refl; made_same = refl; ended_same = refl }
  unchanged (Over other end) e = record { own_same = unless (other == node) _ _ e; made_same = refl; ended_same = unless (other == node) _ _ e }

  keeps : (event : SourceEvent) → is_own node event ≡ false → Stands processes node past → Stands processes node (event ∷ past)
  keeps event e (going g) =
      let u = unchanged event e in
      let x = with_event processes node past event in
      going (record {
        running = u.ended_same ∙ g.running;
        rest = g.rest ++ x.more_events;
        told = subst (λ os. Told node 0 os (run_so_far processes node (event ∷ past)).events (g.rest ++ x.more_events)) (sym u.own_same)
            (subst (λ rs. Told node 0 (own node past) rs (g.rest ++ x.more_events)) (sym x.events)
            (told_more node 0 (own node past) (run_so_far processes node past).events g.rest x.more_events g.told));
        counted = u.made_same ∙ g.counted ∙ ap length (sym u.own_same);
      })
  keeps event e (gone end g) =
      let u = unchanged event e in
      let same = (with_event processes node past event).stopped (Finishes end) g.is_of_run.over in
      gone end (record {
        was = u.ended_same ∙ g.was;
        before = g.before;
        behind = u.own_same ∙ g.behind;
        told = subst (λ (r : RunOf Request Halt). Told node 0 g.before r.events []) (sym same) g.told;
        is_of_run = record {
          all_made = u.made_same ∙ g.is_of_run.all_made ∙ ap (λ (r : RunOf Request Halt). length r.events) (sym same);
          over = ap (λ (r : RunOf Request Halt). r.end) same ∙ g.is_of_run.over;
        };
      })

  -- a request is made
  record Requests (event : SourceEvent) : Type 0 where
    pub request : Request
    pub running : ended node past ≡ None
    pub next : slice_get (run_so_far processes node past).events (made node past) ≡ Some request
    pub by : Makes node (made node past) event request
    pub own_more : own node (event ∷ past) ≡ own node past ++ event ∷ []
    pub made_more : made node (event ∷ past) ≡ made node past + 1
    pub ended_same : ended node (event ∷ past) ≡ ended node past

  requested : (event : SourceEvent) → Requests event → Stands processes node past → Stands processes node (event ∷ past)
  requested event q (gone end g) = let a = q.running in let b = g.was in absurd cc
  requested event q (going g) =
      let x = with_event processes node past event in
      let gets = told_gets node 0 (own node past) (run_so_far processes node past).events g.rest g.told in
      let numbered : made node past ≡ 0 + length (own node past) = (let c = g.counted in omega arith) in
      let f = first_of g.rest q.request (sym gets ∙ subst (λ n. slice_get (run_so_far processes node past).events n ≡ Some q.request) g.counted q.next) in
      let told : Told node 0 (own node past ++ event ∷ []) (run_so_far processes node past).events f.behind =
      told_next node 0 (own node past) (run_so_far processes node past).events f.behind event q.request
      (subst (λ rest. Told node 0 (own node past) (run_so_far processes node past).events rest) f.is_first g.told)
      (subst (λ n. Makes node n event q.request) numbered q.by) in
      going (record {
        running = q.ended_same ∙ q.running;
        rest = f.behind ++ x.more_events;
        told = subst (λ os. Told node 0 os (run_so_far processes node (event ∷ past)).events (f.behind ++ x.more_events)) (sym q.own_more)
            (subst (λ rs. Told node 0 (own node past ++ event ∷ []) rs (f.behind ++ x.more_events)) (sym x.events)
            (told_more node 0 (own node past ++ event ∷ []) (run_so_far processes node past).events f.behind x.more_events told));
        counted = q.made_more ∙ ap (λ n. n + 1) g.counted ∙ sym (ap length q.own_more ∙ one_longer (own node past) event);
      })
    where
      one_longer : (es : List SourceEvent) (e : SourceEvent) → length (es ++ e ∷ []) ≡ length es + 1
      one_longer [] e = refl
      one_longer (x ∷ es) e = let i = one_longer es e in omega arith

  -- the node ends
  ended_now : (end : End) → ended node past ≡ None
      → made node past ≡ length (run_so_far processes node (Over node end ∷ past)).events
      → (run_so_far processes node (Over node end ∷ past)).end ≡ Ends (Finishes end)
      → Stands processes node past → Stands processes node (Over node end ∷ past)
  ended_now end running all over (gone other g) = let b = g.was in absurd cc
  ended_now end running all over (going g) =
      let x = with_event processes node past (Over node end) in
      let self = eq-eqb node node refl in
      let told = subst (λ rs. Told node 0 (own node past) rs (g.rest ++ x.more_events)) (sym x.events)
      (told_more node 0 (own node past) (run_so_far processes node past).events g.rest x.more_events g.told) in
      let long = told_length node 0 (own node past) _ (g.rest ++ x.more_events) told in
      let none : g.rest ++ x.more_events ≡ [] =
      nil_from_length (g.rest ++ x.more_events) (let c = g.counted in omega arith) in
      gone end (record {
        was = when (node == node) _ _ self;
        before = own node past;
        behind = when (node == node) _ _ self;
        told = subst (λ rest. Told node 0 (own node past) (run_so_far processes node (Over node end ∷ past)).events rest) none told;
        is_of_run = record { all_made = all; over = over };
      })

-- ---- each event

module _ (processes : Processes) (node : ℕ) (past : List SourceEvent) where
  module _ (other number : ℕ) (request : Request) (event : SourceEvent) where
    -- how the event counts, where it is the node's own
    record Counts : Type 0 where
      pub is_its_own : is_own node event ≡ (other == node)
      pub made_then : (other == node) ≡ true → made node (event ∷ past) ≡ made node past + 1
      pub ended_same : ended node (event ∷ past) ≡ ended node past

    -- the event makes the request of the node whose it is
    makes_request : IsNext processes past other number request → Makes other number event request → Counts
        → is_own node event ≡ true → Requests processes node past event
    makes_request next m c e =
        let same_node = sym c.is_its_own ∙ e in
        let its : other ≡ node = eqb-true other node same_node in
        let numbered : made other past ≡ number = sym next.numbered in
        record {
          request = request;
          running = subst (λ n. ended n past ≡ None) its next.goes_on.running;
          next = subst (λ n. slice_get (run_so_far processes n past).events (made n past) ≡ Some request) its
              (subst (λ n. slice_get (run_so_far processes other past).events n ≡ Some request) (sym numbered) next.next);
          by = subst (λ n. Makes n (made n past) event request) its (subst (λ n. Makes other n event request) (sym numbered) m);
          own_more = when (is_own node event) _ _ e;
          made_more = c.made_then same_node;
          ended_same = c.ended_same;
        }

  -- what the event makes, where it is the node's own and no end
  makes_one : (event : SourceEvent) → ((other : ℕ) (end : End) → event ≡ Over other end → ⊥)
      → Allowed processes past event → is_own node event ≡ true → Requests processes node past event
  makes_one (Do other number false place value) no_end a e =
      makes_request other number (Read place a.line) (Do other number false place value) a.is_next reads
      (record { is_its_own = refl; made_then = λ h. when (other == node) _ _ h; ended_same = refl }) e
  makes_one (Do other number true place value) no_end a e =
      makes_request other number (Write place value a.line) (Do other number true place value) a.is_next writes
      (record { is_its_own = refl; made_then = λ h. when (other == node) _ _ h; ended_same = refl }) e
  makes_one (Issue other number) no_end a e =
      makes_request other number a.request (Issue other number) a.is_next (issues a.issued)
      (record { is_its_own = refl; made_then = λ h. when (other == node) _ _ h; ended_same = refl }) e
  makes_one (Effect other number cell wrote place value) no_end a e = absurd cc
  makes_one (Sync other number) no_end a e =
      makes_request other number (SyncRequest a.line) (Sync other number) a.is_next syncs
      (record { is_its_own = refl; made_then = λ h. when (other == node) _ _ h; ended_same = refl }) e
  makes_one (Arrive other number true) no_end a e =
      makes_request other number (AllStoreSync a.line) (Arrive other number true) a.is_next arrives_with_stores
      (record { is_its_own = refl; made_then = λ h. when (other == node) _ _ h; ended_same = refl }) e
  makes_one (Arrive other number false) no_end a e =
      makes_request other number (Barrier a.line) (Arrive other number false) a.is_next arrives
      (record { is_its_own = refl; made_then = λ h. when (other == node) _ _ h; ended_same = refl }) e
  makes_one (Release number) no_end a e = absurd cc
  makes_one (Over other end) no_end a e = absurd (no_end other end refl)

  -- an end, where it is the node's own, is allowed as its run has it then
  record Closes (end : End) : Type 0 where
    pub running : ended node past ≡ None
    pub all_made : made node past ≡ length (run_so_far processes node (Over node end ∷ past)).events
    pub over : (run_so_far processes node (Over node end ∷ past)).end ≡ Ends (Finishes end)

  closed : (end : End) → Closes end → Stands processes node past → Stands processes node (Over node end ∷ past)
  closed end c s = ended_now processes node past end c.running c.all_made c.over s

  -- other ends than that as waiting answer nothing
  plainly : (end : End) → run_so_far processes node (Over node end ∷ past) ≡ run_so_far processes node past
      → EndAllowed processes past node end → Closes end
  plainly end same a = record {
    running = a.goes_on.running;
    all_made = a.all_made ∙ ap (λ (r : RunOf Request Halt). length r.events) (sym same);
    over = ap (λ (r : RunOf Request Halt). r.end) same ∙ a.over;
  }

  closes : (end : End) → Allowed processes past (Over node end) → Closes end
  closes Ended a = plainly Ended refl a
  closes (Fault kind line) a = plainly (Fault kind line) refl a
  closes Cut a = plainly Cut refl a
  closes Waiting a = record { running = a.running; all_made = a.all_made; over = a.over }

  its_end : (other : ℕ) (end : End) → other ≡ node → Allowed processes past (Over other end)
      → Stands processes node past → Stands processes node (Over other end ∷ past)
  its_end other end e =
      subst (λ n. Allowed processes past (Over n end) → Stands processes node past → Stands processes node (Over n end ∷ past)) (sym e)
      (λ a s. closed end (closes end a) s)

  by_own : (event : SourceEvent) (b : Bool) → is_own node event ≡ b → Allowed processes past event
      → Stands processes node past → Stands processes node (event ∷ past)
  by_own event false e a s = keeps processes node past event e s
  by_own (Over other end) true e a s = its_end other end (eqb-true other node e) a s
  by_own (Do other number wrote place value) true e a s =
      requested processes node past _ (makes_one (Do other number wrote place value) (λ o end h. cc) a e) s
  by_own (Issue other number) true e a s = requested processes node past _ (makes_one (Issue other number) (λ o end h. cc) a e) s
  by_own (Effect other number cell wrote place value) true e a s = absurd cc
  by_own (Sync other number) true e a s = requested processes node past _ (makes_one (Sync other number) (λ o end h. cc) a e) s
  by_own (Arrive other number stores) true e a s =
      requested processes node past _ (makes_one (Arrive other number stores) (λ o end h. cc) a e) s
  by_own (Release number) true e a s = absurd cc

module _ (processes : Processes) (node : ℕ) where
  stands : (past : List SourceEvent) → Legal processes past → Stands processes node past
  unfolding Told
  stands [] legal = going (record { running = refl; rest = (run_so_far processes node []).events; told = refl; counted = refl })
  stands (event ∷ past) legal = by_own processes node past event (is_own node event) refl legal.0 (stands past legal.1)

  -- ---- the front

  front_so_far : (number : ℕ) (events : List SourceEvent) (requests rest : List Request) (end : RunEnd Halt)
      → Told node number events requests rest → IsFront node number events requests end
  unfolding Told
  front_so_far number [] requests rest end h = so_far
  front_so_far number (event ∷ events) [] rest end h = absurd h
  front_so_far number (event ∷ events) (request ∷ requests) rest end h =
      makes h.0 (front_so_far (number + 1) events requests rest end h.1)

  front_over : (number : ℕ) (events : List SourceEvent) (requests : List Request) (end : End)
      → Told node number events requests [] → IsFront node number (events ++ Over node end ∷ []) requests (Ends (Finishes end))
  unfolding Told
  front_over number [] requests end h =
      subst (λ rs. IsFront node number (Over node end ∷ []) rs (Ends (Finishes end))) (sym h) is_over
  front_over number (event ∷ events) [] end h = absurd h
  front_over number (event ∷ events) (request ∷ requests) end h =
      makes h.0 (front_over (number + 1) events requests end h.1)

  front_of : (past : List SourceEvent) → Stands processes node past
      → IsFront node 0 (own node past) (run_so_far processes node past).events (run_so_far processes node past).end
  front_of past (going g) = front_so_far 0 (own node past) _ g.rest _ g.told
  front_of past (gone end g) =
      subst (λ os. IsFront node 0 os (run_so_far processes node past).events (run_so_far processes node past).end) (sym g.behind)
      (subst (λ e. IsFront node 0 (g.before ++ Over node end ∷ []) (run_so_far processes node past).events e) (sym g.is_of_run.over)
      (front_over 0 g.before (run_so_far processes node past).events end g.told))

  over_of : (past : List SourceEvent) (end : End) → Stands processes node past → ended node past ≡ Some end
      → IsOver processes past node end
  over_of past end (going g) e = let a = g.running in absurd cc
  over_of past end (gone other g) e =
      let same : other ≡ end = (let a = g.was in cc) in
      subst (λ x. IsOver processes past node x) same g.is_of_run

pub events_are_a_front : EventsAreAFront
events_are_a_front processes past node legal = front_of processes node past (stands processes node past legal)

pub end_is_of_the_run : EndIsOfTheRun
end_is_of_the_run processes past node end legal e = over_of processes node past end (stands processes node past legal) e

-- ---- nodes and releases

pub events_are_numbered : EventsAreNumbered
events_are_numbered processes [] legal = tt
events_are_numbered processes (Do node number false place value ∷ past) legal =
    (legal.0.is_next.goes_on.node_within, events_are_numbered processes past legal.1)
events_are_numbered processes (Do node number true place value ∷ past) legal =
    (legal.0.is_next.goes_on.node_within, events_are_numbered processes past legal.1)
events_are_numbered processes (Issue node number ∷ past) legal =
    (legal.0.is_next.goes_on.node_within, events_are_numbered processes past legal.1)
events_are_numbered processes (Effect node number cell wrote place value ∷ past) legal =
    (legal.0.node_within, events_are_numbered processes past legal.1)
events_are_numbered processes (Sync node number ∷ past) legal =
    (legal.0.is_next.goes_on.node_within, events_are_numbered processes past legal.1)
events_are_numbered processes (Arrive node number stores ∷ past) legal =
    (legal.0.is_next.goes_on.node_within, events_are_numbered processes past legal.1)
events_are_numbered processes (Release number ∷ past) legal = (legal.0.numbered, events_are_numbered processes past legal.1)
events_are_numbered processes (Over node Waiting ∷ past) legal =
    (legal.0.node_within, events_are_numbered processes past legal.1)
events_are_numbered processes (Over node Ended ∷ past) legal =
    (legal.0.goes_on.node_within, events_are_numbered processes past legal.1)
events_are_numbered processes (Over node (Fault kind line) ∷ past) legal =
    (legal.0.goes_on.node_within, events_are_numbered processes past legal.1)
events_are_numbered processes (Over node Cut ∷ past) legal =
    (legal.0.goes_on.node_within, events_are_numbered processes past legal.1)
