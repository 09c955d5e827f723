-- The answers that a source is told are those to its requests, and those to the asks of its code.
use Rattle.std.proofs.Common.{◌≡◌, ◌≢◌, ℕ, suc, ◌==◌, List, [], ◌∷◌, ◌++◌, map, Some, None, Bool, true, false, if◌then◌else◌, not, refl, sym, ap, ◌∙◌, subst}
use Rattle.std.specs.List.{filter_map, cons_option}
use Rattle.resumption.specs.Resumption.{Asks, Makes, Says, Stops, Short, after_event}
use Rattle.sc_base.specs.declared.value.Place.{Place}
use Rattle.sc_base.specs.declared.value.Value.{Value}
use Rattle.sc_isa.specs.declared.access.Access.{Access}
use Rattle.sc_isa.specs.declared.access.Access.TheVariants as access
use Rattle.sc_isa.specs.declared.access.Track.{Track}
use Rattle.sc_isa.specs.declared.access.Track.TheVariants.{Counter, Store, Covered}
use Rattle.sc_isa.specs.Run.{Ask, Issue, Wait, Arrive, Pass}
use Rattle.sc_meaning.specs.declared.request.Request.{Request}
use Rattle.sc_meaning.specs.declared.request.Request.TheVariants as request
use Rattle.sc_meaning.specs.Asking as source
use Rattle.sc_meaning.specs.History.{barrier_of}
use Rattle.sc_meaning.specs.Asking.{PointedDoing, Requested, Came, Finishes, Breaks}
use Rattle.sc_meaning.specs.OfAccess.{is_blocking, unlined, written_as}
use Rattle.node_emit.specs.Oracles.{Oracle, Story, requests, nothing_more, Flying, Progress, issued, waited, flying_by, Told, told_after, answer_by, meeting, tells}
use Rattle.node_emit.specs.Forgotten.{answers_told}
use Rattle.forgotten_marks.specs.Played.{request_shown, request_asked}
use Rattle.forgotten_marks.proofs.Well.{Well, Answers, IsMade, gets_after}
use Rattle.forgotten_marks.proofs.ToldRuns.{point_hidden}
use Rattle.code_requests.proofs.Oracled.{step_by, numbers_on, numbers_append, append_none, waited_numbers}

-- ---- by requests

abbrev pub answer_if : Oracle → Told → Request → List source.Answer
answer_if oracle t (request.Read place line) = answer_by oracle t (request.Read place line) ∷ []
answer_if oracle t (request.Sync line) = answer_by oracle t (request.Sync line) ∷ []
answer_if oracle t (request.Barrier line) = meeting oracle t ∷ []
answer_if oracle t (request.AllStoreSync line) = meeting oracle t ∷ []
answer_if oracle t _ = []

abbrev pub by_requests : Oracle → Told → List Request → List source.Answer
by_requests oracle t [] = []
by_requests oracle t (r ∷ rs) = answer_if oracle t r ++ by_requests oracle (told_after t r) rs

module _ (oracle : Oracle) (empty : ℕ → Bool) where
  abbrev pub shown_by : Told → PointedDoing → List Request
  shown_by t d = filter_map request_shown (tells oracle empty t d).events

  on_asked : (t : Told) (r : Request) (n : ℕ) (fits : source.Answer → Bool) (rest : List Request) → Answers n r fits
      → answer_by oracle t r ∷ by_requests oracle (told_after t r) rest ≡ by_requests oracle t (unlined r ∷ rest)
  on_asked t (request.Read place line) n fits rest a = refl
  on_asked t (request.Sync line) n fits rest a = refl
  on_asked t (request.Barrier line) n fits rest a = refl
  on_asked t (request.AllStoreSync line) n fits rest a = refl
  on_asked t (request.Write place v line) n fits rest a = absurd a
  on_asked t (request.Get place line) n fits rest a = absurd a
  on_asked t (request.Put place v line) n fits rest a = absurd a
  on_asked t (request.Store place v line) n fits rest a = absurd a
  on_asked t (request.Copy from to cells mode line) n fits rest a = absurd a

  on_made : (t : Told) (r : Request) (rest : List Request) → IsMade r → by_requests oracle (told_after t r) rest ≡ by_requests oracle t (unlined r ∷ rest)
  on_made t (request.Write place v line) rest m = refl
  on_made t (request.Get place line) rest m = refl
  on_made t (request.Put place v line) rest m = refl
  on_made t (request.Store place v line) rest m = refl
  on_made t (request.Copy from to cells mode line) rest m = refl
  on_made t (request.Read place line) rest m = absurd m
  on_made t (request.Sync line) rest m = absurd m
  on_made t (request.Barrier line) rest m = absurd m
  on_made t (request.AllStoreSync line) rest m = absurd m

  fitting_ : (b : Bool) (r : Request) (x : Story) → (after_event (requests (unlined r)) (if b then x else nothing_more)).end ≢ Short → b ≡ true
  fitting_ true r x n = refl
  fitting_ false r x n = absurd (n refl)

  -- a story that does not stop short is told by the answers to its requests
  pub told_answers : (d : PointedDoing) (n : ℕ) (t : Told) → Well n d → (tells oracle empty t d).end ≢ Short → answers_told oracle t d ≡ by_requests oracle t (shown_by t d)
  unfolding Well
  told_answers (Asks (Requested r) fits go) n t w long =
      let a = answer_by oracle t r in
      let fit = fitting_ (fits a) r (tells oracle empty (told_after t r) (go a)) long in
      let on = λ (b : Bool). after_event (requests (unlined r)) (if b then tells oracle empty (told_after t r) (go a) else nothing_more) in
      let ih = told_answers (go a) (gets_after n r) (told_after t r) (w.1 a) (subst (λ b. (on b).end ≢ Short) fit long) in
      ap (λ b. if b then a ∷ answers_told oracle (told_after t r) (go a) else []) fit
      ∙ ap (λ l. a ∷ l) ih
      ∙ on_asked t r n fits (shown_by (told_after t r) (go a)) w.0
      ∙ sym (ap (λ b. by_requests oracle t (filter_map request_shown (on b).events)) fit)
  told_answers (Asks (Came point) fits go) n t w long = absurd w
  told_answers (Makes (Requested r) rest) n t w long =
      told_answers rest (gets_after n r) (told_after t r) w.1 long ∙ on_made t r (shown_by (told_after t r) rest) w.0
  told_answers (Makes (Came point) rest) n t w long =
      let hidden = point_hidden empty point (tells oracle empty t rest) in
      let end_is = ap (λ s. s.end) hidden in
      told_answers rest n t w (λ e. long (end_is ∙ e)) ∙ sym (ap (λ s. by_requests oracle t s.events) hidden)
  told_answers (Says text rest) n t w long = told_answers rest n t w long
  told_answers (Stops (Finishes end)) n t w long = refl
  told_answers (Stops Breaks) n t w long = refl

-- ---- by asks

abbrev pub source_answers_to : Oracle → Progress → Ask → List source.Answer
source_answers_to oracle p (Issue (access.Read place track)) = if is_blocking track then source.Shown (oracle.value p.accesses) ∷ [] else []
source_answers_to oracle p (Issue a) = []
source_answers_to oracle p (Wait counter) = if counter == 0 then source.Landed (map oracle.value (numbers_on 0 p.flying)) ∷ [] else []
source_answers_to oracle p (Arrive stores) = []
source_answers_to oracle p Pass = (if oracle.passes p.barriers then source.Passed else source.Broken) ∷ []

abbrev pub by_asks : Oracle → Progress → List Ask → List source.Answer
by_asks oracle p [] = []
by_asks oracle p (ask ∷ asks) = source_answers_to oracle p ask ++ by_asks oracle (step_by p ask) asks

-- each arrival is followed by its pass, and no read is a store
abbrev pub IsPaired : List Ask → Type 0
IsPaired [] = Unit {0}
IsPaired (Issue (access.Read place Store) ∷ asks) = ⊥
IsPaired (Issue a ∷ asks) = IsPaired asks
IsPaired (Wait counter ∷ asks) = IsPaired asks
IsPaired (Arrive stores ∷ Pass ∷ asks) = IsPaired asks
IsPaired (Arrive stores ∷ asks) = ⊥
IsPaired (Pass ∷ asks) = ⊥

pub record Alike (t : Told) (p : Progress) : Type 0 where
  pub accesses : t.accesses ≡ p.accesses
  pub barriers : t.barriers ≡ p.barriers
  pub gets : t.gets ≡ numbers_on 0 p.flying

alike_one : (t : Told) (p : Progress) (a : Access) → flying_by p.accesses a ≡ [] → Alike t p → Alike (record { accesses = suc t.accesses; barriers = t.barriers; gets = t.gets }) (issued a p)
alike_one t p a none h = record {
  accesses = ap suc h.accesses;
  barriers = h.barriers;
  gets = h.gets ∙ sym (ap (numbers_on 0) (ap (λ l. p.flying ++ l) none ∙ append_none p.flying));
}

alike_other : (t : Told) (p : Progress) (track : Track) (place : Place) → Alike t p
    → Alike (record { accesses = suc t.accesses; barriers = t.barriers; gets = t.gets }) (issued (access.Read place Covered) p)
alike_other t p track place h = record {
  accesses = ap suc h.accesses;
  barriers = h.barriers;
  gets = h.gets ∙ sym (append_none (numbers_on 0 p.flying)) ∙ sym (numbers_append 0 p.flying (record { number = p.accesses; track = Covered } ∷ []));
}

alike_read : (t : Told) (p : Progress) (place : Place) (k : ℕ) (b : Bool) → (k == 0) ≡ b → Alike t p
    → Alike (record { accesses = suc t.accesses; barriers = t.barriers; gets = if b then t.gets ++ t.accesses ∷ [] else t.gets }) (issued (access.Read place (Counter k)) p)
alike_read t p place k b e h = record {
  accesses = ap suc h.accesses;
  barriers = h.barriers;
  gets = by_test b e ∙ sym (numbers_append 0 p.flying (record { number = p.accesses; track = Counter k } ∷ []));
}
  where
    by_test : (b : Bool) → (k == 0) ≡ b
        → (if b then t.gets ++ t.accesses ∷ [] else t.gets)
        ≡ numbers_on 0 p.flying ++ map (λ (f : Flying). f.number) (if k == 0 then record { number = p.accesses; track = Counter k } ∷ [] else [])
    by_test true e =
        ap (λ l. l ++ t.accesses ∷ []) h.gets ∙ ap (λ n. numbers_on 0 p.flying ++ n ∷ []) h.accesses
        ∙ sym (ap (λ b. numbers_on 0 p.flying ++ map (λ (f : Flying). f.number) (if b then record { number = p.accesses; track = Counter k } ∷ [] else [])) e)
    by_test false e =
        h.gets ∙ sym (append_none (numbers_on 0 p.flying))
        ∙ sym (ap (λ b. numbers_on 0 p.flying ++ map (λ (f : Flying). f.number) (if b then record { number = p.accesses; track = Counter k } ∷ [] else [])) e)

module _ (oracle : Oracle) where
  abbrev pub Same : Told → Progress → List Ask → Type 0
  Same t p asks = by_requests oracle t (filter_map request_asked asks) ≡ by_asks oracle p asks

  join : (xs ys vs ws : List source.Answer) → xs ≡ ys → vs ≡ ws → xs ++ vs ≡ ys ++ ws
  join xs ys vs ws e f = ap (λ l. l ++ vs) e ∙ ap (λ l. ys ++ l) f

  read_same : (place : Place) (k : ℕ) (b : Bool) (asks : List Ask) (t : Told) (p : Progress) → (k == 0) ≡ b → Alike t p
      → ((t : Told) → Alike t (issued (access.Read place (Counter k)) p) → Same t (issued (access.Read place (Counter k)) p) asks)
      → by_requests oracle t ((if not b then request.Read place 0 else request.Get place 0) ∷ filter_map request_asked asks)
      ≡ (if not b then source.Shown (oracle.value p.accesses) ∷ [] else []) ++ by_asks oracle (issued (access.Read place (Counter k)) p) asks
  read_same place k true asks t p e h next = next (told_after t (request.Get place 0)) (alike_read t p place k true e h)
  read_same place k false asks t p e h next =
      ap (λ n. source.Shown (oracle.value n) ∷ by_requests oracle (told_after t (request.Read place 0)) (filter_map request_asked asks)) h.accesses
      ∙ ap (λ l. source.Shown (oracle.value p.accesses) ∷ l) (next (told_after t (request.Read place 0)) (alike_read t p place k false e h))

  write_same : (place : Place) (v : Value) (track : Track) (rest : List Request) (t : Told)
      → by_requests oracle t (written_as track (request.Write place v 0) (request.Put place v 0) (request.Store place v 0) ∷ rest)
      ≡ by_requests oracle (record { accesses = suc t.accesses; barriers = t.barriers; gets = t.gets }) rest
  write_same place v (Counter k) rest t = go (k == 0)
    where
      go : (b : Bool) → by_requests oracle t ((if b then request.Put place v 0 else request.Write place v 0) ∷ rest)
          ≡ by_requests oracle (record { accesses = suc t.accesses; barriers = t.barriers; gets = t.gets }) rest
      go true = refl
      go false = refl
  write_same place v Store rest t = refl
  write_same place v Covered rest t = refl

  wait_same : (counter : ℕ) (b : Bool) (asks : List Ask) (t : Told) (p : Progress) → (counter == 0) ≡ b → Alike t p
      → ((t : Told) → Alike t (waited counter p) → Same t (waited counter p) asks)
      → by_requests oracle t (cons_option (if b then Some (request.Sync 0) else None) (filter_map request_asked asks))
      ≡ (if b then source.Landed (map oracle.value (numbers_on 0 p.flying)) ∷ [] else []) ++ by_asks oracle (waited counter p) asks
  wait_same counter true asks t p e h next =
      ap (λ ns. source.Landed (map oracle.value ns) ∷ by_requests oracle (told_after t (request.Sync 0)) (filter_map request_asked asks)) h.gets
      ∙ ap (λ l. source.Landed (map oracle.value (numbers_on 0 p.flying)) ∷ l)
      (next (told_after t (request.Sync 0)) (record {
        accesses = h.accesses;
        barriers = h.barriers;
        gets = sym (waited_numbers counter 0 p.flying (numbers_on 0 p.flying) refl ∙ ap (λ b. if b then [] else numbers_on 0 p.flying) e);
      }))
  wait_same counter false asks t p e h next =
      next t (record {
        accesses = h.accesses;
        barriers = h.barriers;
        gets = h.gets ∙ sym (waited_numbers counter 0 p.flying (numbers_on 0 p.flying) refl ∙ ap (λ b. if b then [] else numbers_on 0 p.flying) e);
      })

  meet_same : (stores : Bool) (rest : List Request) (t : Told)
      → by_requests oracle t (barrier_of stores 0 ∷ rest) ≡ meeting oracle t ∷ by_requests oracle (record { accesses = t.accesses; barriers = suc t.barriers; gets = t.gets }) rest
  meet_same true rest t = refl
  meet_same false rest t = refl

  -- the answers to the requests among asks are those to the asks
  pub paired_same : (asks : List Ask) (t : Told) (p : Progress) → IsPaired asks → Alike t p → Same t p asks
  paired_same [] t p pairs h = refl
  paired_same (Issue (access.Read place (Counter k)) ∷ asks) t p pairs h = read_same place k (k == 0) asks t p refl h (λ t h. paired_same asks t (issued (access.Read place (Counter k)) p) pairs h)
  paired_same (Issue (access.Read place Store) ∷ asks) t p pairs h = absurd pairs
  paired_same (Issue (access.Read place Covered) ∷ asks) t p pairs h =
      ap (λ n. source.Shown (oracle.value n) ∷ by_requests oracle (told_after t (request.Read place 0)) (filter_map request_asked asks)) h.accesses
      ∙ ap (λ l. source.Shown (oracle.value p.accesses) ∷ l)
      (paired_same asks (told_after t (request.Read place 0)) (issued (access.Read place Covered) p) pairs (alike_other t p Covered place h))
  paired_same (Issue (access.Write place v track) ∷ asks) t p pairs h =
      write_same place v track (filter_map request_asked asks) t
      ∙ paired_same asks (record { accesses = suc t.accesses; barriers = t.barriers; gets = t.gets }) (issued (access.Write place v track) p) pairs (alike_one t p (access.Write place v track) refl h)
  paired_same (Issue (access.Copy from to cells track) ∷ asks) t p pairs h =
      paired_same asks (record { accesses = suc t.accesses; barriers = t.barriers; gets = t.gets }) (issued (access.Copy from to cells track) p) pairs (alike_one t p (access.Copy from to cells track) refl h)
  paired_same (Wait counter ∷ asks) t p pairs h = wait_same counter (counter == 0) asks t p refl h (λ t h. paired_same asks t (waited counter p) pairs h)
  paired_same (Arrive stores ∷ Pass ∷ asks) t p pairs h =
      meet_same stores (filter_map request_asked asks) t
      ∙ join (meeting oracle t ∷ []) ((if oracle.passes p.barriers then source.Passed else source.Broken) ∷ []) _ _
      (ap (λ k. (if oracle.passes k then source.Passed else source.Broken) ∷ []) h.barriers)
      (paired_same asks (record { accesses = t.accesses; barriers = suc t.barriers; gets = t.gets }) (record p { barriers = suc p.barriers }) pairs
      (record { accesses = h.accesses; barriers = ap suc h.barriers; gets = h.gets }))
  paired_same (Arrive stores ∷ []) t p pairs h = absurd pairs
  paired_same (Arrive stores ∷ Issue a ∷ asks) t p pairs h = absurd pairs
  paired_same (Arrive stores ∷ Wait counter ∷ asks) t p pairs h = absurd pairs
  paired_same (Arrive stores ∷ Arrive again ∷ asks) t p pairs h = absurd pairs
  paired_same (Pass ∷ asks) t p pairs h = absurd pairs
