-- Code shows what its source does: this is kept by each step.
use Rattle.std.proofs.Common.{◌≡◌, ℕ, suc, ◌<◌, ◌==◌, List, [], ◌∷◌, ◌++◌, map, filter, not, Option, Some, None, Bool, true, false, if◌then◌else◌, refl, sym, ap, ◌∙◌, subst}
use Rattle.std.proofs.lemmas.List.{map-append}
use Rattle.std.proofs.lemmas.Bool.Decides.{Decides-eqb}
use Rattle.resumption.specs.Resumption.{Asks, Makes, after_event}
use Rattle.sc_base.specs.declared.value.CopyMode.{CopyMode}
use Rattle.sc_base.specs.declared.value.CopyMode.TheVariants.{Blocking, Split, OneWay}
use Rattle.sc_base.specs.declared.value.End.TheVariants.{Waiting}
use Rattle.sc_base.specs.declared.value.Place.{Place}
use Rattle.sc_base.specs.declared.value.Value.{Value}
use Rattle.sc_isa.specs.declared.access.Access.{Access}
use Rattle.sc_isa.specs.declared.access.Access.TheVariants as access
use Rattle.sc_isa.specs.declared.access.Track.TheVariants.{Counter}
use Rattle.sc_isa.specs.Fitting.{fits, fits_all}
use Rattle.sc_isa.specs.State.{State, reads_on, landed}
use Rattle.sc_isa.specs.Moves as moves
use Rattle.sc_isa.specs.Moves.{Move, After}
use Rattle.sc_isa.specs.Run.{Passed, Broken, fits_pass}
use Rattle.sc_isa.specs.Table.{step_of, copy_track}
use Rattle.sc_meaning.specs.declared.request.Request.{Request}
use Rattle.sc_meaning.specs.declared.request.Request.TheVariants as request
use Rattle.sc_meaning.specs.Asking as source
use Rattle.sc_meaning.specs.Asking.{PointedDoing}
use Rattle.sc_meaning.specs.OfAccess.{request_in}
use Rattle.sc_meaning.specs.Steps.{unless_broken, barrier_request}
use Rattle.meaning_laws.specs.StepTable.{track_of}
use Rattle.site_graph.specs.declared.plan.Plan.{Plan}
use Rattle.node_emit.specs.Law.{is_empty}
use Rattle.node_emit.specs.Spelled.{Piece}
use Rattle.node_emit.specs.Stands.{stands_at}
use Rattle.node_emit.specs.Pointed.{PointedAsking, entered_at, marked, come_all, asked_by, points_from, passed_by}
use Rattle.node_emit.specs.Oracles.{Oracle, requests, Story, nothing_more, over, Flying, Progress, is_on, issued, waited, plays, Told, tells}
use Rattle.emit_laws.proofs.Parts.{Setup}
use Rattle.emit_laws.proofs.Ghosts.{Token, without, on_counter}
use Rattle.emit_laws.proofs.Masks.{by_bool, landing}
use Rattle.emit_laws.proofs.Keeping.{append_nil, on_without, on_other, on_same, none_on, not_zero}
use Rattle.emit_laws.proofs.Standing.{Now, flown_on, made_on, asked_on, synced_on, waited_on, IsWrite, write, put, send, copy, Motive}
use Rattle.emit_laws.proofs.Stories.{Shows, shows_event, shows_text, shows_point, shows_end, shows_short, shows_later, shows_as}

abbrev fly : Token → Flying
fly t = record { number = t.order; track = Counter t.counter }

abbrev order_of : Token → ℕ
order_of t = t.order

on_flying : (value : ℕ → Value) (c : ℕ) (fl : List Token) → map (λ (f : Flying). value f.number) (filter (λ (f : Flying). is_on c f.track) (map fly fl)) ≡ landing value c fl
on_flying value c [] = refl
on_flying value c (t ∷ ts) = go (t.counter == c) (on_flying value c ts)
  where
    go : (b : Bool) → map (λ (f : Flying). value f.number) (filter (λ (f : Flying). is_on c f.track) (map fly ts)) ≡ landing value c ts
        → map (λ (f : Flying). value f.number) (if b then fly t ∷ filter (λ (f : Flying). is_on c f.track) (map fly ts) else filter (λ (f : Flying). is_on c f.track) (map fly ts))
        ≡ map (λ (t : Token). value t.order) (if b then t ∷ on_counter c ts else on_counter c ts)
    go true h = ap (λ l. value t.order ∷ l) h
    go false h = h

off_flying : (c : ℕ) (fl : List Token) → filter (λ (f : Flying). not (is_on c f.track)) (map fly fl) ≡ map fly (without c fl)
off_flying c [] = refl
off_flying c (t ∷ ts) = go (t.counter == c) (off_flying c ts)
  where
    go : (b : Bool) → filter (λ (f : Flying). not (is_on c f.track)) (map fly ts) ≡ map fly (without c ts)
        → (if not b then fly t ∷ filter (λ (f : Flying). not (is_on c f.track)) (map fly ts) else filter (λ (f : Flying). not (is_on c f.track)) (map fly ts))
        ≡ map fly (if b then without c ts else t ∷ without c ts)
    go true h = h
    go false h = ap (λ l. fly t ∷ l) h

not_on_zero : (n : ℕ) → (n ≡ 0 → ⊥) → (n == 0) ≡ false
not_on_zero n z = by_bool (n == 0) (λ e. absurd (z ((Decides-eqb n 0).0 e))) (λ e. e)

values_of : (value : ℕ → Value) (ts : List Token) → map value (map order_of ts) ≡ map (λ t. value t.order) ts
values_of value [] = refl
values_of value (t ∷ ts) = ap (λ l. value t.order ∷ l) (values_of value ts)

module _ (c : Setup) (plan : Plan) (pieces : List Piece) (stands : (pc : ℕ) → c.stands pc ≡ stands_at plan pieces pc) (oracle : Oracle) where
  abbrev empty : ℕ → Bool
  empty = is_empty c.here.program

  abbrev pub progress : ℕ → Now → Progress
  progress b h = record { accesses = h.accesses; barriers = b; flying = map fly h.flying }

  abbrev pub told : ℕ → Now → Told
  told b h = record { accesses = h.accesses; barriers = b; gets = map order_of (on_counter 0 h.flying) }

  abbrev pub from_state : ℕ → ℕ → State → PointedAsking
  from_state many now s = points_from c.code c.here.layout plan pieces c.between c.here.node many now s

  abbrev pub from_move : ℕ → ℕ → Move → PointedAsking
  from_move many now move = asked_by c.here.layout (from_state many now) move

  abbrev pub At_ : Now → State → PointedDoing → Type 0
  At_ h s d = (b : ℕ) → Shows (tells oracle empty (told b h) d) (λ many. plays oracle empty (progress b h) (from_state many h.at s))

  abbrev pub By_ : Now → Move → PointedDoing → Type 0
  By_ h move d = (b : ℕ) → Shows (tells oracle empty (told b h) d) (λ many. plays oracle empty (progress b h) (from_move many h.at move))

  -- one instruction, at which these points are marked
  marked_by : (h : Now) (s : State) (t : Option ℕ) (told_ : Story) (b : ℕ) → entered_at (c.stands s.frame.at) ≡ t
      → Shows told_ (λ many. plays oracle empty (progress b h)
      (marked c.between h.at t (λ u. asked_by c.here.layout (from_state many u) (step_of c.code c.here.layout c.here.node s))))
      → Shows told_ (λ many. plays oracle empty (progress b h) (from_state many h.at s))
  marked_by h s t told_ b e shows =
      shows_later told_ _ _ refl
      (λ many. ap (λ o. plays oracle empty (progress b h) (marked c.between h.at o (λ u. asked_by c.here.layout (from_state many u) (step_of c.code c.here.layout c.here.node s))))
      (ap entered_at (sym (stands s.frame.at)) ∙ e))
      shows

  retold : (t t' : Told) (d : PointedDoing) (played : ℕ → Story) → t ≡ t' → Shows (tells oracle empty t d) played → Shows (tells oracle empty t' d) played
  retold t t' d played e h = subst (λ t. Shows (tells oracle empty t d) played) e h

  fitting : (test : Bool) (told_ : Story) (played : ℕ → Story) → (test ≡ true → Shows told_ played) → Shows (if test then told_ else nothing_more) played
  fitting true told_ played h = h refl
  fitting false told_ played h = shows_short played

  read_told : (b site : ℕ) (p : Place) (h : Now) → (site ≡ 0 → ⊥) → told b (flown_on site p h) ≡ record { accesses = suc h.accesses; barriers = b; gets = map order_of (on_counter 0 h.flying) }
  read_told b site p h z =
      let T : List ℕ → Told = λ gets. record { accesses = suc h.accesses; barriers = b; gets = gets } in
      ap T (ap (map order_of) (on_other (record { order = h.accesses; counter = site; place = p }) h.flying z))

  get_told : (b : ℕ) (p : Place) (h : Now) → told b (flown_on 0 p h) ≡ record { accesses = suc h.accesses; barriers = b; gets = map order_of (on_counter 0 h.flying) ++ h.accesses ∷ [] }
  get_told b p h =
      let T : List ℕ → Told = λ gets. record { accesses = suc h.accesses; barriers = b; gets = gets } in
      let t : Token = record { order = h.accesses; counter = 0; place = p } in
      ap T (ap (map order_of) (on_same t h.flying refl) ∙ map-append order_of (on_counter 0 h.flying) (t ∷ []))

  flown_progress : (b counter : ℕ) (p : Place) (h : Now) → issued (access.Read p (Counter counter)) (progress b h) ≡ progress b (flown_on counter p h)
  flown_progress b counter p h =
      let P : List Flying → Progress = λ fl. record { accesses = suc h.accesses; barriers = b; flying = fl } in
      ap P (sym (map-append fly h.flying (record { order = h.accesses; counter = counter; place = p } ∷ [])))

  made_progress : (b : ℕ) (h : Now) → record { accesses = suc h.accesses; barriers = b; flying = map fly h.flying ++ [] } ≡ progress b (made_on h)
  made_progress b h =
      let P : List Flying → Progress = λ fl. record { accesses = suc h.accesses; barriers = b; flying = fl } in
      ap P (append_nil (map fly h.flying))

  blocking_read : (site : ℕ) (p : Place) → (site ≡ 0 → ⊥) → request_in (access.Read p (Counter site)) ≡ request.Read p 0
  blocking_read site p z = ap (λ b. if not b then request.Read p 0 else request.Get p 0) (not_on_zero site z)

  reads_ : (h : Now) (site line : ℕ) (place : Place) (after : After) (go : source.Answer → PointedDoing) → 0 < site
      → (fits c.here.layout place (oracle.value h.accesses) ≡ true → By_ (flown_on site place h) (moves.Comes after) (go (source.Shown (oracle.value h.accesses))))
      → By_ h (moves.Issues (access.Read place (Counter site)) after) (Asks (source.Requested (request.Read place line)) (source.fits_read c.here.layout place) go)
  reads_ h site line place after go pos next b =
      let z = not_zero site pos in
      shows_as _ _ _ _ refl
      (λ many. ap (λ r. after_event (requests r) (plays oracle empty (issued (access.Read place (Counter site)) (progress b h)) (from_move many h.at (moves.Comes after))))
      (blocking_read site place z)
      ∙ ap (λ p. after_event (requests (request.Read place 0)) (plays oracle empty p (from_move many h.at (moves.Comes after)))) (flown_progress b site place h))
      (shows_event (requests (request.Read place 0)) _ _
      (fitting (fits c.here.layout place (oracle.value h.accesses)) _ _ (λ fit.
      retold _ _ (go (source.Shown (oracle.value h.accesses))) _ (read_told b site place h z) (next fit b))))

  gets_ : (h : Now) (line : ℕ) (place : Place) (after : After) (d : PointedDoing) → By_ (flown_on 0 place h) (moves.Comes after) d
      → By_ h (moves.Issues (access.Read place (Counter 0)) after) (Makes (source.Requested (request.Get place line)) d)
  gets_ h line place after d next b =
      shows_as _ _ _ _ refl
      (λ many. ap (λ p. after_event (requests (request.Get place 0)) (plays oracle empty p (from_move many h.at (moves.Comes after)))) (flown_progress b 0 place h))
      (shows_event (requests (request.Get place 0)) _ _
      (retold _ _ d _ (get_told b place h) (next b)))

  abbrev made_plays : Now → After → ℕ → Progress → Story
  made_plays h after many p = plays oracle empty p (from_move many h.at (moves.Comes after))

  writes_ : (h : Now) (r : Request) (a : Access) (after : After) (d : PointedDoing) → IsWrite r a → By_ (made_on h) (moves.Comes after) d
      → By_ h (moves.Issues a after) (Makes (source.Requested r) d)
  writes_ h r a after d w next b = by_kind r a w
    where
      -- the request of the access is the source's
      same : (r' : Request) (given : Request) → given ≡ r' → Shows (after_event (requests r') (tells oracle empty (told b (made_on h)) d))
          (λ many. after_event (requests given) (made_plays h after many (record { accesses = suc h.accesses; barriers = b; flying = map fly h.flying ++ [] })))
      same r' given e =
          shows_as _ _ _ _ refl
          (λ many. ap (λ g. after_event (requests g) (made_plays h after many (record { accesses = suc h.accesses; barriers = b; flying = map fly h.flying ++ [] }))) e
          ∙ ap (λ p. after_event (requests r') (made_plays h after many p)) (made_progress b h))
          (shows_event (requests r') _ _ (next b))

      write_is : (one_way : Bool) (site : ℕ) (p : Place) (v : Value) → (site ≡ 0 → ⊥) → request_in (access.Write p v (track_of one_way site)) ≡ request.Write p v 0
      write_is true site p v z = refl
      write_is false site p v z = ap (λ b. if b then request.Put p v 0 else request.Write p v 0) (not_on_zero site z)

      copy_is : (mode : CopyMode) (site cells : ℕ) (from to : Place) → (site ≡ 0 → ⊥) → request_in (access.Copy from to cells (copy_track site mode)) ≡ request.Copy from to cells mode 0
      copy_is Blocking site cells from to z = ap (λ b. request.Copy from to cells (if b then Split else Blocking) 0) (not_on_zero site z)
      copy_is Split site cells from to z = refl
      copy_is OneWay site cells from to z = refl

      by_kind : (r : Request) (a : Access) → IsWrite r a → Shows (tells oracle empty (told b h) (Makes (source.Requested r) d))
          (λ many. plays oracle empty (progress b h) (from_move many h.at (moves.Issues a after)))
      by_kind _ _ (write site one_way {place = p} {v = v} pos) = same (request.Write p v 0) _ (write_is one_way site p v (not_zero site pos))
      by_kind _ _ (put {place = p} {v = v}) = same (request.Put p v 0) _ refl
      by_kind _ _ (send {place = p} {v = v}) = same (request.Store p v 0) _ refl
      by_kind _ _ (copy site {cells = cells} {from = from} {to = to} {mode = mode} pos) = same (request.Copy from to cells mode 0) _ (copy_is mode site cells from to (not_zero site pos))

  waited_progress : (b counter : ℕ) (left : List ℕ) (h : Now) → waited counter (progress b h) ≡ progress b (waited_on counter left h)
  waited_progress b counter left h =
      let P : List Flying → Progress = λ fl. record { accesses = h.accesses; barriers = b; flying = fl } in
      ap P (off_flying counter h.flying)

  waits_ : (h : Now) (counter : ℕ) (left : List ℕ) (s : State) (d : PointedDoing) → (counter ≡ 0 → ⊥)
      → fits_all c.here.layout (reads_on counter s.flying) (landing oracle.value counter h.flying) ≡ true
      → At_ (waited_on counter left h) (landed counter (landing oracle.value counter h.flying) s) d
      → By_ h (moves.Waits counter s) d
  waits_ h counter left s d z fit next b =
      let K : ℕ → List Value → Story = λ many vs.
      if fits_all c.here.layout (reads_on counter s.flying) vs
      then plays oracle empty (waited counter (progress b h)) (from_state many h.at (landed counter vs s)) else nothing_more in
      shows_as _ _ _ _ refl
      (λ many. ap (λ e. if e then after_event (requests (request.Sync 0)) (K many (map (λ (f : Flying). oracle.value f.number) (filter (λ (f : Flying). is_on counter f.track) (map fly h.flying)))) else K many (map (λ (f : Flying). oracle.value f.number) (filter (λ (f : Flying). is_on counter f.track) (map fly h.flying)))) (not_on_zero counter z)
      ∙ ap (K many) (on_flying oracle.value counter h.flying)
      ∙ ap (λ e. if e then plays oracle empty (waited counter (progress b h)) (from_state many h.at (landed counter (landing oracle.value counter h.flying) s)) else nothing_more) fit
      ∙ ap (λ p. plays oracle empty p (from_state many h.at (landed counter (landing oracle.value counter h.flying) s))) (waited_progress b counter left h))
      (retold _ _ d _ (let T : List ℕ → Told = λ gets. record { accesses = h.accesses; barriers = b; gets = gets } in ap T (ap (map order_of) (on_without counter h.flying z))) (next b))

  syncs_ : (h : Now) (line : ℕ) (places : List Place) (s : State) (go : source.Answer → PointedDoing) → reads_on 0 s.flying ≡ places
      → (fits_all c.here.layout places (landing oracle.value 0 h.flying) ≡ true
      → At_ (synced_on h) (landed 0 (landing oracle.value 0 h.flying) s) (go (source.Landed (landing oracle.value 0 h.flying))))
      → By_ h (moves.Waits 0 s) (Asks (source.Requested (request.Sync line)) (source.fits_sync c.here.layout places) go)
  syncs_ h line places s go same next b =
      let T : List ℕ → Told = λ gets. record { accesses = h.accesses; barriers = b; gets = gets } in
      let vs = landing oracle.value 0 h.flying in
      let K : ℕ → List Value → Story = λ many vs.
      if fits_all c.here.layout (reads_on 0 s.flying) vs
      then plays oracle empty (waited 0 (progress b h)) (from_state many h.at (landed 0 vs s)) else nothing_more in
      let S : List Value → Story = λ vs. if fits_all c.here.layout places vs then tells oracle empty (T []) (go (source.Landed vs)) else nothing_more in
      shows_event (requests (request.Sync 0)) _ _
      (shows_as _ _ _ _ (ap S (values_of oracle.value (on_counter 0 h.flying)))
      (λ many. ap (K many) (on_flying oracle.value 0 h.flying)
      ∙ ap (λ ps. if fits_all c.here.layout ps vs then plays oracle empty (waited 0 (progress b h)) (from_state many h.at (landed 0 vs s)) else nothing_more) same
      ∙ ap (λ p. if fits_all c.here.layout places vs then plays oracle empty p (from_state many h.at (landed 0 vs s)) else nothing_more) (waited_progress b 0 [] h))
      (both (fits_all c.here.layout places vs) _ _ (λ fit.
      retold _ _ (go (source.Landed vs)) _ (ap T (ap (map order_of) (none_on 0 h.flying))) (next fit b))))
    where
      both : (test : Bool) (told_ : Story) (played : ℕ → Story) → (test ≡ true → Shows told_ played) → Shows (if test then told_ else nothing_more) (λ many. if test then played many else nothing_more)
      both true told_ played h = h refl
      both false told_ played h = shows_short _

  meets_ : (h : Now) (stores : Bool) (line : ℕ) (s : State) (d : PointedDoing) → At_ (asked_on h) s d
      → By_ h (moves.Meets stores s) (Asks (source.Requested (barrier_request stores line)) source.fits_barrier (λ answer. unless_broken answer d))
  meets_ h true line s d next b = shows_event (requests (request.AllStoreSync 0)) _ _ (by_oracle (oracle.passes b))
    where
      by_oracle : (passes : Bool) → Shows
          (if source.fits_barrier (if passes then source.Passed else source.Broken) then tells oracle empty (told (suc b) h) (unless_broken (if passes then source.Passed else source.Broken) d) else nothing_more)
          (λ many. if fits_pass (if passes then Passed else Broken)
          then plays oracle empty (progress (suc b) h) (passed_by (if passes then Passed else Broken) (from_state many h.at s)) else nothing_more)
      by_oracle true = next (suc b)
      by_oracle false = shows_end (over Waiting)
  meets_ h false line s d next b = shows_event (requests (request.Barrier 0)) _ _ (by_oracle (oracle.passes b))
    where
      by_oracle : (passes : Bool) → Shows
          (if source.fits_barrier (if passes then source.Passed else source.Broken) then tells oracle empty (told (suc b) h) (unless_broken (if passes then source.Passed else source.Broken) d) else nothing_more)
          (λ many. if fits_pass (if passes then Passed else Broken)
          then plays oracle empty (progress (suc b) h) (passed_by (if passes then Passed else Broken) (from_state many h.at s)) else nothing_more)
      by_oracle true = next (suc b)
      by_oracle false = shows_end (over Waiting)

  pub stories : Motive c oracle.value
  stories = record {
    At = At_;
    By = By_;
    goes = λ h s d none by b. marked_by h s None _ b none (by b);
    enters = λ h t s d first left goes full between by b. marked_by h s (Some t) _ b first
        (shows_as _ _ _ _ refl
        (λ many. ap (λ ts. plays oracle empty (progress b h) (come_all (ts ++ t ∷ []) (from_move many t (step_of c.code c.here.layout c.here.node s)))) between)
        (shows_point empty t _ _ (by b)));
    skips = λ h e t s d first left goes empty_ none goes' full between by b. marked_by h s (Some t) _ b first
        (shows_as _ _ _ _ refl
        (λ many. ap (λ ts. plays oracle empty (progress b h) (come_all (ts ++ t ∷ []) (from_move many t (step_of c.code c.here.layout c.here.node s)))) between)
        (shows_point empty e _ _ (shows_point empty t _ _ (by b))));
    on = λ h s d at_ b. at_ b;
    ends = λ h end b. shows_end (over end);
    breaks = λ h move b. shows_short _;
    reads = λ h site line place after go left own pos fetch next b. reads_ h site line place after go pos next b;
    gets = λ h line place after d left own next b. gets_ h line place after d next b;
    writes = λ h r a after d left own w next b. writes_ h r a after d w next b;
    waits = λ h counter left s d e z fit next b. waits_ h counter left s d z fit next b;
    syncs = λ h line places s go left own same next b. syncs_ h line places s go same next b;
    meets = λ h stores line s d left own next b. meets_ h stores line s d next b;
    says = λ h text s d at_ b. shows_text text _ _ (at_ b);
  }

  -- what it says of a state
  pub shown_at : (h : Now) (s : State) (d : PointedDoing) → stories.At h s d
      → (b : ℕ) → Shows (tells oracle (is_empty c.here.program) (told b h) d) (λ many. plays oracle (is_empty c.here.program) (progress b h) (from_state many h.at s))
  unfolding stories
  shown_at h s d at_ b = at_ b
