-- Code walks along the edges of the flow, waits as the plan says and asks at most once at a point, where accesses have values
-- that fit: what the runs with ghosts keep.
use Rattle.std.proofs.Common.{◌≡◌, ℕ, zero, suc, List, [], ◌∷◌, ◌++◌, Option, Some, None, Bool, true, false, refl, sym, ap, ◌∙◌, subst}
use Rattle.std.specs.List.{All}
use Rattle.std.proofs.lemmas.Bool.{and_parts}
use Rattle.std.proofs.lemmas.List.Elements.{All-nil, All-cons}
use Rattle.resumption.specs.Resumption.{Asks, Makes, Says, Stops}
use Rattle.sc_base.specs.declared.value.End.{End}
use Rattle.sc_base.specs.declared.value.Place.{Place}
use Rattle.sc_base.specs.declared.value.Value.{Value}
use Rattle.sc_layout.specs.Place.{IsPlace}
use Rattle.sc_isa.specs.declared.access.Access.{Access}
use Rattle.sc_isa.specs.declared.access.Access.TheVariants as access
use Rattle.sc_isa.specs.declared.access.Track.TheVariants.{Counter, Store, Covered}
use Rattle.sc_isa.specs.Fitting.{fits, fits_all}
use Rattle.sc_isa.specs.State.{State, reads_on, landed}
use Rattle.sc_isa.specs.Moves.{Move, After, Comes, Ends, Issues, Waits, Meets, Says as Tells}
use Rattle.sc_isa.specs.Run.{Issue, Wait, Arrive, Pass, Answer, Landed, Passed, Broken, fits_pass}
use Rattle.sc_isa.specs.Table.{step_of}
use Rattle.sc_meaning.specs.declared.request.Request.{Request}
use Rattle.sc_meaning.specs.Asking as source
use Rattle.sc_meaning.specs.Asking.{PointedDoing, Requested, Finishes, Breaks, fits_read, fits_sync, fits_barrier}
use Rattle.sc_meaning.specs.Steps.{barrier_request, unless_broken}
use Rattle.value_soundness.specs.Lawful.{NamesOnly}
use Rattle.value_soundness.proofs.Promises.{PromisesPointed, then_gets}
use Rattle.site_graph.specs.declared.plan.Plan.{Plan}
use Rattle.node_emit.specs.Spelled.{Piece}
use Rattle.node_emit.specs.Stands.{stands_at}
use Rattle.node_emit.specs.Walks.{others, own_after}
use Rattle.node_emit.specs.Pointed.{PointedAsking, Asked, Came, entered_at, marked, come_all, asked_by, passed_by, points_from}
use Rattle.emit_laws.proofs.Parts.{Setup}
use Rattle.emit_laws.proofs.Ghosts.{without}
use Rattle.emit_laws.proofs.Masks.{landing}
use Rattle.emit_laws.proofs.Standing.{Now, flown_on, made_on, asked_on, synced_on, waited_on, IsWrite, write, put, send, copy, Motive}

-- the wait is the next one of the point, or its own
abbrev pub WaitNext : List ℕ → Bool → ℕ → Type 0
WaitNext [] own counter = (own ≡ true) × (counter ≡ 0)
WaitNext (x ∷ xs) own counter = counter ≡ x

abbrev pub after_on : ℕ → Now → Now
after_on counter h = record { at = h.at; left = others h.left; own = own_after h.left h.own; accesses = h.accesses; flying = without counter h.flying }

abbrev pub come_on : ℕ → List ℕ → Now → Now
come_on u waits h = record { at = u; left = waits; own = true; accesses = h.accesses; flying = h.flying }

abbrev pub made_by : Access → Now → Now
made_by (access.Read place (Counter counter)) h = flown_on counter place h
made_by _ h = made_on h

module _ (c : Setup) where
  abbrev pub IsIn : Access → Type 0
  IsIn (access.Read place (Counter counter)) = IsPlace c.here.layout place
  IsIn (access.Read place Store) = ⊥
  IsIn (access.Read place Covered) = ⊥
  IsIn _ = Unit {0}

  -- where the access reads, its value fits
  abbrev pub FitsAccess : (ℕ → Value) → Now → Access → Type 0
  FitsAccess value h (access.Read place (Counter counter)) = fits c.here.layout place (value h.accesses) ≡ true
  FitsAccess value h _ = Unit {0}

  -- the walk where accesses have these values; it goes on where they fit
  unfoldable pub Under : (ℕ → Value) → Now → PointedAsking → Type 0
  Under value h (Makes (Came u) rest) = (h.left ≡ []) × c.Goes h.at u × Under value (come_on u (c.waits u) h) rest
  Under value h (Makes (Asked (Issue a)) rest) =
      (h.left ≡ []) × (h.own ≡ true) × IsIn a × (FitsAccess value h a → Under value (made_by a h) rest)
  Under value h (Makes (Asked (Arrive stores)) rest) = (h.left ≡ []) × (h.own ≡ true) × Under value (asked_on h) rest
  Under value h (Asks (Asked (Wait counter)) fits go) =
      WaitNext h.left h.own counter
      × (fits (Landed (landing value counter h.flying)) ≡ true → Under value (after_on counter h) (go (Landed (landing value counter h.flying))))
  Under value h (Asks (Asked Pass) fits go) = (answer : _) → fits answer ≡ true → Under value h (go answer)
  Under value h (Says text rest) = Under value h rest
  Under value h (Stops halt) = Unit {0}
  Under value h _ = ⊥

  module _ (plan : Plan) (pieces : List Piece) (stands : (pc : ℕ) → c.stands pc ≡ stands_at plan pieces pc) (exposed : List ℕ)
      (names : (place : Place) (v : Value) → fits c.here.layout place v ≡ true → NamesOnly exposed v) (value : ℕ → Value) where
    abbrev pub from_state : ℕ → ℕ → State → PointedAsking
    from_state many now s = points_from c.code c.here.layout plan pieces c.between c.here.node many now s

    abbrev pub from_move : ℕ → ℕ → Move → PointedAsking
    from_move many now move = asked_by c.here.layout (from_state many now) move

    abbrev pub At_ : Now → State → PointedDoing → Type 0
    At_ h s d = (gets : List Place) → PromisesPointed c.here.layout exposed gets d → (many : ℕ) → Under value h (from_state many h.at s)

    abbrev pub By_ : Now → Move → PointedDoing → Type 0
    By_ h move d = (gets : List Place) → PromisesPointed c.here.layout exposed gets d → (many : ℕ) → Under value h (from_move many h.at move)

    names_all : (places : List Place) (vs : List Value) → fits_all c.here.layout places vs ≡ true → All (NamesOnly exposed) vs
    names_all [] [] e = All-nil (NamesOnly exposed)
    names_all [] (v ∷ vs) e = absurd (cc)
    names_all (p ∷ ps) [] e = absurd (cc)
    names_all (p ∷ ps) (v ∷ vs) e =
        let h = and_parts (fits c.here.layout p v) (fits_all c.here.layout ps vs) e in
        All-cons (NamesOnly exposed) v vs (names p v h.0) (names_all ps vs h.1)

    marked_by : (h : Now) (s : State) (o : Option ℕ) → entered_at (c.stands s.frame.at) ≡ o
        → ((many : ℕ) → Under value h (marked c.between h.at o (λ u. asked_by c.here.layout (from_state many u) (step_of c.code c.here.layout c.here.node s))))
        → (many : ℕ) → Under value h (from_state many h.at s)
    unfolding Under
    marked_by h s o e next zero = tt
    marked_by h s o e next (suc many) =
        subst (λ o. Under value h (marked c.between h.at o (λ u. asked_by c.here.layout (from_state many u) (step_of c.code c.here.layout c.here.node s))))
        (sym (ap entered_at (sym (stands s.frame.at)) ∙ e)) (next many)

    enters_ : (h : Now) (t : ℕ) (s : State) → entered_at (c.stands s.frame.at) ≡ Some t → h.left ≡ [] → c.Goes h.at t → c.between h.at t ≡ []
        → ((many : ℕ) → Under value (come_on t (c.waits t) h) (from_move many t (step_of c.code c.here.layout c.here.node s)))
        → (many : ℕ) → Under value h (from_state many h.at s)
    unfolding Under
    enters_ h t s first left goes between next =
        marked_by h s (Some t) first (λ many.
        subst (λ ts. Under value h (come_all (ts ++ t ∷ []) (from_move many t (step_of c.code c.here.layout c.here.node s)))) (sym between) (left, goes, next many))

    skips_ : (h : Now) (e t : ℕ) (s : State) → entered_at (c.stands s.frame.at) ≡ Some t → h.left ≡ [] → c.Goes h.at e → c.waits e ≡ [] → c.Goes e t
        → c.between h.at t ≡ e ∷ []
        → ((many : ℕ) → Under value (come_on t (c.waits t) h) (from_move many t (step_of c.code c.here.layout c.here.node s)))
        → (many : ℕ) → Under value h (from_state many h.at s)
    unfolding Under
    skips_ h e t s first left goes none on between next =
        marked_by h s (Some t) first (λ many.
        subst (λ ts. Under value h (come_all (ts ++ t ∷ []) (from_move many t (step_of c.code c.here.layout c.here.node s)))) (sym between) (left, goes, (none, on, next many)))

    reads_ : (h : Now) (counter line : ℕ) (place : Place) (after : After) → h.left ≡ [] → h.own ≡ true → IsPlace c.here.layout place → (many : ℕ)
        → (fits c.here.layout place (value h.accesses) ≡ true → Under value (flown_on counter place h) (from_move many h.at (Comes after)))
        → Under value h (from_move many h.at (Issues (access.Read place (Counter counter)) after))
    unfolding Under
    reads_ h counter line place after left own placed many next = (left, own, placed, next)

    writes_ : (h : Now) (r : Request) (a : Access) (after : After) → h.left ≡ [] → h.own ≡ true → IsWrite r a → (many : ℕ)
        → Under value (made_on h) (from_move many h.at (Comes after)) → Under value h (from_move many h.at (Issues a after))
    unfolding Under
    writes_ h r a after left own (write site one_way pos) many next = (left, own, tt, λ f. next)
    writes_ h r a after left own put many next = (left, own, tt, λ f. next)
    writes_ h r a after left own send many next = (left, own, tt, λ f. next)
    writes_ h r a after left own (copy site pos) many next = (left, own, tt, λ f. next)

    same_request : (r : Request) (a : Access) → IsWrite r a → (gets : List Place) → then_gets gets r ≡ gets
    same_request r a (write site one_way pos) gets = refl
    same_request r a put gets = refl
    same_request r a send gets = refl
    same_request r a (copy site pos) gets = refl

    waits_ : (h : Now) (counter : ℕ) (left : List ℕ) (s : State) → h.left ≡ counter ∷ left → (many : ℕ)
        → Under value (waited_on counter left h) (from_state many h.at (landed counter (landing value counter h.flying) s))
        → Under value h (from_move many h.at (Waits counter s))
    unfolding Under
    waits_ h counter left s e many next =
        let N : List ℕ → Now = λ l. record { at = h.at; left = others l; own = own_after l h.own; accesses = h.accesses; flying = without counter h.flying } in (
          subst (λ l. WaitNext l h.own counter) (sym e) refl,
          λ fit. subst (λ n. Under value n (from_state many h.at (landed counter (landing value counter h.flying) s))) (sym (ap N e)) next,
        )

    syncs_ : (h : Now) (places : List Place) (s : State) → h.left ≡ [] → h.own ≡ true → reads_on 0 s.flying ≡ places → (many : ℕ)
        → (fits_all c.here.layout places (landing value 0 h.flying) ≡ true
        → Under value (synced_on h) (from_state many h.at (landed 0 (landing value 0 h.flying) s)))
        → Under value h (from_move many h.at (Waits 0 s))
    unfolding Under
    syncs_ h places s left own same many next =
        let N : List ℕ → Now = λ l. record { at = h.at; left = l; own = false; accesses = h.accesses; flying = without 0 h.flying } in
        let M : List ℕ → Now = λ l. record { at = h.at; left = others l; own = own_after l h.own; accesses = h.accesses; flying = without 0 h.flying } in
        let e : synced_on h ≡ after_on 0 h = ap N left ∙ sym (ap M left) in (
          subst (λ l. WaitNext l h.own 0) (sym left) (own, refl),
          λ fit. subst (λ n. Under value n (from_state many h.at (landed 0 (landing value 0 h.flying) s))) e
              (next (ap (λ ps. fits_all c.here.layout ps (landing value 0 h.flying)) (sym same) ∙ fit)),
        )

    meets_ : (h : Now) (stores : Bool) (s : State) → h.left ≡ [] → h.own ≡ true → (many : ℕ) → Under value (asked_on h) (from_state many h.at s)
        → Under value h (from_move many h.at (Meets stores s))
    unfolding Under
    meets_ h stores s left own many next = (left, own, by_answer)
      where
        by_answer : (answer : Answer) → fits_pass answer ≡ true → Under value (asked_on h) (passed_by answer (from_state many h.at s))
        by_answer (Landed vs) e = absurd (cc)
        by_answer Passed e = next
        by_answer Broken e = tt

    barrier_next : (stores : Bool) (line : ℕ) (d : PointedDoing) (gets : List Place)
        → PromisesPointed c.here.layout exposed gets (Asks (Requested (barrier_request stores line)) fits_barrier (λ answer. unless_broken answer d))
        → PromisesPointed c.here.layout exposed gets d
    barrier_next true line d gets pr = pr.1 source.Passed refl tt
    barrier_next false line d gets pr = pr.1 source.Passed refl tt

    stops_ : (h : Now) (end : End) (many : ℕ) → Under value h (from_move many h.at (Comes (Ends end)))
    unfolding Under
    stops_ h end many = tt

    says_ : (h : Now) (text : List ℕ) (s : State) (many : ℕ) → Under value h (from_state many h.at s) → Under value h (from_move many h.at (Tells text s))
    unfolding Under
    says_ h text s many u = u

    pub walks_on : Motive c value
    walks_on = record {
      At = At_;
      By = By_;
      goes = λ h s d none by gets pr. marked_by h s None none (λ many. by gets pr many);
      enters = λ h t s d first left goes full between by gets pr. enters_ h t s first left goes between (λ many. by gets pr many);
      skips = λ h e t s d first left goes empty none on full between by gets pr. skips_ h e t s first left goes none on between (λ many. by gets pr many);
      on = λ h s d at_ gets pr many. at_ gets pr many;
      ends = λ h end gets pr many. stops_ h end many;
      breaks = λ h move gets pr. absurd pr;
      reads = λ h site line place after go left own pos fetch next gets pr many.
          reads_ h site line place after left own pr.0.lawful many
          (λ fit. next fit gets (pr.1 (source.Shown (value h.accesses)) fit (names place (value h.accesses) fit)) many);
      gets = λ h line place after d left own next gets pr many.
          reads_ h 0 line place after left own pr.0.lawful many (λ fit. next (gets ++ place ∷ []) pr.1 many);
      writes = λ h r a after d left own w next gets pr many.
          writes_ h r a after left own w many
          (next gets (subst (λ g. PromisesPointed c.here.layout exposed g d) (same_request r a w gets) pr.1) many);
      waits = λ h counter left s d e z fit next gets pr many. waits_ h counter left s e many (next gets pr many);
      syncs = λ h line places s go left own same next gets pr many.
          syncs_ h places s left own same many
          (λ fit. next fit [] (pr.1 (source.Landed (landing value 0 h.flying)) fit (names_all places (landing value 0 h.flying) fit)) many);
      meets = λ h stores line s d left own next gets pr many. meets_ h stores s left own many (next gets (barrier_next stores line d gets pr) many);
      says = λ h text s d at_ gets pr many. says_ h text s many (at_ gets pr many);
    }

    -- what it says of a state
    pub under_at : (h : Now) (s : State) (d : PointedDoing) → walks_on.At h s d → At_ h s d
    unfolding walks_on
    under_at h s d at_ = at_
