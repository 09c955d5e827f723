-- What sound code keeps, of all states that come of a state by so many instructions, where the reads have the values
-- of an
-- oracle: it is kept by each step of the code beside what its source does.
use Rattle.std.proofs.Common.{◌≡◌, ℕ, zero, suc, List, [], ◌∷◌, ◌++◌, true, refl, subst}
use Rattle.resumption.specs.Resumption.{Asks, Makes}
use Rattle.sc_base.specs.declared.value.Place.{Place}
use Rattle.sc_base.specs.declared.value.Value.{Value}
use Rattle.sc_isa.specs.declared.access.Access.{Access}
use Rattle.sc_isa.specs.declared.access.Access.TheVariants as access
use Rattle.sc_isa.specs.declared.access.Track.TheVariants as tracks
use Rattle.sc_isa.specs.Fitting.{fits, fits_all}
use Rattle.sc_isa.specs.State.{State, reads_on, landed}
use Rattle.sc_isa.specs.Moves.{After, GoesOn, Ends, Sticks, Move, Comes, Issues, Waits, Meets, Says}
use Rattle.sc_isa.specs.Table.{step_of}
use Rattle.sc_isa.specs.Sound.{IsPlaced}
use Rattle.sc_meaning.specs.declared.request.Request.{Request}
use Rattle.sc_meaning.specs.declared.request.Request.TheVariants as request
use Rattle.sc_meaning.specs.Asking.{PointedDoing, Requested, Answer, Shown, Landed, Passed, fits_read, fits_sync, fits_barrier}
use Rattle.sc_meaning.specs.Steps.{barrier_request, unless_broken}
use Rattle.sc_meaning.specs.Meaning.{pass}
use Rattle.emit_laws.proofs.Parts.{Setup}
use Rattle.emit_laws.proofs.Ghosts.{Token, without}
use Rattle.emit_laws.proofs.Masks.{landing}
use Rattle.emit_laws.proofs.Standing.{Now, flown_on, made_on, synced_on, IsWrite, write, put, send, copy, Motive}
use Rattle.code_soundness.proofs.Lawfully.{Lawful, names_fitting, all_names, lawful_pass, lawful_made, made_lawful, asked_lawful, lawful_asked, lawful_said, never_breaks}

-- how many accesses a node made, and which reads are in flight
pub record Been : Type 0 where
  pub accesses : ℕ
  pub flying : List Token

abbrev pub been : Now → Been
been h = record { accesses = h.accesses; flying = h.flying }

abbrev pub issued_by : Access → Been → Been
issued_by (access.Read place (tracks.Counter counter)) b = record {
  accesses = suc b.accesses;
  flying = b.flying ++ record { order = b.accesses; counter = counter; place = place } ∷ [];
}
issued_by _ b = record { accesses = suc b.accesses; flying = b.flying }

abbrev pub waited_by : (counter : ℕ) → Been → Been
waited_by counter b = record { accesses = b.accesses; flying = without counter b.flying }

module _ (c : Setup) (value : ℕ → Value) where
  -- the value of the node's access of this number fits, if it is a read
  abbrev pub FitsRead : Access → ℕ → Type 0
  FitsRead (access.Read place (tracks.Counter counter)) n = fits c.here.layout place (value n) ≡ true
  FitsRead _ n = Unit {0}

  abbrev pub SafeAfter : (Been → State → Type 0) → Been → After → Type 0
  SafeAfter go b (GoesOn s) = go b s
  SafeAfter go b (Ends end) = Unit {0}
  SafeAfter go b Sticks = ⊥

  -- the move is no stuck one, its access lies in the layout, and `go` holds behind it
  abbrev pub SafeMove : (go : Been → State → Type 0) → Been → Move → Type 0
  SafeMove go b (Comes after) = SafeAfter go b after
  SafeMove go b (Issues a after) = IsPlaced c.here.layout a
      × (FitsRead a b.accesses → SafeAfter go (issued_by a b) after)
  SafeMove go b (Waits counter s) =
      fits_all c.here.layout (reads_on counter s.flying) (landing value counter b.flying) ≡ true
      → go (waited_by counter b) (landed counter (landing value counter b.flying) s)
  SafeMove go b (Meets stores s) = go b s
  SafeMove go b (Says text s) = go b s

  -- it holds of the next so many instructions
  abbrev pub Safe : ℕ → Been → State → Type 0
  Safe zero b s = Unit {0}
  Safe (suc n) b s = SafeMove (Safe n) b (step_of c.code c.here.layout c.here.node s)

  one_more : (b : Been) (s : State) → ((n : ℕ) → SafeMove (Safe n) b (step_of c.code c.here.layout c.here.node s))
      → (n : ℕ) → Safe n b s
  one_more b s h zero = tt
  one_more b s h (suc n) = h n

  abbrev Law : PointedDoing → Type 0
  Law d = Lawful c.here.layout c.here.program d

  abbrev At_ : Now → State → PointedDoing → Type 0
  At_ h s d = Law d → (n : ℕ) → Safe n (been h) s

  abbrev By_ : Now → Move → PointedDoing → Type 0
  By_ h move d = Law d → (n : ℕ) → SafeMove (Safe n) (been h) move

  reads_by : (h : Now) (site line : ℕ) (place : Place) (after : After) (go : Answer → PointedDoing)
      → (fits c.here.layout place (value h.accesses) ≡ true
      → By_ (flown_on site place h) (Comes after) (go (Shown (value h.accesses))))
      → By_ h (Issues (access.Read place (tracks.Counter site)) after)
      (Asks (Requested (request.Read place line)) (fits_read c.here.layout place) go)
  reads_by h site line place after go by law n = (
    asked_lawful c.here.layout c.here.program (request.Read place line) (fits_read c.here.layout place) go law,
    λ fit. by fit
        (lawful_asked c.here.layout c.here.program (request.Read place line) (fits_read c.here.layout place) go
        (Shown (value h.accesses)) fit
        (names_fitting c.here.layout c.here.program place (value h.accesses) fit) law) n,
  )

  gets_by : (h : Now) (line : ℕ) (place : Place) (after : After) (d : PointedDoing)
      → By_ (flown_on 0 place h) (Comes after) d
      → By_ h (Issues (access.Read place (tracks.Counter 0)) after) (Makes (Requested (request.Get place line)) d)
  gets_by h line place after d by law n = (
    made_lawful c.here.layout c.here.program (request.Get place line) d law,
    λ fit. by (lawful_made c.here.layout c.here.program (request.Get place line) d law) n,
  )

  writes_by : (h : Now) (r : Request) (a : Access) (after : After) (d : PointedDoing) → IsWrite r a
      → By_ (made_on h) (Comes after) d
      → By_ h (Issues a after) (Makes (Requested r) d)
  writes_by h r a after d (write site one_way from) by law n =
      let is = made_lawful c.here.layout c.here.program r d law in
      ((is.0, is.1.fits), λ fit. by (lawful_made c.here.layout c.here.program r d law) n)
  writes_by h r a after d put by law n =
      let is = made_lawful c.here.layout c.here.program r d law in
      ((is.0, is.1.fits), λ fit. by (lawful_made c.here.layout c.here.program r d law) n)
  writes_by h r a after d send by law n =
      let is = made_lawful c.here.layout c.here.program r d law in
      ((is.0, is.1.fits), λ fit. by (lawful_made c.here.layout c.here.program r d law) n)
  writes_by h r a after d (copy site from) by law n =
      (made_lawful c.here.layout c.here.program r d law, λ fit. by (lawful_made c.here.layout c.here.program r d law) n)

  syncs_by : (h : Now) (line : ℕ) (places : List Place) (s : State) (go : Answer → PointedDoing)
      → reads_on 0 s.flying ≡ places
      → (fits_all c.here.layout places (landing value 0 h.flying) ≡ true
      → At_ (synced_on h) (landed 0 (landing value 0 h.flying) s) (go (Landed (landing value 0 h.flying))))
      → By_ h (Waits 0 s) (Asks (Requested (request.Sync line)) (fits_sync c.here.layout places) go)
  syncs_by h line places s go same at law n fit =
      let vs = landing value 0 h.flying in
      let right : fits_all c.here.layout places vs ≡ true = subst (λ ps. fits_all c.here.layout ps vs ≡ true) same
      fit in
      at right
      (lawful_asked c.here.layout c.here.program (request.Sync line) (fits_sync c.here.layout places) go
      (Landed vs) right
      (all_names c.here.layout c.here.program places vs right) law) n

  pub safely : Motive c value
  safely = record {
    At = At_;
    By = By_;
    goes = λ h s d e by law n. one_more (been h) s (by law) n;
    enters = λ h t s d e left goes full between by law n. one_more (been h) s
        (by (lawful_pass c.here.layout c.here.program t d law)) n;
    skips = λ h e t s d entered left goes empty waits goes' full between by law n.
        one_more (been h) s (by (lawful_pass c.here.layout c.here.program t d
        (lawful_pass c.here.layout c.here.program e (pass t d) law))) n;
    on = λ h s d at. at;
    ends = λ h end law n. tt;
    breaks = λ h move law n. absurd (never_breaks c.here.layout c.here.program law);
    reads = λ h site line place after go left own from fetch by. reads_by h site line place after go by;
    gets = λ h line place after d left own by. gets_by h line place after d by;
    writes = λ h r a after d left own is by. writes_by h r a after d is by;
    waits = λ h counter left s d is other fit at law n fit'. at law n;
    syncs = λ h line places s go left own same at. syncs_by h line places s go same at;
    meets = λ h stores line s d left own at law n.
        at (lawful_asked c.here.layout c.here.program (barrier_request stores line) fits_barrier
        (λ answer. unless_broken answer d) Passed refl tt law) n;
    says = λ h text s d at law n. at (lawful_said c.here.layout c.here.program text d law) n;
  }

  pub safe_at : (h : Now) (s : State) (d : PointedDoing) → safely.At h s d → Lawful c.here.layout c.here.program d
      → (n : ℕ) → Safe n (been h) s
  unfolding safely
  safe_at h s d at law n = at law n
