-- What may be said of a node's states beside what its source does from there on; and what the plan and the flow give.
use Rattle.std.proofs.Common.{◌≡◌, ℕ, suc, ◌<◌, ◌≤◌, List, [], ◌∷◌, ◌++◌, Some, None, Bool, true, false}
use Rattle.resumption.specs.Resumption.{Asks, Makes, Says, Stops}
use Rattle.sc_base.specs.declared.value.CopyMode.{CopyMode}
use Rattle.sc_base.specs.declared.value.End.{End}
use Rattle.sc_base.specs.declared.value.Place.{Place}
use Rattle.sc_base.specs.declared.value.Value.{Value}
use Rattle.sc_isa.specs.declared.access.Access.{Access}
use Rattle.sc_isa.specs.declared.access.Access.TheVariants as access
use Rattle.sc_isa.specs.declared.access.Track.TheVariants.{Counter, Store}
use Rattle.sc_isa.specs.Fitting.{fits, fits_all}
use Rattle.sc_isa.specs.State.{State, reads_on, landed}
use Rattle.sc_isa.specs.Moves.{After, GoesOn, Ends, Move, Comes, Issues, Waits, Meets, Says as Tells}
use Rattle.sc_isa.specs.Table.{step_of, copy_track}
use Rattle.sc_meaning.specs.declared.request.Request.{Request}
use Rattle.sc_meaning.specs.declared.request.Request.TheVariants as request
use Rattle.sc_meaning.specs.Asking.{PointedDoing, Requested, Finishes, Breaks, Answer, Shown, Landed, fits_read, fits_sync, fits_barrier}
use Rattle.sc_meaning.specs.Steps.{barrier_request, unless_broken}
use Rattle.sc_meaning.specs.Meaning.{pass}
use Rattle.node_emit.specs.Law.{is_empty}
use Rattle.node_emit.specs.Pointed.{entered_at}
use Rattle.meaning_laws.specs.StepTable.{track_of}
use Rattle.emit_laws.proofs.Parts.{In, Setup}
use Rattle.emit_laws.proofs.Ghosts.{Token, without}
use Rattle.emit_laws.proofs.Masks.{landing}

-- Where a node is: the point whose run it entered last, the waits of it that are left, whether its own ask may still come, how
-- many accesses were made, and the reads and gets that have not landed.
pub record Now : Type 0 where
  pub at : ℕ
  pub left : List ℕ
  pub own : Bool
  pub accesses : ℕ
  pub flying : List Token

abbrev pub flown_on : (counter : ℕ) → Place → Now → Now
flown_on counter place h = record {
  at = h.at;
  left = h.left;
  own = false;
  accesses = suc h.accesses;
  flying = h.flying ++ record { order = h.accesses; counter = counter; place = place } ∷ [];
}

abbrev pub made_on : Now → Now
made_on h = record { at = h.at; left = h.left; own = false; accesses = suc h.accesses; flying = h.flying }

abbrev pub asked_on : Now → Now
asked_on h = record { at = h.at; left = h.left; own = false; accesses = h.accesses; flying = h.flying }

abbrev pub synced_on : Now → Now
synced_on h = record { at = h.at; left = h.left; own = false; accesses = h.accesses; flying = without 0 h.flying }

abbrev pub waited_on : ℕ → List ℕ → Now → Now
waited_on counter left h = record { at = h.at; left = left; own = h.own; accesses = h.accesses; flying = without counter h.flying }

-- a write, and how it is tracked
pub data IsWrite : Request → Access → Type 0 where
  write : (site : ℕ) (one_way : Bool) {line : ℕ} {place : Place} {v : Value} → 0 < site
      → IsWrite (request.Write place v line) (access.Write place v (track_of one_way site))
  put : {line : ℕ} {place : Place} {v : Value} → IsWrite (request.Put place v line) (access.Write place v (Counter 0))
  send : {line : ℕ} {place : Place} {v : Value} → IsWrite (request.Store place v line) (access.Write place v Store)
  copy : (site : ℕ) {line cells : ℕ} {from to : Place} {mode : CopyMode} → 0 < site
      → IsWrite (request.Copy from to cells mode line) (access.Copy from to cells (copy_track site mode))

-- What holds of states, and of moves, each beside what the source does. It is kept by each step of the code, where accesses have
-- these values.
pub record Motive (c : Setup) (value : ℕ → Value) : Type 1 where
  pub At : Now → State → PointedDoing → Type 0
  pub By : Now → Move → PointedDoing → Type 0
  -- an instruction that begins no run, and one that begins that of the point t
  pub goes : (h : Now) (s : State) (d : PointedDoing) → entered_at (c.stands s.frame.at) ≡ None
      → By h (step_of c.code c.here.layout c.here.node s) d → At h s d
  pub enters : (h : Now) (t : ℕ) (s : State) (d : PointedDoing) → entered_at (c.stands s.frame.at) ≡ Some t → h.left ≡ []
      → c.Goes h.at t → is_empty c.here.program t ≡ false → c.between h.at t ≡ []
      → By (record h { at = t; left = c.waits t; own = true }) (step_of c.code c.here.layout c.here.node s) d → At h s (pass t d)
  pub skips : (h : Now) (e t : ℕ) (s : State) (d : PointedDoing) → entered_at (c.stands s.frame.at) ≡ Some t → h.left ≡ []
      → c.Goes h.at e → is_empty c.here.program e ≡ true → c.waits e ≡ []
      → c.Goes e t → is_empty c.here.program t ≡ false → c.between h.at t ≡ e ∷ []
      → By (record h { at = t; left = c.waits t; own = true }) (step_of c.code c.here.layout c.here.node s) d
      → At h s (pass e (pass t d))
  pub on : (h : Now) (s : State) (d : PointedDoing) → At h s d → By h (Comes (GoesOn s)) d
  pub ends : (h : Now) (end : End) → By h (Comes (Ends end)) (Stops (Finishes end))
  -- values of a wrong kind
  pub breaks : (h : Now) (move : Move) → By h move (Stops Breaks)
  pub reads : (h : Now) (site line : ℕ) (place : Place) (after : After) (go : Answer → PointedDoing) → h.left ≡ [] → h.own ≡ true
      → 0 < site → c.Fetches h.at site
      → (fits c.here.layout place (value h.accesses) ≡ true → By (flown_on site place h) (Comes after) (go (Shown (value h.accesses))))
      → By h (Issues (access.Read place (Counter site)) after) (Asks (Requested (request.Read place line)) (fits_read c.here.layout place) go)
  pub gets : (h : Now) (line : ℕ) (place : Place) (after : After) (d : PointedDoing) → h.left ≡ [] → h.own ≡ true
      → By (flown_on 0 place h) (Comes after) d
      → By h (Issues (access.Read place (Counter 0)) after) (Makes (Requested (request.Get place line)) d)
  pub writes : (h : Now) (r : Request) (a : Access) (after : After) (d : PointedDoing) → h.left ≡ [] → h.own ≡ true → IsWrite r a
      → By (made_on h) (Comes after) d → By h (Issues a after) (Makes (Requested r) d)
  -- a wait of the plan, and a sync
  pub waits : (h : Now) (counter : ℕ) (left : List ℕ) (s : State) (d : PointedDoing) → h.left ≡ counter ∷ left → (counter ≡ 0 → ⊥)
      → fits_all c.here.layout (reads_on counter s.flying) (landing value counter h.flying) ≡ true
      → At (waited_on counter left h) (landed counter (landing value counter h.flying) s) d → By h (Waits counter s) d
  pub syncs : (h : Now) (line : ℕ) (places : List Place) (s : State) (go : Answer → PointedDoing) → h.left ≡ [] → h.own ≡ true
      → reads_on 0 s.flying ≡ places
      → (fits_all c.here.layout places (landing value 0 h.flying) ≡ true
      → At (synced_on h) (landed 0 (landing value 0 h.flying) s) (go (Landed (landing value 0 h.flying))))
      → By h (Waits 0 s) (Asks (Requested (request.Sync line)) (fits_sync c.here.layout places) go)
  pub meets : (h : Now) (stores : Bool) (line : ℕ) (s : State) (d : PointedDoing) → h.left ≡ [] → h.own ≡ true → At (asked_on h) s d
      → By h (Meets stores s) (Asks (Requested (barrier_request stores line)) fits_barrier (λ answer. unless_broken answer d))
  pub says : (h : Now) (text : List ℕ) (s : State) (d : PointedDoing) → At h s d → By h (Tells text s) (Says text d)

-- What the flow and the plan give. Open u a: a path leads from the read of the site a to the point u, and no point between uses
-- what was fetched or waits for it.
pub record Timely (c : Setup) : Type 1 where
  pub Open : ℕ → ℕ → Type 0
  pub opens : (t u a : ℕ) → c.Fetches t a → c.Goes t u → Open u a
  pub goes_on : (t u a : ℕ) → Open t a → (c.Demand t a → ⊥) → (In a (c.waits t) → ⊥) → c.Goes t u → Open u a
  -- where the point uses what was fetched, it waits for it
  pub waited : (t a : ℕ) → Open t a → c.Demand t a → In a (c.waits t)
  -- the plan waits for sites of the code
  pub counters : (t a : ℕ) → In a (c.waits t) → (0 < a) × (a ≤ c.code.sites)
  pub texts : c.code.texts ≡ c.here.program.texts
  -- between two runs at most one empty point is passed, and the code tells which
  pub direct : (p t : ℕ) → c.Goes p t → is_empty c.here.program t ≡ false → c.between p t ≡ []
  pub through : (p e t : ℕ) → c.Goes p e → is_empty c.here.program e ≡ true → c.Goes e t → is_empty c.here.program t ≡ false → c.between p t ≡ e ∷ []
  pub apart : (p e t : ℕ) → c.Goes p e → is_empty c.here.program e ≡ true → c.Goes e t → is_empty c.here.program t ≡ true → ⊥
