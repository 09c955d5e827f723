-- Runs of the code with ghosts: each operand has its value, also while it lands, and knows the read that it came from.
use Rattle.std.proofs.Common.{◌≡◌, ℕ, suc, ◌+◌, ◌-◌, ◌<◌, ◌≤◌, ◌==◌, List, [], ◌∷◌, ◌++◌, length, map, Option, Some, None, Bool, true, slice_get, slice_set, if◌then◌else◌}
use Rattle.std.specs.Prelude.{pos, replicate}
use Rattle.resumption.specs.Resumption.{Asks, Makes, Says, Stops}
use Rattle.sc_base.specs.declared.limits.TheConstants.{LIMITS}
use Rattle.sc_base.specs.declared.value.End.TheVariants.{Ended, Fault}
use Rattle.sc_base.specs.declared.value.FaultKind.{FaultKind}
use Rattle.sc_base.specs.declared.value.FaultKind.TheVariants.{Depth}
use Rattle.sc_base.specs.declared.value.Place.{Place}
use Rattle.sc_base.specs.declared.value.Value.{Value}
use Rattle.sc_base.specs.declared.value.Value.TheVariants.{Int}
use Rattle.sc_isa.specs.declared.code.FnRow.{FnRow}
use Rattle.sc_isa.specs.declared.op.Op.TheVariants as op
use Rattle.sc_isa.specs.Fitting.{fits, fits_all}
use Rattle.sc_isa.specs.Deeds.{makes, faults, stuck, uses, sets, reads, writes, calls, lets_go, ends, sticks, clears, prints, fills, gets, misses, puts, sends, copies, waits, meets}
use Rattle.sc_core.specs.declared.operation.Constant.{Constant}
use Rattle.sc_core.specs.declared.operation.Operation.{Operation}
use Rattle.sc_core.specs.declared.operation.Action.{Action}
use Rattle.sc_core.specs.Table.{made_of, done_of}
use Rattle.sc_meaning.specs.declared.request.Request.TheVariants as request
use Rattle.sc_meaning.specs.Asking.{PointedDoing, Requested, Finishes, Breaks, Answer, Shown, Landed, fits_read, fits_sync, fits_barrier}
use Rattle.sc_meaning.specs.Memory.{Slot, has, awaits, Spot, Memory, places}
use Rattle.sc_meaning.specs.Steps.{used, none_awaits, counted, decided, mode_of, barrier_request, unless_broken}
use Rattle.sc_meaning.specs.Meaning.{pass, constant_of}
use Rattle.meaning_laws.specs.StepTable.{arguments_of, arguments_of_action}
use Rattle.node_emit.specs.Runs.{constant_op, test_ops}
use Rattle.node_emit.specs.Law.{is_empty}
use Rattle.emit_laws.proofs.Parts.{Setup, PointAt, StepAt, ActAt, OutsideAt, JumpAt}

-- a read: its number among the node's accesses, its counter and its place
pub record Token : Type 0 where
  pub order : ℕ
  pub counter : ℕ
  pub place : Place

-- what an operand or a local has: a value, and the read that it came from; or, of a local, that it awaits the value of the get
-- with this number
pub data Thing : Type 0 where
  val : Value → Option Token → Thing
  awaited : (number : ℕ) → Thing

abbrev pub slot_of : Thing → Slot
slot_of (val v from) = has v
slot_of (awaited number) = awaits

abbrev pub plain : Value → Thing
plain v = val v None

-- a local before it is first set
abbrev pub unset : Thing
unset = val (Int (pos 0)) None

-- a function that called: where it goes on, and its operands, the top first
pub record Holder : Type 0 where
  pub pc : ℕ
  pub stack : List Thing

-- What changes as the code runs, beside the place and the operands: `at` is the point that was entered last, and `accesses` says
-- how many were made.
pub record World : Type 0 where
  pub cells : List (List Thing)
  pub getting : List Spot
  pub left : ℕ
  pub at : ℕ
  pub accesses : ℕ
  pub flying : List Token

abbrev pub slots : List (List Thing) → List (List Slot)
slots cells = map (map slot_of) cells

-- as the source has it
abbrev pub memory_of : World → Memory
memory_of w = record { frames = slots w.cells; getting = w.getting }

-- ---- frames

abbrev pub newest : List (List Thing) → List Thing
newest [] = []
newest (frame ∷ frames) = frame

abbrev pub older : List (List Thing) → List (List Thing)
older [] = []
older (frame ∷ frames) = frames

abbrev pub put_top : List (List Thing) → ℕ → Thing → List (List Thing)
put_top [] x v = []
put_top (frame ∷ frames) x v = slice_set frame x v ∷ frames

abbrev pub put_at : Spot → Value → List (List Thing) → List (List Thing)
put_at s v [] = []
put_at s v (frame ∷ frames) =
    if s.level == length frames then slice_set frame s.local (plain v) ∷ frames else frame ∷ put_at s v frames

abbrev pub put_all : List Spot → List Value → List (List Thing) → List (List Thing)
put_all (s ∷ ss) (v ∷ vs) frames = put_all ss vs (put_at s v frames)
put_all _ _ frames = frames

-- ---- reads

abbrev pub and_without : ℕ → Token → List Token → List Token
and_without c t ts = if t.counter == c then ts else t ∷ ts

abbrev pub without : ℕ → List Token → List Token
without c [] = []
without c (t ∷ ts) = and_without c t (without c ts)

abbrev pub without_all : List ℕ → List Token → List Token
without_all [] ts = ts
without_all (w ∷ ws) ts = without_all ws (without w ts)

abbrev pub and_on : ℕ → Token → List Token → List Token
and_on c t ts = if t.counter == c then t ∷ ts else ts

-- those on the counter, in order
abbrev pub on_counter : ℕ → List Token → List Token
on_counter c [] = []
on_counter c (t ∷ ts) = and_on c t (on_counter c ts)

-- ---- operands

-- a value with where it came from
pub record Worth : Type 0 where
  pub value : Value
  pub from : Option Token

abbrev pub thing : Worth → Thing
thing x = val x.value x.from

abbrev pub worths : List Worth → List Value
worths [] = []
worths (x ∷ xs) = x.value ∷ worths xs

abbrev pub things : List Worth → List Thing
things [] = []
things (x ∷ xs) = thing x ∷ things xs

-- put on the stack one after another
abbrev pub onto : {A : Type 0} → List A → List A → List A
onto [] stack = stack
onto (x ∷ xs) stack = onto xs (x ∷ stack)

-- ---- runs

-- Between two runs, or in the run of a point whose waits are done: of a step, an action, a test, a turn or a return.
pub data Stage : Type 0 where
  between : (pc : ℕ) → Stage
  stepping : Operation → (site line end : ℕ) → Stage
  acting : Action → (site line end : ℕ) → Stage
  testing : (of_pointer : Bool) → (target end : ℕ) → Stage
  turning : (end : ℕ) → Stage
  leaving : (line end : ℕ) → Stage

-- how many frames may stand above the first
abbrev pub limit : ℕ
limit = LIMITS.frames - 1

module _ (c : Setup) where
  -- the instructions of the stage lie here, behind the waits of the point
  abbrev pub StageAt : (t pc : ℕ) → Stage → Type 0
  StageAt t pc (between other) = ⊥
  StageAt t pc (stepping operation site line end) = StepAt c operation (arguments_of operation) t site pc line end
  StageAt t pc (acting action site line end) = ActAt c action (arguments_of_action action) t site pc line end
  StageAt t pc (testing of_pointer target end) = PointAt c t pc (test_ops of_pointer target) 0 end
  StageAt t pc (turning end) = PointAt c t pc (op.Turn ∷ []) 0 end
  StageAt t pc (leaving line end) = PointAt c t pc (op.Ret ∷ []) line end

  -- the point's waits are done
  abbrev pub entered : ℕ → World → World
  entered t w = record w { at = t; flying = without_all (c.waits t) w.flying }

  abbrev pub MayFrom : ℕ → Option Token → Type 0
  MayFrom t None = Unit {0}
  MayFrom t (Some k) = c.Demand t k.counter

  -- an operand that the point uses, where it came from a read
  abbrev pub May : ℕ → Thing → Type 0
  May t (val v from) = MayFrom t from
  May t (awaited number) = Unit {0}

  abbrev pub AllMay : ℕ → List Worth → Type 0
  AllMay t [] = Unit {0}
  AllMay t (x ∷ xs) = MayFrom t x.from × AllMay t xs

  -- on the stack lie these values, as many as the step of the point takes
  pub record Ready (n t : ℕ) (stack : List Thing) (xs : List Worth) (rest : List Thing) : Type 0 where
    pub is : stack ≡ onto (things xs) rest
    pub count : length xs ≡ n
    pub may : AllMay t xs

  pub record Local (w : World) (x : ℕ) (cell : Thing) : Type 0 where
    pub is : slice_get (newest w.cells) x ≡ Some cell
    pub may : May w.at cell

  abbrev pub token : World → (counter : ℕ) → Place → Token
  token w counter p = record { order = w.accesses; counter = counter; place = p }

  abbrev pub flown : World → (counter : ℕ) → Place → World
  flown w counter p = record w { accesses = suc w.accesses; flying = w.flying ++ token w counter p ∷ [] }

  -- an access that reads nothing
  abbrev pub one_more : World → World
  one_more w = record w { accesses = suc w.accesses }

  abbrev pub into : World → ℕ → Thing → World
  into w x v = record w { cells = put_top w.cells x v }

  abbrev pub with_get : World → ℕ → Place → World
  with_get w x p = record {
    cells = put_top w.cells x (awaited (length w.getting));
    getting = w.getting ++ record { level = length (older w.cells); local = x; place = p } ∷ [];
    left = w.left;
    at = w.at;
    accesses = suc w.accesses;
    flying = w.flying ++ token w 0 p ∷ [];
  }

  abbrev pub called_with : List Value → (others : ℕ) → List Thing
  called_with vs others = map plain vs ++ replicate others unset

  -- value: of the access with each number
  module _ (value : ℕ → Value) where
    abbrev pub fetched : World → (counter : ℕ) → Place → Thing
    fetched w counter p = val (value w.accesses) (Some (token w counter p))

    -- the values of the gets that have not landed
    abbrev pub got : World → List Value
    got w = map (λ t. value t.order) (on_counter 0 w.flying)

    abbrev pub after_sync : World → World
    after_sync w = record w { cells = put_all w.getting (got w) w.cells; getting = []; flying = without 0 w.flying }

    -- From here, with these operands, callers and this world, the code does so.
    pub data Runs : Stage → List Thing → List Holder → World → PointedDoing → Type 0 where
      push : {pc end : ℕ} {stack : List Thing} {frames : List Holder} {w : World} {d : PointedDoing} (v : Constant) → OutsideAt c pc (constant_op v) end
          → Runs (between end) (plain (constant_of c.here v) ∷ stack) frames w d → Runs (between pc) stack frames w d
      dup : {pc end : ℕ} {x : Thing} {stack : List Thing} {frames : List Holder} {w : World} {d : PointedDoing} → OutsideAt c pc op.Dup end
          → Runs (between end) (x ∷ x ∷ stack) frames w d → Runs (between pc) (x ∷ stack) frames w d
      jump : {pc target : ℕ} {stack : List Thing} {frames : List Holder} {w : World} {d : PointedDoing} → JumpAt c pc target
          → Runs (between target) stack frames w d → Runs (between pc) stack frames w d
      skip : {pc : ℕ} (t : ℕ) {stack : List Thing} {frames : List Holder} {w : World} {d : PointedDoing} → c.Goes w.at t → c.waits t ≡ []
          → is_empty c.here.program t ≡ true → Runs (between pc) stack frames (record w { at = t }) d
          → Runs (between pc) stack frames w (pass t d)
      enter : {pc : ℕ} {stage : Stage} (t : ℕ) {stack : List Thing} {frames : List Holder} {w : World} {d : PointedDoing} → c.Goes w.at t
          → StageAt t pc stage → Runs stage stack frames (entered t w) d → Runs (between pc) stack frames w (pass t d)
      -- a step with a value
      step_makes : {o : Operation} {site line end : ℕ} {stack rest : List Thing} {frames : List Holder} {w : World} {d : PointedDoing} (xs : List Worth) (v : Value)
          → Ready (arguments_of o) w.at stack xs rest → made_of c.here.layout c.here.node o (worths xs) ≡ makes v
          → Runs (between end) (plain v ∷ rest) frames w d → Runs (stepping o site line end) stack frames w d
      step_faults : {o : Operation} {site line end : ℕ} {stack rest : List Thing} {frames : List Holder} {w : World} (xs : List Worth) (kind : FaultKind)
          → Ready (arguments_of o) w.at stack xs rest → made_of c.here.layout c.here.node o (worths xs) ≡ faults kind
          → Runs (stepping o site line end) stack frames w (Stops (Finishes (Fault kind line)))
      step_breaks : {o : Operation} {site line end : ℕ} {stack rest : List Thing} {frames : List Holder} {w : World} (xs : List Worth)
          → Ready (arguments_of o) w.at stack xs rest → made_of c.here.layout c.here.node o (worths xs) ≡ stuck
          → Runs (stepping o site line end) stack frames w (Stops Breaks)
      step_uses : {o : Operation} {site line end : ℕ} {stack rest : List Thing} {frames : List Holder} {w : World} {go : Value → PointedDoing} (xs : List Worth) (x : ℕ)
          → Ready (arguments_of o) w.at stack xs rest → made_of c.here.layout c.here.node o (worths xs) ≡ uses x
          → (cell : Thing) → Local w x cell
          → ((v : Value) (from : Option Token) → cell ≡ val v from → Runs (between end) (plain v ∷ rest) frames w (go v))
          → Runs (stepping o site line end) stack frames w (used line (slot_of cell) go)
      step_sets : {o : Operation} {site line end : ℕ} {stack rest : List Thing} {frames : List Holder} {w : World} {go : Value → PointedDoing} (xs : List Worth) (x : ℕ) (v : Value)
          → Ready (arguments_of o) w.at stack xs rest → made_of c.here.layout c.here.node o (worths xs) ≡ sets x v
          → (cell : Thing) → Local w x cell
          → ((old : Value) (from : Option Token) → cell ≡ val old from
          → Runs (between end) (plain v ∷ rest) frames (into w x (plain v)) (go old))
          → Runs (stepping o site line end) stack frames w (used line (slot_of cell) go)
      step_reads : {o : Operation} {site line end : ℕ} {stack rest : List Thing} {frames : List Holder} {w : World} {go : Answer → PointedDoing} (xs : List Worth) (p : Place)
          → Ready (arguments_of o) w.at stack xs rest → made_of c.here.layout c.here.node o (worths xs) ≡ reads p → c.Fetches w.at site
          → (fits c.here.layout p (value w.accesses) ≡ true
          → Runs (between end) (fetched w site p ∷ rest) frames (flown w site p) (go (Shown (value w.accesses))))
          → Runs (stepping o site line end) stack frames w (Asks (Requested (request.Read p line)) (fits_read c.here.layout p) go)
      step_writes : {o : Operation} {site line end : ℕ} {stack rest : List Thing} {frames : List Holder} {w : World} {d : PointedDoing} (xs : List Worth) (p : Place) (v : Value)
          → Ready (arguments_of o) w.at stack xs rest → made_of c.here.layout c.here.node o (worths xs) ≡ writes p v
          → Runs (between end) (plain v ∷ rest) frames (one_more w) d
          → Runs (stepping o site line end) stack frames w (Makes (Requested (request.Write p v line)) d)
      step_calls : {o : Operation} {site line end : ℕ} {stack rest : List Thing} {frames : List Holder} {w : World} {go : ℕ → PointedDoing} (xs : List Worth) (f : ℕ) (vs : List Value)
          → Ready (arguments_of o) w.at stack xs rest → made_of c.here.layout c.here.node o (worths xs) ≡ calls f vs
          → (row : FnRow) (others : ℕ) → slice_get c.code.functions f ≡ Some row → row.locals ≡ length vs + others
          → length frames < limit
          → ((left : ℕ) → w.left ≡ suc left → Runs (between row.start) [] (record { pc = end; stack = rest } ∷ frames)
          (record w { cells = called_with vs others ∷ w.cells; left = left }) (go left))
          → Runs (stepping o site line end) stack frames w (counted w.left go)
      too_deep : {o : Operation} {site line end : ℕ} {stack rest : List Thing} {frames : List Holder} {w : World} (xs : List Worth) (f : ℕ) (vs : List Value)
          → Ready (arguments_of o) w.at stack xs rest → made_of c.here.layout c.here.node o (worths xs) ≡ calls f vs
          → (row : FnRow) → slice_get c.code.functions f ≡ Some row → limit ≤ length frames
          → Runs (stepping o site line end) stack frames w (counted w.left (λ left. Stops (Finishes (Fault Depth line))))
      -- a step without one
      act_lets_go : {a : Action} {site line end : ℕ} {stack rest : List Thing} {frames : List Holder} {w : World} {d : PointedDoing} (xs : List Worth)
          → Ready (arguments_of_action a) w.at stack xs rest → done_of c.here.layout c.here.program.texts a (worths xs) ≡ lets_go
          → Runs (between end) rest frames w d → Runs (acting a site line end) stack frames w d
      act_ends : {a : Action} {site line end : ℕ} {stack rest : List Thing} {frames : List Holder} {w : World} (xs : List Worth) (kind : FaultKind)
          → Ready (arguments_of_action a) w.at stack xs rest → done_of c.here.layout c.here.program.texts a (worths xs) ≡ ends kind
          → Runs (acting a site line end) stack frames w (Stops (Finishes (Fault kind line)))
      act_breaks : {a : Action} {site line end : ℕ} {stack rest : List Thing} {frames : List Holder} {w : World} (xs : List Worth)
          → Ready (arguments_of_action a) w.at stack xs rest → done_of c.here.layout c.here.program.texts a (worths xs) ≡ sticks
          → Runs (acting a site line end) stack frames w (Stops Breaks)
      act_clears : {a : Action} {site line end : ℕ} {stack rest : List Thing} {frames : List Holder} {w : World} {go : Value → PointedDoing} (xs : List Worth) (x : ℕ) (v : Value)
          → Ready (arguments_of_action a) w.at stack xs rest → done_of c.here.layout c.here.program.texts a (worths xs) ≡ clears x v
          → (cell : Thing) → Local w x cell
          → ((old : Value) (from : Option Token) → cell ≡ val old from → Runs (between end) rest frames (into w x (plain v)) (go old))
          → Runs (acting a site line end) stack frames w (used line (slot_of cell) go)
      act_fills : {a : Action} {site line end : ℕ} {stack rest : List Thing} {frames : List Holder} {w : World} (go : Answer → Value → PointedDoing) (xs : List Worth) (x : ℕ) (p : Place)
          → Ready (arguments_of_action a) w.at stack xs rest → done_of c.here.layout c.here.program.texts a (worths xs) ≡ fills x p
          → c.Fetches w.at site → (cell : Thing) → Local w x cell
          → (fits c.here.layout p (value w.accesses) ≡ true → (old : Value) (from : Option Token) → cell ≡ val old from
          → Runs (between end) rest frames (into (flown w site p) x (fetched w site p)) (go (Shown (value w.accesses)) old))
          → Runs (acting a site line end) stack frames w
          (Asks (Requested (request.Read p line)) (fits_read c.here.layout p) (λ answer. used line (slot_of cell) (go answer)))
      act_gets : {a : Action} {site line end : ℕ} {stack rest : List Thing} {frames : List Holder} {w : World} {go : Value → PointedDoing} (xs : List Worth) (x : ℕ) (p : Place)
          → Ready (arguments_of_action a) w.at stack xs rest → done_of c.here.layout c.here.program.texts a (worths xs) ≡ gets x p
          → (cell : Thing) → Local w x cell
          → ((old : Value) (from : Option Token) → cell ≡ val old from → Runs (between end) rest frames (with_get w x p) (go old))
          → Runs (acting a site line end) stack frames w (used line (slot_of cell) (λ old. Makes (Requested (request.Get p line)) (go old)))
      act_misses : {a : Action} {site line end : ℕ} {stack rest : List Thing} {frames : List Holder} {w : World} (xs : List Worth) (x : ℕ) (kind : FaultKind)
          → Ready (arguments_of_action a) w.at stack xs rest → done_of c.here.layout c.here.program.texts a (worths xs) ≡ misses x kind
          → (cell : Thing) → Local w x cell
          → Runs (acting a site line end) stack frames w (used line (slot_of cell) (λ old. Stops (Finishes (Fault kind line))))
      act_puts : {a : Action} {site line end : ℕ} {stack rest : List Thing} {frames : List Holder} {w : World} {d : PointedDoing} (xs : List Worth) (p : Place) (v : Value)
          → Ready (arguments_of_action a) w.at stack xs rest → done_of c.here.layout c.here.program.texts a (worths xs) ≡ puts p v
          → Runs (between end) rest frames (one_more w) d
          → Runs (acting a site line end) stack frames w (Makes (Requested (request.Put p v line)) d)
      act_sends : {a : Action} {site line end : ℕ} {stack rest : List Thing} {frames : List Holder} {w : World} {d : PointedDoing} (xs : List Worth) (p : Place) (v : Value)
          → Ready (arguments_of_action a) w.at stack xs rest → done_of c.here.layout c.here.program.texts a (worths xs) ≡ sends p v
          → Runs (between end) rest frames (one_more w) d
          → Runs (acting a site line end) stack frames w (Makes (Requested (request.Store p v line)) d)
      act_copies : {a : Action} {site line end : ℕ} {stack rest : List Thing} {frames : List Holder} {w : World} {d : PointedDoing} (xs : List Worth) (from to : Place) (cells : ℕ)
          → Ready (arguments_of_action a) w.at stack xs rest
          → done_of c.here.layout c.here.program.texts a (worths xs) ≡ copies from to cells
          → Runs (between end) rest frames (one_more w) d
          → Runs (acting a site line end) stack frames w (Makes (Requested (request.Copy from to cells (mode_of a) line)) d)
      act_syncs : {a : Action} {site line end : ℕ} {stack rest : List Thing} {frames : List Holder} {w : World} {go : Answer → PointedDoing} (xs : List Worth)
          → Ready (arguments_of_action a) w.at stack xs rest → done_of c.here.layout c.here.program.texts a (worths xs) ≡ waits 0
          → (fits_all c.here.layout (places (memory_of w)) (got w) ≡ true
          → Runs (between end) rest frames (after_sync w) (go (Landed (got w))))
          → Runs (acting a site line end) stack frames w (Asks (Requested (request.Sync line)) (fits_sync c.here.layout (places (memory_of w))) go)
      act_meets : {a : Action} {site line end : ℕ} {stack rest : List Thing} {frames : List Holder} {w : World} {d : PointedDoing} (xs : List Worth) (stores : Bool)
          → Ready (arguments_of_action a) w.at stack xs rest → done_of c.here.layout c.here.program.texts a (worths xs) ≡ meets stores
          → Runs (between end) rest frames w d
          → Runs (acting a site line end) stack frames w
          (Asks (Requested (barrier_request stores line)) fits_barrier (λ answer. unless_broken answer d))
      act_prints : {a : Action} {site line end : ℕ} {stack rest : List Thing} {frames : List Holder} {w : World} {d : PointedDoing} (xs : List Worth) (text : List ℕ)
          → Ready (arguments_of_action a) w.at stack xs rest → done_of c.here.layout c.here.program.texts a (worths xs) ≡ prints text
          → Runs (between end) rest frames w d → Runs (acting a site line end) stack frames w (Says text d)
      tests : {of_pointer : Bool} {target end : ℕ} {stack : List Thing} {frames : List Holder} {w : World} {on off : PointedDoing} (x : Worth) → MayFrom w.at x.from
          → Runs (between end) stack frames w on → Runs (between target) stack frames w off
          → Runs (testing of_pointer target end) (thing x ∷ stack) frames w (decided c.here.layout c.here.node of_pointer x.value on off)
      turns : {end : ℕ} {stack : List Thing} {frames : List Holder} {w : World} {go : ℕ → PointedDoing}
          → ((left : ℕ) → w.left ≡ suc left → Runs (between end) stack frames (record w { left = left }) (go left))
          → Runs (turning end) stack frames w (counted w.left go)
      returns_to : {line end : ℕ} {stack : List Thing} {f : Holder} {frames : List Holder} {w : World} {d : PointedDoing} (x : Worth) → MayFrom w.at x.from
          → Runs (between f.pc) (plain x.value ∷ f.stack) frames (record w { cells = older w.cells }) d
          → Runs (leaving line end) (thing x ∷ stack) (f ∷ frames) w (none_awaits line (map slot_of (newest w.cells)) d)
      over : {line end : ℕ} {stack : List Thing} {w : World} (x : Worth) → MayFrom w.at x.from
          → Runs (leaving line end) (thing x ∷ stack) [] w (none_awaits line (map slot_of (newest w.cells)) (Stops (Finishes Ended)))
