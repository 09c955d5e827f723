-- The machine whose operands land late does what a run with ghosts does.
use Rattle.std.proofs.Common.{◌≡◌, ◌⊎◌, inl, inr, ℕ, zero, suc, ◌+◌, ◌<◌, ◌≤◌, List, [], ◌∷◌, length, map, Option, Some, None, Bool, true, false, slice_get, if◌then◌else◌, refl, sym, ap, ◌∙◌, subst, arith}
use Rattle.std.specs.Prelude.{nat_lt}
use Rattle.std.proofs.lemmas.Bool.Decides.{Decides-ltb}
use Rattle.resumption.specs.Resumption.{Makes, Stops}
use Rattle.sc_base.specs.declared.limits.TheConstants.{LIMITS}
use Rattle.sc_base.specs.declared.value.End.TheVariants.{Ended, Fault, Cut}
use Rattle.sc_base.specs.declared.value.FaultKind.TheVariants.{Depth, PendingUse}
use Rattle.sc_base.specs.declared.value.Place.{Place}
use Rattle.sc_base.specs.declared.value.Value.{Value}
use Rattle.sc_isa.specs.declared.op.Op.{Op}
use Rattle.sc_isa.specs.declared.op.Op.TheVariants as op
use Rattle.sc_isa.specs.Deeds.{Made, makes, faults, stuck, uses, sets, reads, writes, calls, Done, lets_go, ends, sticks, clears, prints, fills, gets, misses, puts, sends, copies, waits, meets}
use Rattle.sc_isa.specs.declared.access.Access.TheVariants as access
use Rattle.sc_isa.specs.declared.operand.Operand.TheVariants.{Here}
use Rattle.sc_isa.specs.State.{State, at_instr, pushed}
use Rattle.sc_isa.specs.Moves.{After, GoesOn, Ends, Sticks, Move, Comes, Waits, none_pending, counted as machine_counted, one_deeper, called, gain_done, act_done}
use Rattle.sc_core.specs.declared.operation.Constant.{Constant}
use Rattle.sc_core.specs.declared.operation.Constant.TheVariants as constants
use Rattle.sc_core.specs.declared.operation.Operation.{Operation}
use Rattle.sc_core.specs.declared.operation.Operation.TheVariants as does
use Rattle.sc_core.specs.declared.operation.Action.{Action}
use Rattle.sc_core.specs.declared.operation.Action.TheVariants as acts
use Rattle.sc_core.specs.Table.{made_of, done_of, ops_of, ops_of_action}
use Rattle.sc_meaning.specs.declared.request.Request.TheVariants as request
use Rattle.sc_meaning.specs.Asking.{PointedDoing, Requested, Finishes, Shown, Landed}
use Rattle.sc_meaning.specs.Memory.{places}
use Rattle.sc_meaning.specs.Steps.{used, none_awaits, counted, mode_of}
use Rattle.sc_meaning.specs.Meaning.{pass, constant_of}
use Rattle.meaning_laws.specs.StepTable.{arguments_of, arguments_of_action, track_of, action_track, IsAtSite, ActsAtSite, HasRow, HasSite}
use Rattle.meaning_laws.proofs.Decided.{le_decides}
use Rattle.node_emit.specs.Runs.{outside, constant_op, test_ops}
use Rattle.node_emit.specs.Law.{is_empty}
use Rattle.node_emit.specs.Stands.{Stands}
use Rattle.node_emit.specs.Pointed.{entered_at}
use Rattle.emit_laws.proofs.Parts.{In, Setup, RunAt, PointAt}
use Rattle.emit_laws.proofs.Ghosts.{Thing, val, awaited, plain, slot_of, Token, Holder, World, memory_of, newest, older, Worth, thing, worths, Stage, between, stepping, acting, testing, turning, leaving, limit, StageAt, entered, without, without_all, Ready, flown, one_more, with_get, got, after_sync, Runs, push, dup, jump, skip, enter, step_makes, step_faults, step_breaks, step_uses, step_sets, step_reads, step_writes, step_calls, too_deep, act_lets_go, act_ends, act_breaks, act_clears, act_fills, act_gets, act_misses, act_puts, act_sends, act_copies, act_syncs, act_meets, act_prints, tests, turns, returns_to, over}
use Rattle.emit_laws.proofs.DeedsMade.{MadeBy, made_table, DoneBy, done_table}
use Rattle.emit_laws.proofs.Masks.{by_bool, mask_slots, state_of}
use Rattle.emit_laws.proofs.Fitting.{Coming, Still, still, coming_on, Calm, each_add, each_map, each_only, wait_fits, landed_state}
use Rattle.emit_laws.proofs.Keeping.{not_zero, Fit, rest_given, with_stack, fit_at, fit_waited, fit_into, fit_one_more, fit_fetched, fit_filled, fit_get, fit_synced, fit_called, fit_returned, length_callers, read_state, into_state, fill_state, get_state, sync_state, sync_places, call_state}
use Rattle.emit_laws.proofs.Standing.{Now, IsWrite, write, put, send, copy, Motive, Timely}
use Rattle.emit_laws.proofs.Moved.{step_, does_, by_move, fetched_op, begins_none, step_by, act_by, local_by, local_after, test_by, ret_top}

-- what stands at the point p, which may be left
abbrev pub now_at : (p : ℕ) → (own : Bool) → World → Now
now_at p own w = record { at = p; left = []; own = own; accesses = w.accesses; flying = w.flying }

-- some instruction
abbrev pub IsSome_ : List Op → Type 0
IsSome_ [] = ⊥
IsSome_ (o ∷ ops) = Unit {0}

-- ---- leaving a function

-- nothing of the frame awaits, or it is the fault of a pending use
LeavesWell : (line : ℕ) → List Token → List Thing → Type 0
LeavesWell line fl f =
    ((((x : After) → none_pending line (mask_slots fl f) x ≡ x) × ((d : PointedDoing) → none_awaits line (map slot_of f) d ≡ d))
    × ((x n : ℕ) → slice_get f x ≡ Some (awaited n) → ⊥))
    ⊎ (((x : After) → none_pending line (mask_slots fl f) x ≡ Ends (Fault PendingUse line))
    × ((d : PointedDoing) → none_awaits line (map slot_of f) d ≡ Stops (Finishes (Fault PendingUse line))))

leaves_well : (line : ℕ) (fl : List Token) (f : List Thing) → LeavesWell line fl f
unfolding LeavesWell
leaves_well line fl [] = inl ((λ x. refl, λ d. refl), λ x n e. cc)
leaves_well line fl (val v from ∷ f) = go (leaves_well line fl f)
  where
    go : LeavesWell line fl f → LeavesWell line fl (val v from ∷ f)
    go (inl h) = inl ((h.0.0, h.0.1), λ x n e. none h.1 x n e)
      where
        none : ((x n : ℕ) → slice_get f x ≡ Some (awaited n) → ⊥) → (x n : ℕ) → slice_get (val v from ∷ f) x ≡ Some (awaited n) → ⊥
        none g zero n e = cc
        none g (suc x) n e = g x n e
    go (inr h) = inr h
leaves_well line fl (awaited n ∷ f) = inr (λ x. refl, λ d. refl)

module _ (c : Setup) (timely : Timely c) (value : ℕ → Value) (m : Motive c value) where
  -- the state is at the last point that was passed, or behind one empty point, which is to be passed first
  pub data Leading (w : World) (d : PointedDoing) : Now → PointedDoing → Type 0 where
    direct : (own : Bool) → Leading w d (now_at w.at own w) d
    lags : (p : ℕ) (own : Bool) → c.Goes p w.at → is_empty c.here.program w.at ≡ true → c.waits w.at ≡ [] → Leading w d (now_at p own w) (pass w.at d)

  -- the stage's instructions lie here, behind the waits of its point
  abbrev pub StageFrom : (t n pc : ℕ) → Stage → Type 0
  StageFrom t n pc (between other) = ⊥
  StageFrom t n pc (stepping o site line end) = IsAtSite c.code site o × HasRow c.code o × RunAt c t n pc [] (ops_of (c.one_way site) site o) line end
  StageFrom t n pc (acting a site line end) = ActsAtSite c.code site a × RunAt c t n pc [] (ops_of_action site a) line end
  StageFrom t n pc (testing of_pointer target end) = RunAt c t n pc [] (test_ops of_pointer target) 0 end
  StageFrom t n pc (turning end) = RunAt c t n pc [] (op.Turn ∷ []) 0 end
  StageFrom t n pc (leaving line end) = RunAt c t n pc [] (op.Ret ∷ []) line end

  unfoldable pub Late : Stage → List Thing → List Holder → World → PointedDoing → Type 0
  Late (between pc) stack frames w d = Coming c timely w → (h : Now) (D : PointedDoing) → Leading w d h D → m.At h (state_of pc stack frames w) D
  Late (stepping o site line end) stack frames w d = Still c timely w → (n pc : ℕ) → StageFrom w.at n pc (stepping o site line end)
      → m.By (now_at w.at true w) (step_ c timely value m (state_of pc stack frames w)) d
  Late (acting a site line end) stack frames w d = Still c timely w → (n pc : ℕ) → StageFrom w.at n pc (acting a site line end)
      → m.By (now_at w.at true w) (step_ c timely value m (state_of pc stack frames w)) d
  Late (testing of_pointer target end) stack frames w d = Still c timely w → (n pc : ℕ) → StageFrom w.at n pc (testing of_pointer target end)
      → m.By (now_at w.at true w) (step_ c timely value m (state_of pc stack frames w)) d
  Late (turning end) stack frames w d = Still c timely w → (n pc : ℕ) → StageFrom w.at n pc (turning end)
      → m.By (now_at w.at true w) (step_ c timely value m (state_of pc stack frames w)) d
  Late (leaving line end) stack frames w d = Still c timely w → (n pc : ℕ) → StageFrom w.at n pc (leaving line end)
      → m.By (now_at w.at true w) (step_ c timely value m (state_of pc stack frames w)) d

  -- ---- instructions outside of the runs

  outside_at : (h : Now) (D : PointedDoing) (pc : ℕ) (o : Op) (s next : State) → c.stands s.frame.at ≡ None → slice_get c.code.instrs s.frame.at ≡ Some (outside o)
      → does_ c timely value m o 0 (at_instr (s.frame.at + 1) s) ≡ Comes (GoesOn next) → m.At h next D → m.At h s D
  outside_at h D pc o s next none is moves at_ =
      m.goes h s D (ap entered_at none)
      (by_move c timely value m h D (fetched_op c timely value m 0 o s is ∙ moves) (m.on h next D at_))

  constant_is : (v : Constant) (pc : ℕ) (stack : List Thing) (frames : List Holder) (w : World)
      → does_ c timely value m (constant_op v) 0 (state_of (pc + 1) stack frames w) ≡ Comes (GoesOn (state_of (pc + 1) (plain (constant_of c.here v) ∷ stack) frames w))
  constant_is (constants.Number n) pc stack frames w = refl
  constant_is constants.Null pc stack frames w = refl
  constant_is constants.Mine pc stack frames w = refl
  constant_is constants.Procs pc stack frames w = refl

  -- ---- the waits before a run

  stands_first : (t n pc : ℕ) (ws : List ℕ) (ops : List Op) (line end : ℕ) → IsSome_ ops → RunAt c t n pc ws ops line end → c.stands pc ≡ Some (record { point = t; number = n })
  stands_first t n pc [] [] line end some r = absurd some
  stands_first t n pc [] (o ∷ ops) line end some r = r.0
  stands_first t n pc (x ∷ ws) ops line end some r = r.0

  wait_is : (counter line : ℕ) (s : State) → counter ≤ c.code.sites → does_ c timely value m (op.Wait counter) line s ≡ Waits counter s
  wait_is counter line s le = ap (λ b. if b then Waits counter s else Comes Sticks) ((le_decides counter c.code.sites).1 le)

  abbrev flying_ : List Token → World → World
  flying_ fl w = record { cells = w.cells; getting = w.getting; left = w.left; at = w.at; accesses = w.accesses; flying = fl }

  waits_by : (t : ℕ) (ws : List ℕ) (n pc : ℕ) (ops : List Op) (line end : ℕ) (stack : List Thing) (frames : List Holder) (w : World) (d : PointedDoing)
      → IsSome_ ops → ((a : ℕ) → In a ws → (0 < a) × (a ≤ c.code.sites)) → RunAt c t n pc ws ops line end → Fit c value stack frames w
      → ((n pc : ℕ) → RunAt c t n pc [] ops line end → Fit c value stack frames (flying_ (without_all ws w.flying) w)
      → m.By (record { at = t; left = []; own = true; accesses = w.accesses; flying = without_all ws w.flying })
      (step_ c timely value m (state_of pc stack frames (flying_ (without_all ws w.flying) w))) d)
      → m.By (record { at = t; left = ws; own = true; accesses = w.accesses; flying = w.flying }) (step_ c timely value m (state_of pc stack frames w)) d
  waits_by t [] n pc ops line end stack frames w d some sites r fit next = next n pc r fit
  waits_by t (x ∷ ws) n pc ops line end stack frames w d some sites r fit next =
      let own = sites x (inl refl) in
      let z : x ≡ 0 → ⊥ = not_zero x own.0 in
      let w' = flying_ (without x w.flying) w in
      let h : Now = record { at = t; left = x ∷ ws; own = true; accesses = w.accesses; flying = w.flying } in
      let h' : Now = record { at = t; left = ws; own = true; accesses = w.accesses; flying = without x w.flying } in
      by_move c timely value m h d
      (fetched_op c timely value m line (op.Wait x) (state_of pc stack frames w) r.1 ∙ wait_is x line (state_of (pc + 1) stack frames w) own.1)
      (m.waits h x ws (state_of (pc + 1) stack frames w) d refl z (wait_fits value c.here.layout x w.flying z fit.fit)
      (subst (λ s. m.At h' s d) (sym (landed_state value w.accesses x (pc + 1) stack frames w z fit.on_stack fit.in_frames fit.in_cells))
      (m.goes h' (state_of (pc + 1) stack frames w') d (begins_none n t (c.stands (pc + 1)) (stands_first t (n + 1) (pc + 1) ws ops line end some r.2))
      (waits_by t ws (n + 1) (pc + 1) ops line end stack frames w' d some (λ a i. sites a (inr i)) r.2 (fit_waited c value x z fit) next))))

  -- ---- the run of a point

  pub op_some : (b : Bool) (site : ℕ) (o : Operation) → IsSome_ (ops_of b site o)
  op_some b site (does.Use x) = tt
  op_some b site (does.Element o n plain) = tt
  op_some b site (does.Address o n) = tt
  op_some b site does.Own = tt
  op_some b site does.Convert = tt
  op_some b site (does.Forward star) = tt
  op_some b site (does.Back star) = tt
  op_some b site (does.Binary operator) = tt
  op_some b site (does.Unary operator) = tt
  op_some b site does.Same = tt
  op_some b site does.Differ = tt
  op_some b site does.IsNull = tt
  op_some b site does.ToGlobal = tt
  op_some b site does.ToProc = tt
  op_some b site does.ToLocal = tt
  op_some b site (does.Set x) = tt
  op_some b site (does.Call f n) = tt
  op_some b site does.Read = tt
  op_some b site does.Write = tt

  pub act_some : (site : ℕ) (a : Action) → IsSome_ (ops_of_action site a)
  act_some site acts.Drop = tt
  act_some site (acts.Begin x) = tt
  act_some site (acts.Clear x pointer) = tt
  act_some site (acts.Fill x) = tt
  act_some site (acts.Get x) = tt
  act_some site acts.Put = tt
  act_some site acts.Send = tt
  act_some site (acts.Copy mode) = tt
  act_some site (acts.Print text n) = tt
  act_some site acts.Sync = tt
  act_some site acts.Barrier = tt
  act_some site acts.AllStoreSync = tt

  pub test_some : (of_pointer : Bool) (target : ℕ) → IsSome_ (test_ops of_pointer target)
  test_some true target = tt
  test_some false target = tt

  entered_first : (t : ℕ) (o : Option Stands) → o ≡ Some (record { point = t; number = 0 }) → entered_at o ≡ Some t
  entered_first t o e = ap entered_at e

  -- from the waits on to the point's own instructions; then the state enters the run
  record Entering (t pc : ℕ) (stack : List Thing) (frames : List Holder) (w : World) (d : PointedDoing) : Type 0 where
    pub first : c.stands pc ≡ Some (record { point = t; number = 0 })
    pub full : is_empty c.here.program t ≡ false
    pub by : m.By (record { at = t; left = c.waits t; own = true; accesses = w.accesses; flying = w.flying }) (step_ c timely value m (state_of pc stack frames w)) d

  entering_by : (t pc : ℕ) (stack : List Thing) (frames : List Holder) (w : World) (d : PointedDoing) (h : Now) (D : PointedDoing) → c.Goes w.at t
      → Entering t pc stack frames w d → Leading w (pass t d) h D → m.At h (state_of pc stack frames w) D
  entering_by t pc stack frames w d h D goes e (direct own) =
      m.enters (now_at w.at own w) t (state_of pc stack frames w) d (entered_first t (c.stands pc) e.first) refl goes e.full (timely.direct w.at t goes e.full) e.by
  entering_by t pc stack frames w d h D goes e (lags p own goes_p empty none) =
      m.skips (now_at p own w) w.at t (state_of pc stack frames w) d (entered_first t (c.stands pc) e.first) refl goes_p empty none goes e.full
      (timely.through p w.at t goes_p empty goes e.full) e.by

  of_run : (t pc : ℕ) (ops : List Op) (line end : ℕ) (stack : List Thing) (frames : List Holder) (w : World) (d : PointedDoing) → IsSome_ ops → PointAt c t pc ops line end
      → Fit c value stack frames w
      → ((n pc : ℕ) → RunAt c t n pc [] ops line end
      → m.By (now_at t true (entered c t w)) (step_ c timely value m (state_of pc stack frames (entered c t w))) d)
      → Entering t pc stack frames w d
  of_run t pc ops line end stack frames w d some at_ fit next = record {
    first = stands_first t 0 pc (c.waits t) ops line end some at_.run;
    full = at_.full;
    by = waits_by t (c.waits t) 0 pc ops line end stack frames w d some (timely.counters t) at_.run fit (λ n pc r fit'. next n pc r);
  }

  fit_entered : (t : ℕ) {stack : List Thing} {frames : List Holder} {w : World} → Fit c value stack frames w → Fit c value stack frames (entered c t w)
  fit_entered t {stack} {frames} {w} fit = go (c.waits t) (timely.counters t) w fit
    where
      go : (ws : List ℕ) → ((a : ℕ) → In a ws → (0 < a) × (a ≤ c.code.sites)) → (w : World) → Fit c value stack frames w
          → Fit c value stack frames (record { cells = w.cells; getting = w.getting; left = w.left; at = t; accesses = w.accesses; flying = without_all ws w.flying })
      go [] sites w fit = fit_at c value t w.left fit
      go (x ∷ ws) sites w fit = go ws (λ a i. sites a (inr i)) (flying_ (without x w.flying) w) (fit_waited c value x (not_zero x (sites x (inl refl)).0) fit)

  entering_stage : (t pc : ℕ) (stage : Stage) (stack : List Thing) (frames : List Holder) (w : World) (d : PointedDoing) → StageAt c t pc stage → Fit c value stack frames w
      → Still c timely (entered c t w) → Late stage stack frames (entered c t w) d → Entering t pc stack frames w d
  unfolding Late
  entering_stage t pc (between other) stack frames w d at_ fit calm late = absurd at_
  entering_stage t pc (stepping o site line end) stack frames w d at_ fit calm late =
      of_run t pc (ops_of (c.one_way site) site o) line end stack frames w d (op_some (c.one_way site) site o) at_.run fit (λ n pc r. late calm n pc (at_.at_site, at_.row, r))
  entering_stage t pc (acting a site line end) stack frames w d at_ fit calm late =
      of_run t pc (ops_of_action site a) line end stack frames w d (act_some site a) at_.run fit (λ n pc r. late calm n pc (at_.at_site, r))
  entering_stage t pc (testing of_pointer target end) stack frames w d at_ fit calm late =
      of_run t pc (test_ops of_pointer target) 0 end stack frames w d (test_some of_pointer target) at_ fit (λ n pc r. late calm n pc r)
  entering_stage t pc (turning end) stack frames w d at_ fit calm late =
      of_run t pc (op.Turn ∷ []) 0 end stack frames w d tt at_ fit (λ n pc r. late calm n pc r)
  entering_stage t pc (leaving line end) stack frames w d at_ fit calm late =
      of_run t pc (op.Ret ∷ []) line end stack frames w d tt at_ fit (λ n pc r. late calm n pc r)

  -- ---- each deed

  coming_flown : (w : World) (site : ℕ) (p : Place) → Still c timely w → c.Fetches w.at site → Coming c timely (flown c w site p)
  coming_flown w site p calm fetch u goes =
      each_add (timely.Open u) w.flying (record { order = w.accesses; counter = site; place = p }) (coming_on c timely w calm u goes) (λ n. timely.opens w.at u site fetch goes)

  coming_got : (w : World) (x : ℕ) (p : Place) → Still c timely w → Coming c timely (with_get c w x p)
  coming_got w x p calm u goes =
      each_add (timely.Open u) w.flying (record { order = w.accesses; counter = 0; place = p }) (coming_on c timely w calm u goes) (λ n. absurd (n refl))

  coming_synced : (w : World) → Still c timely w → Coming c timely (after_sync c value w)
  coming_synced w calm u goes = each_only (timely.Open u) 0 w.flying (coming_on c timely w calm u goes)

  -- past an empty point
  coming_skip : (t : ℕ) (w : World) → Coming c timely w → c.Goes w.at t → c.waits t ≡ [] → Coming c timely (record w { at = t })
  coming_skip t w coming goes none =
      coming_on c timely (record w { at = t })
      (each_map (timely.Open t) (Calm c timely t) (λ a p. (p, λ i. subst (In a) none i)) w.flying (coming t goes))

  skip_by : (t pc : ℕ) (stack : List Thing) (frames : List Holder) (w : World) (d : PointedDoing) (h : Now) (D : PointedDoing) → c.Goes w.at t → c.waits t ≡ []
      → is_empty c.here.program t ≡ true
      → ((h : Now) (D : PointedDoing) → Leading (record w { at = t }) d h D → m.At h (state_of pc stack frames w) D)
      → Leading w (pass t d) h D → m.At h (state_of pc stack frames w) D
  skip_by t pc stack frames w d h D goes none empty later (direct own) = later (now_at w.at own w) (pass t d) (lags w.at own goes empty none)
  skip_by t pc stack frames w d h D goes none empty later (lags p own goes_p empty_at none_at) = absurd (timely.apart p w.at t goes_p empty_at goes empty)

  counted_by : (h : Now) (go : ℕ → PointedDoing) (K : ℕ → After) (left : ℕ) → ((k : ℕ) → left ≡ suc k → m.By h (Comes (K k)) (go k))
      → m.By h (Comes (machine_counted left K)) (counted left go)
  counted_by h go K zero next = m.ends h Cut
  counted_by h go K (suc k) next = next k refl

  abbrev gained_ : (o : Operation) (site line end : ℕ) (rest : List Thing) (frames : List Holder) (w : World) → Made → Move
  gained_ o site line end rest frames w made = gain_done c.code site (track_of (c.one_way site) site) line (state_of end rest frames w) made

  -- by what the step makes
  made_by : (o : Operation) (site line end : ℕ) {stack rest : List Thing} {frames : List Holder} {w : World} {d : PointedDoing} (xs : List Worth) (made : Made)
      → Ready c (arguments_of o) w.at stack xs rest → made_of c.here.layout c.here.node o (worths xs) ≡ made → Fit c value stack frames w
      → (IsAtSite c.code site o → Still c timely w → m.By (now_at w.at true w) (gained_ o site line end rest frames w made) d)
      → Late (stepping o site line end) stack frames w d
  unfolding Late
  made_by o site line end {stack} {rest} {frames} {w} {d} xs made ready e fit next = λ calm n pc at_.
      step_by c timely value m o (now_at w.at true w) d site line end n pc stack rest frames w xs at_.0 at_.1 at_.2 ready calm fit.on_stack
      (subst (λ made. m.By (now_at w.at true w) (gained_ o site line end rest frames w made) d) (sym e) (next at_.0 calm))

  abbrev acted_ : (a : Action) (site line end : ℕ) (rest : List Thing) (frames : List Holder) (w : World) → Done → Move
  acted_ a site line end rest frames w done = act_done site (action_track site a) line (state_of end rest frames w) done

  done_by : (a : Action) (site line end : ℕ) {stack rest : List Thing} {frames : List Holder} {w : World} {d : PointedDoing} (xs : List Worth) (done : Done)
      → Ready c (arguments_of_action a) w.at stack xs rest → done_of c.here.layout c.here.program.texts a (worths xs) ≡ done → Fit c value stack frames w
      → (ActsAtSite c.code site a → Still c timely w → m.By (now_at w.at true w) (acted_ a site line end rest frames w done) d)
      → Late (acting a site line end) stack frames w d
  unfolding Late
  done_by a site line end {stack} {rest} {frames} {w} {d} xs done ready e fit next = λ calm n pc at_.
      act_by c timely value m a (now_at w.at true w) d site line end n pc stack rest frames w xs at_.0 at_.1 ready calm fit.on_stack
      (subst (λ done. m.By (now_at w.at true w) (acted_ a site line end rest frames w done) d) (sym e) (next at_.0 calm))

  made_of_table : (o : Operation) (xs : List Worth) (made : Made) → made_of c.here.layout c.here.node o (worths xs) ≡ made → MadeBy o made
  made_of_table o xs made e = subst (MadeBy o) e (made_table c.here.layout c.here.node o (worths xs))

  done_of_table : (a : Action) (xs : List Worth) (done : Done) → done_of c.here.layout c.here.program.texts a (worths xs) ≡ done → DoneBy a done
  done_of_table a xs done e = subst (DoneBy a) e (done_table c.here.layout c.here.program.texts a (worths xs))

  -- a further frame fits, or not
  deeper : (line k : ℕ) (s : State) (after : After) → length s.callers ≡ k → k < limit → one_deeper line s after ≡ after
  deeper line k s after e l = ap (λ b. if b then after else Ends (Fault Depth line)) ((Decides-ltb (length s.callers + 1) LIMITS.frames).1 (omega (arith, e, l)))

  too_deep_ : (line k : ℕ) (s : State) (after : After) → length s.callers ≡ k → limit ≤ k → one_deeper line s after ≡ Ends (Fault Depth line)
  too_deep_ line k s after e l =
      ap (λ b. if b then after else Ends (Fault Depth line))
      (by_bool (nat_lt (length s.callers + 1) LIMITS.frames) (λ t. let q = (Decides-ltb (length s.callers + 1) LIMITS.frames).0 t in absurd (let no : ⊥ = omega (arith, e, l, q) in no)) (λ t. t))

  leave_by : (h : Now) (line : ℕ) (fl : List Token) (f : List Thing) (after : After) (d : PointedDoing) → LeavesWell line fl f
      → (((x n : ℕ) → slice_get f x ≡ Some (awaited n) → ⊥) → m.By h (Comes after) d)
      → m.By h (Comes (none_pending line (mask_slots fl f) after)) (none_awaits line (map slot_of f) d)
  unfolding LeavesWell
  leave_by h line fl f after d (inl well) next =
      subst (λ d. m.By h (Comes (none_pending line (mask_slots fl f) after)) d) (sym (well.0.1 d))
      (by_move c timely value m h d (ap Comes (well.0.0 after)) (next well.1))
  leave_by h line fl f after d (inr ill) next =
      subst (λ d. m.By h (Comes (none_pending line (mask_slots fl f) after)) d) (sym (ill.1 d))
      (by_move c timely value m h (Stops (Finishes (Fault PendingUse line))) (ap Comes (ill.0 after)) (m.ends h (Fault PendingUse line)))

  -- ---- the induction

  pub late : {stage : Stage} {stack : List Thing} {frames : List Holder} {w : World} {d : PointedDoing} → Runs c value stage stack frames w d → Fit c value stack frames w
      → Late stage stack frames w d
  unfolding Late
  late {frames = frames} {w} (push {pc = pc} {end = end} {stack = stack} v at_ r) fit = λ coming h D lead.
      outside_at h D pc (constant_op v) (state_of pc stack frames w) (state_of end (plain (constant_of c.here v) ∷ stack) frames w) at_.none at_.is
      (constant_is v pc stack frames w ∙ ap (λ e. Comes (GoesOn (state_of e (plain (constant_of c.here v) ∷ stack) frames w))) (sym at_.ends))
      (late r (with_stack c value (plain (constant_of c.here v) ∷ stack) (tt, fit.on_stack) fit) coming h D lead)
  late {frames = frames} {w} (dup {pc = pc} {end = end} {x = x} {stack = stack} at_ r) fit = λ coming h D lead.
      outside_at h D pc op.Dup (state_of pc (x ∷ stack) frames w) (state_of end (x ∷ x ∷ stack) frames w) at_.none at_.is
      (ap (λ e. Comes (GoesOn (state_of e (x ∷ x ∷ stack) frames w))) (sym at_.ends))
      (late r (with_stack c value (x ∷ x ∷ stack) (fit.on_stack.0, fit.on_stack) fit) coming h D lead)
  late {stack = stack} {frames = frames} {w} (jump {pc = pc} {target = target} at_ r) fit = λ coming h D lead.
      outside_at h D pc (op.Jump target) (state_of pc stack frames w) (state_of target stack frames w) at_.none at_.is refl (late r fit coming h D lead)
  late {frames = frames} {w} (skip {pc = pc} t {stack = stack} {d = d} goes none empty r) fit = λ coming h D lead.
      skip_by t pc stack frames w d h D goes none empty (late r (fit_at c value t w.left fit) (coming_skip t w coming goes none)) lead
  late {frames = frames} {w} (enter {pc = pc} {stage = stage} t {stack = stack} {d = d} goes at_ r) fit = λ coming h D lead.
      entering_by t pc stack frames w d h D goes
      (entering_stage t pc stage stack frames w d at_ fit (still c timely t w coming goes) (late r (fit_entered t fit))) lead
  late {frames = frames} {w} {d} (step_makes {end = end} {stack = stack} {rest = rest} xs v ready e r) fit =
      made_by _ _ _ _ xs (makes v) ready e fit (λ site calm.
      m.on (now_at w.at true w) (state_of end (plain v ∷ rest) frames w) d
      (late r (with_stack c value (plain v ∷ rest) (tt, rest_given c value w.accesses stack xs rest ready fit.on_stack) fit) (coming_on c timely w calm) (now_at w.at true w) d (direct true)))
  late {w = w} (step_faults {line = line} xs kind ready e) fit = made_by _ _ _ _ xs (faults kind) ready e fit (λ site calm. m.ends (now_at w.at true w) (Fault kind line))
  late {w = w} (step_breaks xs ready e) fit = made_by _ _ _ _ xs stuck ready e fit (λ site calm. m.breaks (now_at w.at true w) (Comes Sticks))
  late {frames = frames} {w} (step_uses {line = line} {end = end} {stack = stack} {rest = rest} {go = go} xs x ready e cell local r) fit =
      made_by _ _ _ _ xs (uses x) ready e fit (λ site calm.
      local_by c timely value m (now_at w.at true w) w line x cell go _ local calm fit.in_cells (λ v from is.
      m.on (now_at w.at true w) (state_of end (plain v ∷ rest) frames w) (go v)
      (late (r v from is) (with_stack c value (plain v ∷ rest) (tt, rest_given c value w.accesses stack xs rest ready fit.on_stack) fit) (coming_on c timely w calm) (now_at w.at true w) (go v) (direct true))))
  late {frames = frames} {w} (step_sets {line = line} {end = end} {stack = stack} {rest = rest} {go = go} xs x v ready e cell local r) fit =
      made_by _ _ _ _ xs (sets x v) ready e fit (λ site calm.
      local_by c timely value m (now_at w.at true w) w line x cell go _ local calm fit.in_cells (λ old from is.
      m.on (now_at w.at true w) _ (go old)
      (subst (λ s. m.At (now_at w.at true w) (pushed (Here v) s) (go old)) (sym (into_state c value end x v rest frames w))
      (late (r old from is) (fit_into c value x v old from (local.is ∙ ap Some is) (with_stack c value (plain v ∷ rest) (tt, rest_given c value w.accesses stack xs rest ready fit.on_stack) fit))
      (coming_on c timely w calm) (now_at w.at true w) (go old) (direct true)))))
  late {frames = frames} {w} (step_reads {o = o} {site = site} {line = line} {end = end} {stack = stack} {rest = rest} {go = go} xs p ready e fetch r) fit =
      made_by _ _ _ _ xs (reads p) ready e fit (λ at_site calm.
      let has : HasSite c.code site = subst (λ o. IsAtSite c.code site o) (made_of_table o xs (reads p) e) at_site in
      let fit_rest = with_stack c value rest (rest_given c value w.accesses stack xs rest ready fit.on_stack) fit in
      m.reads (now_at w.at true w) site line p _ go refl refl has.from_one fetch (λ fits_.
      m.on (now_at w.at false (flown c w site p)) _ (go (Shown (value w.accesses)))
      (subst (λ s. m.At (now_at w.at false (flown c w site p)) s (go (Shown (value w.accesses)))) (sym (read_state c value end site p rest frames w fit_rest))
      (late (r fits_) (fit_fetched c value site p (not_zero site has.from_one) fits_ fit_rest) (coming_flown w site p calm fetch)
      (now_at w.at false (flown c w site p)) (go (Shown (value w.accesses))) (direct false)))))
  late {frames = frames} {w} (step_writes {o = o} {site = site} {end = end} {stack = stack} {rest = rest} {d = d} xs p v ready e r) fit =
      made_by _ _ _ _ xs (writes p v) ready e fit (λ at_site calm.
      let has : HasSite c.code site = subst (λ o. IsAtSite c.code site o) (made_of_table o xs (writes p v) e) at_site in
      m.writes (now_at w.at true w) _ _ _ d refl refl (write site (c.one_way site) has.from_one)
      (m.on (now_at w.at false (one_more c w)) (state_of end (plain v ∷ rest) frames w) d
      (late r (fit_one_more c value (with_stack c value (plain v ∷ rest) (tt, rest_given c value w.accesses stack xs rest ready fit.on_stack) fit)) (coming_on c timely w calm)
      (now_at w.at false (one_more c w)) d (direct false))))
  late {frames = frames} {w} (step_calls {line = line} {end = end} {stack = stack} {rest = rest} {go = go} xs f vs ready e row others is_row room few r) fit =
      made_by _ _ _ _ xs (calls f vs) ready e fit (λ at_site calm.
      let s = state_of end rest frames w in
      let h = now_at w.at true w in
      let fit_rest = with_stack c value rest (rest_given c value w.accesses stack xs rest ready fit.on_stack) fit in
      by_move c timely value m h (counted w.left go) (ap (λ o. Comes (called line o vs s)) is_row)
      (counted_by h go _ w.left (λ k is.
      by_move c timely value m h (go k) (ap Comes (deeper line (length frames) s _ (length_callers c value w.flying frames (older w.cells)) few))
      (m.on h _ (go k)
      (subst (λ s. m.At h s (go k)) (sym (call_state c value row vs others k end rest frames w room))
      (late (r k is) (fit_called c value vs others k end rest fit_rest) (coming_on c timely w calm) h (go k) (direct true)))))))
  late {frames = frames} {w} (too_deep {line = line} {end = end} {stack = stack} {rest = rest} xs f vs ready e row is_row many) fit =
      made_by _ _ _ _ xs (calls f vs) ready e fit (λ at_site calm.
      let s = state_of end rest frames w in
      let h = now_at w.at true w in
      by_move c timely value m h (counted w.left (λ left. Stops (Finishes (Fault Depth line)))) (ap (λ o. Comes (called line o vs s)) is_row)
      (counted_by h (λ left. Stops (Finishes (Fault Depth line))) _ w.left (λ k is.
      by_move c timely value m h (Stops (Finishes (Fault Depth line))) (ap Comes (too_deep_ line (length frames) s _ (length_callers c value w.flying frames (older w.cells)) many))
      (m.ends h (Fault Depth line)))))
  late {frames = frames} {w} {d} (act_lets_go {end = end} {stack = stack} {rest = rest} xs ready e r) fit =
      done_by _ _ _ _ xs lets_go ready e fit (λ site calm.
      m.on (now_at w.at true w) (state_of end rest frames w) d
      (late r (with_stack c value rest (rest_given c value w.accesses stack xs rest ready fit.on_stack) fit) (coming_on c timely w calm) (now_at w.at true w) d (direct true)))
  late {w = w} (act_ends {line = line} xs kind ready e) fit = done_by _ _ _ _ xs (ends kind) ready e fit (λ site calm. m.ends (now_at w.at true w) (Fault kind line))
  late {w = w} (act_breaks xs ready e) fit = done_by _ _ _ _ xs sticks ready e fit (λ site calm. m.breaks (now_at w.at true w) (Comes Sticks))
  late {frames = frames} {w} (act_clears {line = line} {end = end} {stack = stack} {rest = rest} {go = go} xs x v ready e cell local r) fit =
      done_by _ _ _ _ xs (clears x v) ready e fit (λ site calm.
      local_by c timely value m (now_at w.at true w) w line x cell go _ local calm fit.in_cells (λ old from is.
      m.on (now_at w.at true w) _ (go old)
      (subst (λ s. m.At (now_at w.at true w) s (go old)) (sym (into_state c value end x v rest frames w))
      (late (r old from is) (fit_into c value x v old from (local.is ∙ ap Some is) (with_stack c value rest (rest_given c value w.accesses stack xs rest ready fit.on_stack) fit))
      (coming_on c timely w calm) (now_at w.at true w) (go old) (direct true)))))
  late {frames = frames} {w} (act_fills {a = a} {site = site} {line = line} {end = end} {stack = stack} {rest = rest} go xs x p ready e fetch cell local r) fit =
      done_by _ _ _ _ xs (fills x p) ready e fit (λ at_site calm.
      let has : HasSite c.code site = subst (λ a. ActsAtSite c.code site a) (done_of_table a xs (fills x p) e) at_site in
      let fit_rest = with_stack c value rest (rest_given c value w.accesses stack xs rest ready fit.on_stack) fit in
      let v = Shown (value w.accesses) in
      let h' = now_at w.at false (flown c w site p) in
      m.reads (now_at w.at true w) site line p _ (λ answer. used line (slot_of cell) (go answer)) refl refl has.from_one fetch (λ fits_.
      local_after c timely value m h' w line x cell (go v) _ local calm fit.in_cells (λ old from is.
      m.on h' _ (go v old)
      (subst (λ s. m.At h' s (go v old)) (sym (fill_state c value end site x p rest frames w fit_rest))
      (late (r fits_ old from is) (fit_filled c value site x p old from (not_zero site has.from_one) fits_ (local.is ∙ ap Some is) fit_rest) (coming_flown w site p calm fetch)
      h' (go v old) (direct false))))))
  late {frames = frames} {w} (act_gets {line = line} {end = end} {stack = stack} {rest = rest} {go = go} xs x p ready e cell local r) fit =
      done_by _ _ _ _ xs (gets x p) ready e fit (λ at_site calm.
      let fit_rest = with_stack c value rest (rest_given c value w.accesses stack xs rest ready fit.on_stack) fit in
      let h' = now_at w.at false (with_get c w x p) in
      local_by c timely value m (now_at w.at true w) w line x cell (λ old. Makes (Requested (request.Get p line)) (go old)) _ local calm fit.in_cells (λ old from is.
      m.gets (now_at w.at true w) line p _ (go old) refl refl
      (m.on h' _ (go old)
      (subst (λ s. m.At h' s (go old)) (sym (get_state c value end x p rest frames w fit_rest))
      (late (r old from is) (fit_get c value x p old from (local.is ∙ ap Some is) fit_rest) (coming_got w x p calm) h' (go old) (direct false))))))
  late {frames = frames} {w} (act_misses {line = line} xs x kind ready e cell local) fit =
      done_by _ _ _ _ xs (misses x kind) ready e fit (λ site calm.
      local_by c timely value m (now_at w.at true w) w line x cell (λ old. Stops (Finishes (Fault kind line))) _ local calm fit.in_cells (λ old from is.
      m.ends (now_at w.at true w) (Fault kind line)))
  late {frames = frames} {w} (act_puts {a = a} {site = site} {line = line} {end = end} {stack = stack} {rest = rest} {d = d} xs p v ready e r) fit =
      done_by _ _ _ _ xs (puts p v) ready e fit (λ at_site calm.
      m.writes (now_at w.at true w) _ _ _ d refl refl
      (subst (λ a. IsWrite (request.Put p v line) (access.Write p v (action_track site a))) (sym (done_of_table a xs (puts p v) e)) put)
      (m.on (now_at w.at false (one_more c w)) (state_of end rest frames w) d
      (late r (fit_one_more c value (with_stack c value rest (rest_given c value w.accesses stack xs rest ready fit.on_stack) fit)) (coming_on c timely w calm)
      (now_at w.at false (one_more c w)) d (direct false))))
  late {frames = frames} {w} (act_sends {a = a} {site = site} {line = line} {end = end} {stack = stack} {rest = rest} {d = d} xs p v ready e r) fit =
      done_by _ _ _ _ xs (sends p v) ready e fit (λ at_site calm.
      m.writes (now_at w.at true w) _ _ _ d refl refl
      (subst (λ a. IsWrite (request.Store p v line) (access.Write p v (action_track site a))) (sym (done_of_table a xs (sends p v) e)) send)
      (m.on (now_at w.at false (one_more c w)) (state_of end rest frames w) d
      (late r (fit_one_more c value (with_stack c value rest (rest_given c value w.accesses stack xs rest ready fit.on_stack) fit)) (coming_on c timely w calm)
      (now_at w.at false (one_more c w)) d (direct false))))
  late {frames = frames} {w} (act_copies {a = a} {site = site} {line = line} {end = end} {stack = stack} {rest = rest} {d = d} xs from to cells ready e r) fit =
      done_by _ _ _ _ xs (copies from to cells) ready e fit (λ at_site calm.
      let by = done_of_table a xs (copies from to cells) e in
      let has : HasSite c.code site = subst (λ a. ActsAtSite c.code site a) by.1 at_site in
      m.writes (now_at w.at true w) _ _ _ d refl refl
      (subst (λ a. IsWrite (request.Copy from to cells (mode_of a) line) (access.Copy from to cells (action_track site a))) (sym by.1) (copy site has.from_one))
      (m.on (now_at w.at false (one_more c w)) (state_of end rest frames w) d
      (late r (fit_one_more c value (with_stack c value rest (rest_given c value w.accesses stack xs rest ready fit.on_stack) fit)) (coming_on c timely w calm)
      (now_at w.at false (one_more c w)) d (direct false))))
  late {frames = frames} {w} (act_syncs {line = line} {end = end} {stack = stack} {rest = rest} {go = go} xs ready e r) fit =
      done_by _ _ _ _ xs (waits 0) ready e fit (λ at_site calm.
      let fit_rest = with_stack c value rest (rest_given c value w.accesses stack xs rest ready fit.on_stack) fit in
      let h' = now_at w.at false (after_sync c value w) in
      m.syncs (now_at w.at true w) line (places (memory_of w)) (state_of end rest frames w) go refl refl (sync_places c value end rest frames w fit_rest) (λ fits_.
      subst (λ s. m.At h' s (go (Landed (got c value w)))) (sym (sync_state c value end rest frames w fit_rest))
      (late (r fits_) (fit_synced c value fit_rest) (coming_synced w calm) h' (go (Landed (got c value w))) (direct false))))
  late {frames = frames} {w} (act_meets {line = line} {end = end} {stack = stack} {rest = rest} {d = d} xs stores ready e r) fit =
      done_by _ _ _ _ xs (meets stores) ready e fit (λ at_site calm.
      m.meets (now_at w.at true w) stores line (state_of end rest frames w) d refl refl
      (late r (with_stack c value rest (rest_given c value w.accesses stack xs rest ready fit.on_stack) fit) (coming_on c timely w calm) (now_at w.at false w) d (direct false)))
  late {frames = frames} {w} (act_prints {end = end} {stack = stack} {rest = rest} {d = d} xs text ready e r) fit =
      done_by _ _ _ _ xs (prints text) ready e fit (λ at_site calm.
      m.says (now_at w.at true w) text (state_of end rest frames w) d
      (late r (with_stack c value rest (rest_given c value w.accesses stack xs rest ready fit.on_stack) fit) (coming_on c timely w calm) (now_at w.at true w) d (direct true)))
  late {frames = frames} {w} (tests {of_pointer = of_pointer} {target = target} {end = end} {stack = stack} {on = on} {off = off} x may r s) fit = λ calm n pc at_.
      let h = now_at w.at true w in
      let fit_rest = with_stack c value stack fit.on_stack.1 fit in
      test_by c timely value m of_pointer h target end n pc x stack frames w on off at_ may calm fit.on_stack.0
      (m.on h (state_of end stack frames w) on (late r fit_rest (coming_on c timely w calm) h on (direct true)))
      (m.on h (state_of target stack frames w) off (late s fit_rest (coming_on c timely w calm) h off (direct true)))
  late {frames = frames} {w} (turns {end = end} {stack = stack} {go = go} r) fit = λ calm n pc at_.
      let h = now_at w.at true w in
      by_move c timely value m h (counted w.left go) (fetched_op c timely value m 0 op.Turn (state_of pc stack frames w) at_.1)
      (counted_by h go _ w.left (λ k is.
      m.on h _ (go k)
      (subst (λ e. m.At h (state_of e stack frames (record w { left = k })) (go k)) at_.2
      (late (r k is) (fit_at c value w.at k fit) (coming_on c timely w calm) h (go k) (direct true)))))
  late {w = w} (returns_to {line = line} {end = end} {stack = stack} {f = f} {frames = frames} {d = d} x may r) fit = λ calm n pc at_.
      let h = now_at w.at true w in
      by_move c timely value m h (none_awaits line (map slot_of (newest w.cells)) d)
      (fetched_op c timely value m line op.Ret (state_of pc (thing x ∷ stack) (f ∷ frames) w) at_.1
      ∙ ap (does_ c timely value m op.Ret line) (ret_top c timely value m (pc + 1) x stack (f ∷ frames) w may calm fit.on_stack.0))
      (leave_by h line w.flying (newest w.cells) _ d (leaves_well line w.flying (newest w.cells)) (λ none.
      m.on h (state_of f.pc (plain x.value ∷ f.stack) frames (record w { cells = older w.cells })) d
      (late r (fit_returned c value x.value f none fit) (coming_on c timely w calm) h d (direct true))))
  late {w = w} (over {line = line} {end = end} {stack = stack} x may) fit = λ calm n pc at_.
      let h = now_at w.at true w in
      by_move c timely value m h (none_awaits line (map slot_of (newest w.cells)) (Stops (Finishes Ended)))
      (fetched_op c timely value m line op.Ret (state_of pc (thing x ∷ stack) [] w) at_.1
      ∙ ap (does_ c timely value m op.Ret line) (ret_top c timely value m (pc + 1) x stack [] w may calm fit.on_stack.0))
      (leave_by h line w.flying (newest w.cells) _ (Stops (Finishes Ended)) (leaves_well line w.flying (newest w.cells)) (λ none. m.ends h Ended))
