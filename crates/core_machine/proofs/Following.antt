-- A node with pending work does what the source means.
use Rattle.std.proofs.Common.{◌≡◌, ℕ, zero, suc, ◌+◌, ◌-◌, ◌<◌, ◌≤◌, pos, negsuc, List, [], ◌∷◌, length, ◌==◌, Option, Some, None, Bool, true, false, slice_get, slice_set, nat_lt, if◌then◌else◌, refl, sym, ap, ◌∙◌, subst, arith}
use Rattle.std.proofs.lemmas.Bool.{le-ltb, lt-ltb}
use Rattle.std.proofs.lemmas.List.{length-set}
use Rattle.resumption.specs.Resumption as doing
use Rattle.sc_base.specs.declared.limits.TheConstants.{LIMITS}
use Rattle.sc_base.specs.declared.value.CopyMode.{CopyMode}
use Rattle.sc_base.specs.declared.value.End.TheVariants.{Ended, Cut}
use Rattle.sc_base.specs.declared.value.FaultKind.TheVariants.{PendingUse}
use Rattle.sc_base.specs.declared.value.Value.{Value}
use Rattle.sc_base.specs.declared.value.Value.TheVariants.{Int, Null, Ptr}
use Rattle.sc_isa.specs.Elements.{Outcome, gives, fails, wrong}
use Rattle.sc_isa.specs.Pure.{truth, computed}
use Rattle.sc_isa.specs.Deeds.{Made, makes, faults, stuck, uses, sets, reads, writes, calls, Done, lets_go, ends, sticks, clears, prints, fills, gets, misses, puts, sends, copies, waits, meets}
use Rattle.sc_core.specs.declared.operation.Action.{Action}
use Rattle.sc_core.specs.declared.operation.Operation.{Operation}
use Rattle.sc_core.specs.declared.operation.Operation.TheVariants.{Read, Write}
use Rattle.sc_core.specs.Core.{Core, constant, step, choice, update, Arguments, none, argument, Does, nothing, break, continue, then_, act, choose, loop, return, Function}
use Rattle.sc_core.specs.Statements.{zero_of}
use Rattle.sc_core.specs.Table.{made_of, done_of}
use Rattle.sc_meaning.specs.declared.request.Request.TheVariants as request
use Rattle.sc_meaning.specs.Asking.{Answer, Shown, Landed, Passed, Broken, PointedDoing, SourceDoing, Finishes, Breaks, without_points}
use Rattle.sc_meaning.specs.Memory.{Slot, has, awaits, Memory, Spot, slot, with_slot, with_get, with_top, landed_at, landed_all, synced, top, below, pushed, popped, entered}
use Rattle.sc_meaning.specs.Points.{size, sizes, size_of, first_point}
use Rattle.sc_meaning.specs.Steps.{Rest, used, none_awaits, counted, decided, decided_by, decided_as, perform, enact, mode_of, shown_or_zero, landed_or_none, unless_broken}
use Rattle.sc_meaning.specs.Meaning.{Setting, pass, Jumps, rounds, taken_back, value, values, does, in_body, body_of, entering, calls_by, begun, constant_of, pointed, meaning, end_point}
use Rattle.core_machine.specs.Todo.{Todo, evaluates, takes_each, performs, decides, doubles, gains, does_, enacts, chooses, rounds_of, turn_of, after_of, returns, closes, reads_from, fills_from, syncs, meets_at, requests, says as saying, halts, State}
use Rattle.core_machine.specs.Moves as moves
use Rattle.core_machine.specs.Moves.{at_work, halted, faulted, count, truth_by, truth_as, truth_of, chosen, unless_awaited, any_awaited, left_by_break, left_by_continue, left_by_return, or_stuck, returned, called, entered_by, after_step, after_action, by_values}
use Rattle.core_machine.specs.Runs.{Runs, goes, asks, makes as made, says, stops}
use Rattle.core_machine.proofs.Taking.{onto, by_onto}

abbrev W : PointedDoing → SourceDoing
W d = without_points (request.Sync 0) d

-- ---- as many frames stand as before

length_with_top : (f : List Slot → List Slot) (frames : List (List Slot)) → length (with_top f frames) ≡ length frames
length_with_top f [] = refl
length_with_top f (x ∷ xs) = refl

length_either : (b : Bool) (x y : List Slot) (xs ys : List (List Slot)) → length xs ≡ length ys
    → length (if b then x ∷ ys else y ∷ xs) ≡ suc (length ys)
length_either true x y xs ys e = refl
length_either false x y xs ys e = ap suc e

length_landed_at : (s : Spot) (v : Value) (frames : List (List Slot)) → length (landed_at s v frames) ≡ length frames
length_landed_at s v [] = refl
length_landed_at s v (x ∷ xs) = length_either (s.level == length xs) (slice_set x s.local (has v)) x (landed_at s v xs) xs (length_landed_at s v xs)

length_landed_all : (ss : List Spot) (vs : List Value) (frames : List (List Slot)) → length (landed_all ss vs frames) ≡ length frames
length_landed_all [] [] frames = refl
length_landed_all [] (v ∷ vs) frames = refl
length_landed_all (s ∷ ss) [] frames = refl
length_landed_all (s ∷ ss) (v ∷ vs) frames = length_landed_all ss vs (landed_at s v frames) ∙ length_landed_at s v frames

module _ (here : Setting) where
  -- from here the node does what the resumption does, without its points
  abbrev pub R : List Todo → List Value → Memory → ℕ → PointedDoing → Type 0
  R ts vs m left d = Runs here (at_work ts vs m left) (W d)

  abbrev pub Rs : State → PointedDoing → Type 0
  Rs s d = Runs here s (W d)

  -- so it is with so many frames, and no more than this left of the budget
  abbrev pub Go : (frames bound : ℕ) → List Todo → List Value → Rest → Type 0
  Go frames bound ts vs rest = (m : Memory) (left : ℕ) → length m.frames ≡ frames → left ≤ bound → R ts vs m left (rest m left)

  less : (frames bound bound' : ℕ) (ts : List Todo) (vs : List Value) (rest : Rest) → bound' ≤ bound → Go frames bound ts vs rest
      → Go frames bound' ts vs rest
  less frames bound bound' ts vs rest le h m left e few = h m left e (omega arith)

  -- ---- tests

  by_truth : (v : Value) (one other amiss : State) (on off : PointedDoing) → Rs one on → Rs other off → Rs amiss (doing.Stops Breaks)
      → Rs (chosen (truth_by v) one other amiss) (decided_by v on off)
  by_truth (Int (pos zero)) one other amiss on off y n s = n
  by_truth (Int (pos (suc k))) one other amiss on off y n s = y
  by_truth (Int (negsuc k)) one other amiss on off y n s = y
  by_truth Null one other amiss on off y n s = s
  by_truth (Ptr object node offset) one other amiss on off y n s = s

  as_truth : (o : Outcome) (one other amiss : State) (on off : PointedDoing) → Rs one on → Rs other off → Rs amiss (doing.Stops Breaks)
      → Rs (chosen (truth_as o) one other amiss) (decided_as o on off)
  as_truth (gives v) one other amiss on off y n s = by_truth v one other amiss on off y n s
  as_truth (fails kind) one other amiss on off y n s = s
  as_truth wrong one other amiss on off y n s = s

  of_truth : (of_pointer : Bool) (v : Value) (one other amiss : State) (on off : PointedDoing) → Rs one on → Rs other off
      → Rs amiss (doing.Stops Breaks) → Rs (chosen (truth_of here of_pointer v) one other amiss) (decided here.layout here.node of_pointer v on off)
  of_truth false v one other amiss on off y n s = by_truth v one other amiss on off y n s
  of_truth true v one other amiss on off y n s =
      as_truth (computed here.layout here.node truth (v ∷ [])) one other amiss on off y n s

  -- ---- locals

  used_runs : (line : ℕ) (s : Slot) (next : Value → State) (go : Value → PointedDoing) (ts : List Todo) (vs : List Value) (m : Memory) (left : ℕ)
      → ((v : Value) → Rs (next v) (go v)) → Rs (unless_awaited line s next ts vs m left) (used line s go)
  used_runs line (has v) next go ts vs m left h = h v
  used_runs line awaits next go ts vs m left h = stops refl

  none_runs : (line : ℕ) (slots : List Slot) (s : State) (d : PointedDoing) (ts : List Todo) (vs : List Value) (m : Memory) (left : ℕ) → Rs s d
      → Rs (if any_awaited slots then faulted PendingUse line ts vs m left else s) (none_awaits line slots d)
  none_runs line [] s d ts vs m left h = h
  none_runs line (has v ∷ slots) s d ts vs m left h = none_runs line slots s d ts vs m left h
  none_runs line (awaits ∷ slots) s d ts vs m left h = stops refl

  -- ---- steps, where calls do so

  abbrev pub CallsRun : ℕ → Type 0
  CallsRun n =
      (frames bound : ℕ) → n + frames ≡ LIMITS.frames → (f : ℕ) (xs : List Value) (line : ℕ) (ts : List Todo) (vs : List Value) (go : Value → Rest)
      → ((v : Value) → Go frames bound ts (v ∷ vs) (go v))
      → (m : Memory) (left : ℕ) → length m.frames ≡ frames → left ≤ bound
      → Rs (called here f xs line ts vs m left) (calls_by here n f xs line go m left)

  module _ (n : ℕ) (calls_run : CallsRun n) (frames : ℕ) (room : n + frames ≡ LIMITS.frames) where
    perform_runs : (bound : ℕ) (deed : Made) (line : ℕ) (ts : List Todo) (vs : List Value) (go : Value → Rest)
        → ((v : Value) → Go frames bound ts (v ∷ vs) (go v))
        → (m : Memory) (left : ℕ) → length m.frames ≡ frames → left ≤ bound
        → Rs (after_step here deed line ts vs m left) (perform here.layout (calls_by here n) deed line go m left)
    perform_runs bound (makes v) line ts vs go h m left e le = h v m left e le
    perform_runs bound (faults kind) line ts vs go h m left e le = stops refl
    perform_runs bound stuck line ts vs go h m left e le = stops refl
    perform_runs bound (uses x) line ts vs go h m left e le =
        used_runs line (slot m x) _ _ ts vs m left (λ v. h v m left e le)
    perform_runs bound (sets x v) line ts vs go h m left e le =
        used_runs line (slot m x) _ _ ts vs m left
        (λ old. h v (with_slot m x (has v)) left (length_with_top (λ frame. slice_set frame x (has v)) m.frames ∙ e) le)
    perform_runs bound (reads place) line ts vs go h m left e le = asks refl (λ answer. h (shown_or_zero answer) m left e le)
    perform_runs bound (writes place v) line ts vs go h m left e le = made refl (h v m left e le)
    perform_runs bound (calls f xs) line ts vs go h m left e le = calls_run frames bound room f xs line ts vs go h m left e le

    -- the step takes what was made for it
    step_runs : (bound : ℕ) (operation : Operation) (k : ℕ) (xs : List Value) (line : ℕ) (ts : List Todo) (vs : List Value) (go : Value → Rest)
        → length xs ≡ k → ((v : Value) → Go frames bound ts (v ∷ vs) (go v))
        → (m : Memory) (left : ℕ) → length m.frames ≡ frames → left ≤ bound
        → R (performs operation k line ∷ ts) (onto xs vs) m left
        (perform here.layout (calls_by here n) (made_of here.layout here.node operation xs) line go m left)
    step_runs bound operation k xs line ts vs go many h m left e le =
        goes refl (subst (λ s. Rs s (perform here.layout (calls_by here n) (made_of here.layout here.node operation xs) line go m left))
        (sym (by_onto k xs vs (λ xs vs. after_step here (made_of here.layout here.node operation xs) line ts vs m left) (halted Breaks ts (onto xs vs) m left) many))
        (perform_runs bound (made_of here.layout here.node operation xs) line ts vs go h m left e le))

    back_runs : (bound : ℕ) (back : Option Operation) (point line : ℕ) (ts : List Todo) (vs : List Value) (go : Value → Rest)
        → ((v : Value) → Go frames bound ts (v ∷ vs) (go v))
        → (v : Value) → Go frames bound (moves.taken_back back line ts) (v ∷ vs) (taken_back here (calls_by here n) back point line go v)
    back_runs bound None point line ts vs go h v m left e le = h v m left e le
    back_runs bound (Some operation) point line ts vs go h v m left e le =
        goes refl (step_runs bound operation 2 (v ∷ Int (pos 1) ∷ []) line ts vs go refl h m left e le)

    abbrev V : Core → ℕ → (Value → Rest) → Rest
    V = value here (calls_by here n)

    abbrev Vs : Arguments → ℕ → (List Value → Rest) → Rest
    Vs = values here (calls_by here n)

    mutual
      value_runs : (bound : ℕ) (e : Core) (k : ℕ) (go : Value → Rest) (ts : List Todo) (vs : List Value)
          → ((v : Value) → Go frames bound ts (v ∷ vs) (go v)) → Go frames bound (evaluates e ∷ ts) vs (V e k go)
      value_runs bound (constant c) k go ts vs h m left e le = goes refl (h (constant_of here c) m left e le)
      value_runs bound (step operation arguments line) k go ts vs h m left e le =
          goes refl (values_runs bound arguments k _ (performs operation (count arguments) line ∷ ts) vs
          (λ xs many m left e le. step_runs bound operation (count arguments) xs line ts vs go many h m left e le) m left e le)
      value_runs bound (choice of_pointer test on off) k go ts vs h m left e le =
          let t = k + size test in
          goes refl (value_runs bound test k _ (decides of_pointer on off ∷ ts) vs
          (λ v m left e le. goes refl (of_truth of_pointer v _ _ _ _ _
          (value_runs bound on (t + 1) go ts vs h m left e le)
          (value_runs bound off (t + 1 + size on) go ts vs h m left e le) (stops refl))) m left e le)
      value_runs bound (update pointer operation right back line) k go ts vs h m left e le =
          let t = k + size pointer in
          let u = t + 1 + size right in
          goes refl (value_runs bound pointer k _ _ vs
          (λ p m left e le. goes refl (step_runs bound Read 1 (p ∷ []) line _ (p ∷ vs) _ refl
          (λ old. value_runs bound right (t + 1) _ _ (old ∷ p ∷ vs)
          (λ by m left e le. step_runs bound operation 2 (old ∷ by ∷ []) line _ (p ∷ vs) _ refl
          (λ new m left e le. step_runs bound Write 2 (p ∷ new ∷ []) line _ vs _ refl
          (back_runs bound back (u + 2) line ts vs go h) m left e le) m left e le))
          m left e le)) m left e le)

      values_runs : (bound : ℕ) (arguments : Arguments) (k : ℕ) (go : List Value → Rest) (ts : List Todo) (vs : List Value)
          → ((xs : List Value) → length xs ≡ count arguments → Go frames bound ts (onto xs vs) (go xs))
          → Go frames bound (takes_each arguments ∷ ts) vs (Vs arguments k go)
      values_runs bound none k go ts vs h m left e le = goes refl (h [] refl m left e le)
      values_runs bound (argument a more) k go ts vs h m left e le =
          goes refl (value_runs bound a k _ (takes_each more ∷ ts) vs
          (λ v. values_runs bound more (k + size a) _ ts (v ∷ vs) (λ xs many. h (v ∷ xs) (omega (arith, many)))) m left e le)

    -- ---- statements

    action_runs : (bound : ℕ) (mode : CopyMode) (deed : Done) (line : ℕ) (ts : List Todo) (vs : List Value) (rest : Rest)
        → Go frames bound ts vs rest → (m : Memory) (left : ℕ) → length m.frames ≡ frames → left ≤ bound
        → Rs (after_action mode deed line ts vs m left) (enact here.layout mode deed line rest m left)
    action_runs bound mode lets_go line ts vs rest h m left e le = h m left e le
    action_runs bound mode (ends kind) line ts vs rest h m left e le = stops refl
    action_runs bound mode sticks line ts vs rest h m left e le = stops refl
    action_runs bound mode (clears x v) line ts vs rest h m left e le =
        used_runs line (slot m x) _ _ ts vs m left
        (λ old. h (with_slot m x (has v)) left (length_with_top (λ frame. slice_set frame x (has v)) m.frames ∙ e) le)
    action_runs bound mode (prints text) line ts vs rest h m left e le = says refl (h m left e le)
    action_runs bound mode (fills x place) line ts vs rest h m left e le =
        asks refl (λ answer. used_runs line (slot m x) _ _ ts vs m left
        (λ old. h (with_slot m x (has (shown_or_zero answer))) left
        (length_with_top (λ frame. slice_set frame x (has (shown_or_zero answer))) m.frames ∙ e) le))
    action_runs bound mode (gets x place) line ts vs rest h m left e le =
        used_runs line (slot m x) _ _ ts vs m left
        (λ old. made refl (h (with_get m x place) left (length_with_top (λ frame. slice_set frame x awaits) m.frames ∙ e) le))
    action_runs bound mode (misses x kind) line ts vs rest h m left e le =
        used_runs line (slot m x) _ _ ts vs m left (λ old. stops refl)
    action_runs bound mode (puts place v) line ts vs rest h m left e le = made refl (h m left e le)
    action_runs bound mode (sends place v) line ts vs rest h m left e le = made refl (h m left e le)
    action_runs bound mode (copies from to cells) line ts vs rest h m left e le = made refl (h m left e le)
    action_runs bound mode (waits counter) line ts vs rest h m left e le =
        asks refl (λ answer. h (synced (landed_or_none answer) m) left (length_landed_all m.getting (landed_or_none answer) m.frames ∙ e) le)
    action_runs bound mode (meets stores) line ts vs rest h m left e le =
        asks refl (λ answer. passed_runs answer (rest m left) m left (h m left e le))
      where
        passed_runs : (answer : Answer) (d : PointedDoing) (m : Memory) (left : ℕ) → R ts vs m left d
            → Rs (moves.passed answer ts vs m left) (unless_broken answer d)
        passed_runs (Shown v) d m left h = h
        passed_runs (Landed xs) d m left h = h
        passed_runs Passed d m left h = h
        passed_runs Broken d m left h = stops refl

    acts_run : (bound : ℕ) (action : Action) (k : ℕ) (xs : List Value) (line : ℕ) (ts : List Todo) (vs : List Value) (rest : Rest)
        → length xs ≡ k → Go frames bound ts vs rest
        → (m : Memory) (left : ℕ) → length m.frames ≡ frames → left ≤ bound
        → R (enacts action k line ∷ ts) (onto xs vs) m left
        (enact here.layout (mode_of action) (done_of here.layout here.program.texts action xs) line rest m left)
    acts_run bound action k xs line ts vs rest many h m left e le =
        goes refl (subst (λ s. Rs s (enact here.layout (mode_of action) (done_of here.layout here.program.texts action xs) line rest m left))
        (sym (by_onto k xs vs (λ xs vs. after_action (mode_of action) (done_of here.layout here.program.texts action xs) line ts vs m left)
        (halted Breaks ts (onto xs vs) m left) many))
        (action_runs bound (mode_of action) (done_of here.layout here.program.texts action xs) line ts vs rest h m left e le))

    -- where the statement leads out of what stands around it
    record Around (bound : ℕ) (ts : List Todo) (vs : List Value) (j : Jumps) : Type 0 where
      outs : (m : Memory) (left : ℕ) → length m.frames ≡ frames → left ≤ bound → Rs (or_stuck (left_by_break ts) vs m left) (j.out m left)
      agains : (m : Memory) (left : ℕ) → length m.frames ≡ frames → left ≤ bound → Rs (or_stuck (left_by_continue ts) vs m left) (j.again m left)
      backs : (v : Value) (m : Memory) (left : ℕ) → length m.frames ≡ frames → left ≤ bound
          → Rs (or_stuck (left_by_return ts) (v ∷ vs) (popped m) left) (j.back v m left)

    abbrev D : Does → ℕ → Jumps → Rest → Rest
    D = does here (calls_by here n)

    rounds_run : (t : ℕ) (b x a : Does) (ts : List Todo) (vs : List Value) (before turn : Rest → Rest) (bound : ℕ)
        → ((bound' : ℕ) (rest : Rest) → bound' ≤ bound → Go frames bound' (turn_of b x a ∷ ts) vs rest → Go frames bound' (does_ b ∷ turn_of b x a ∷ ts) vs (before rest))
        → ((bound' : ℕ) (rest : Rest) → bound' ≤ bound → Go frames bound' (rounds_of b x a ∷ ts) vs rest → Go frames bound' (does_ x ∷ after_of b x a ∷ ts) vs (turn rest))
        → (k : ℕ) (bound' : ℕ) → bound' < k → bound' ≤ bound → Go frames bound' (rounds_of b x a ∷ ts) vs (rounds t k before turn)
    rounds_run t b x a ts vs before turn bound before_run turn_run zero bound' lt le m left e few = absurd (omega arith)
    rounds_run t b x a ts vs before turn bound before_run turn_run (suc k) bound' lt le m left e few =
        goes refl (before_run bound' _ le
        (turn_runs (λ low lower. rounds_run t b x a ts vs before turn bound before_run turn_run k low (omega (arith, lower)) (omega (arith, lower))))
        m left e few)
      where
        turn_runs : ((low : ℕ) → suc low ≤ bound' → Go frames low (rounds_of b x a ∷ ts) vs (rounds t k before turn))
            → Go frames bound' (turn_of b x a ∷ ts) vs (λ m left. pass t (counted left (λ left. turn (rounds t k before turn) m left)))
        turn_runs again m zero e few = goes refl (stops refl)
        turn_runs again m (suc left) e few =
            goes refl (turn_run left (rounds t k before turn) (omega arith) (again left few) m left e (omega arith))

    does_runs : (s : Does) (bound k : ℕ) (j : Jumps) (rest : Rest) (ts : List Todo) (vs : List Value) → Around bound ts vs j
        → Go frames bound ts vs rest → Go frames bound (does_ s ∷ ts) vs (D s k j rest)
    does_runs nothing bound k j rest ts vs ar h m left e le = goes refl (h m left e le)
    does_runs break bound k j rest ts vs ar h m left e le = goes refl (ar.outs m left e le)
    does_runs continue bound k j rest ts vs ar h m left e le = goes refl (ar.agains m left e le)
    does_runs (then_ a b) bound k j rest ts vs ar h m left e le =
        goes refl (does_runs a bound k j _ (does_ b ∷ ts) vs (record { outs = ar.outs; agains = ar.agains; backs = ar.backs })
        (does_runs b bound (k + size_of a) j rest ts vs ar h) m left e le)
    does_runs (act action arguments line) bound k j rest ts vs ar h m left e le =
        goes refl (values_runs bound arguments k _ (enacts action (count arguments) line ∷ ts) vs
        (λ xs many m left e le. acts_run bound action (count arguments) xs line ts vs rest many h m left e le) m left e le)
    does_runs (choose of_pointer test on off) bound k j rest ts vs ar h m left e le =
        let t = k + size test in
        goes refl (value_runs bound test k _ (chooses of_pointer on off ∷ ts) vs
        (λ v m left e le. goes refl (of_truth of_pointer v _ _ _ _ _
        (does_runs on bound (t + 1) j rest ts vs ar h m left e le)
        (does_runs off bound (t + 1 + size_of on) j rest ts vs ar h m left e le) (stops refl))) m left e le)
    does_runs (loop mine b x a) bound k j rest ts vs ar h m left e le =
        let t = k + size_of b in
        let u = t + 1 + size_of x in
        let inner : Jumps = record { back = j.back; out = rest; again = j.again } in
        goes refl (rounds_run t b x a ts vs (D b k inner)
        (λ round. D x (t + 1) (record { back = j.back; out = rest; again = D a u inner round }) (D a u inner round)) left
        (λ bound' rest' lower done.
        does_runs b bound' k inner rest' (turn_of b x a ∷ ts) vs (record {
          outs = λ m left e few. h m left e (omega arith);
          agains = λ m left e few. ar.agains m left e (omega arith);
          backs = λ v m left e few. ar.backs v m left e (omega arith);
        }) done)
        (λ bound' rest' lower done.
        let after_run : Go frames bound' (after_of b x a ∷ ts) vs (D a u inner rest') =
        λ m left e few. goes refl (does_runs a bound' u inner rest' (rounds_of b x a ∷ ts) vs (record {
          outs = λ m left e few. h m left e (omega arith);
          agains = λ m left e few. ar.agains m left e (omega arith);
          backs = λ v m left e few. ar.backs v m left e (omega arith);
        }) done m left e few) in
        does_runs x bound' (t + 1) _ (D a u inner rest') (after_of b x a ∷ ts) vs (record {
          outs = λ m left e few. h m left e (omega arith);
          agains = after_run;
          backs = λ v m left e few. ar.backs v m left e (omega arith);
        }) after_run)
        (suc left) left (omega arith) (omega arith) m left e (omega arith))
    does_runs (return v line) bound k j rest ts vs ar h m left e le =
        goes refl (value_runs bound v k _ (returns line ∷ ts) vs
        (λ v m left e le. goes refl (none_runs line (top m.frames) _ _ ts (v ∷ vs) m left (ar.backs v m left e le))) m left e le)

    body_runs : (bound first : ℕ) (f : Function) (back : Value → Rest) (ts : List Todo) (vs : List Value)
        → ((v : Value) (m : Memory) (left : ℕ) → length m.frames ≡ frames → left ≤ bound → R ts (v ∷ vs) (popped m) left (back v m left))
        → Go frames bound (does_ f.body ∷ closes (zero_of f.result) f.line ∷ ts) vs (body_of here (calls_by here n) first f back)
    body_runs bound first f back ts vs h =
        does_runs f.body bound (first + 1) (in_body here back) _ (closes (zero_of f.result) f.line ∷ ts) vs
        (record { outs = λ m left e le. stops refl; agains = λ m left e le. stops refl; backs = h })
        (λ m left e le. goes refl (none_runs f.line (top m.frames) _ _ (closes (zero_of f.result) f.line ∷ ts) (constant_of here (zero_of f.result) ∷ vs) m left
        (h (constant_of here (zero_of f.result)) m left e le)))

  -- ---- calls, and the whole source

  few : (n frames : ℕ) → suc n + frames ≡ LIMITS.frames → nat_lt frames LIMITS.frames ≡ true
  few n frames room = lt-ltb frames LIMITS.frames (omega (arith, room))

  enters : (b : Bool) (on off : State) (d : PointedDoing) → b ≡ true → Rs on d → Rs (if b then on else off) d
  enters b on off d e h = subst (λ b. Rs (if b then on else off) d) (sym e) h

  too_deep : (b : Bool) (on off : State) (d : PointedDoing) → b ≡ false → Rs off d → Rs (if b then on else off) d
  too_deep b on off d e h = subst (λ b. Rs (if b then on else off) d) (sym e) h

  -- the frame of the callee is left again
  length_below : (frames : List (List Slot)) (n : ℕ) → length frames ≡ n + 1 → length (below frames) ≡ n
  length_below [] n e = absurd (omega (arith, e))
  length_below (x ∷ xs) n e = omega (arith, e)

  calls_run : (n : ℕ) → CallsRun n
  calls_run n frames bound room f xs line ts vs go h m zero e le = cut n
    where
      cut : (n : ℕ) → Rs (called here f xs line ts vs m zero) (calls_by here n f xs line go m zero)
      cut zero = stops refl
      cut (suc n) = stops refl
  calls_run zero frames bound room f xs line ts vs go h m (suc left) e le =
      too_deep (nat_lt (length m.frames) LIMITS.frames) _ _ (calls_by here 0 f xs line go m (suc left)) (le-ltb (length m.frames) LIMITS.frames (omega (arith, e, room))) (stops refl)
  calls_run (suc n) frames bound room f xs line ts vs go h m (suc left) e le =
      enters (nat_lt (length m.frames) LIMITS.frames) _ _
      (entering here (calls_by here n) (first_point here.program.functions f) (slice_get here.program.functions f) xs go m left) (ap (λ k. nat_lt k LIMITS.frames) e ∙ few n frames room)
      (entered_run (calls_run n) (slice_get here.program.functions f))
    where
      entered_run : CallsRun n → (g : Option Function) → Rs (entered_by here g xs ts vs m left)
          (entering here (calls_by here n) (first_point here.program.functions f) g xs go m left)
      entered_run run None = stops refl
      entered_run run (Some g) =
          body_runs n run (frames + 1) (omega (arith, room)) left (first_point here.program.functions f) g _ ts vs
          (λ v m left e few. h v (popped m) left (length_below m.frames frames e) (omega (arith, le, few)))
          (pushed (entered xs (length g.others)) m) left (omega (arith, e)) (omega arith)

  pub begins : (main : Option Function) (budget : ℕ) → Rs (moves.begun main budget) (begun here main budget)
  begins None budget = stops refl
  begins (Some f) budget =
      body_runs (LIMITS.frames - 1) (calls_run (LIMITS.frames - 1)) 1 refl budget (first_point here.program.functions here.program.main) f _
      (halts (Finishes Ended) ∷ []) [] (λ v m left e few. stops refl) _ budget refl (omega arith)

  -- before its first step the node does what the source means
  pub begins_as_meant : (budget : ℕ) → Runs here (moves.begun (slice_get here.program.functions here.program.main) budget) (meaning here budget)
  begins_as_meant budget = begins (slice_get here.program.functions here.program.main) budget
