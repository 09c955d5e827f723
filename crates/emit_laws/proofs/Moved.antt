-- What the machine does at an instruction, in a state that shows a world with ghosts.
use Rattle.std.proofs.Common.{◌≡◌, ℕ, zero, suc, ◌+◌, ◌==◌, List, [], ◌∷◌, length, Option, Some, None, Bool, true, false, slice_get, if◌then◌else◌, refl, sym, ap, ◌∙◌, subst, arith}
use Rattle.std.specs.Prelude.{pos, negsuc}
use Rattle.std.proofs.lemmas.Bool.Decides.{Decides-eqb}
use Rattle.resumption.specs.Resumption.{Stops}
use Rattle.sc_base.specs.declared.operator.Unary.TheVariants.{Minus, Not}
use Rattle.sc_base.specs.declared.value.End.TheVariants.{Fault}
use Rattle.sc_base.specs.declared.value.FaultKind.TheVariants.{PendingUse}
use Rattle.sc_base.specs.declared.value.Value.{Value}
use Rattle.sc_base.specs.declared.value.Value.TheVariants.{Int, Null, Ptr}
use Rattle.sc_isa.specs.declared.op.Op.{Op}
use Rattle.sc_isa.specs.declared.op.Op.TheVariants as op
use Rattle.sc_isa.specs.declared.access.Track.{Track}
use Rattle.sc_isa.specs.declared.access.Track.TheVariants.{Counter}
use Rattle.sc_isa.specs.declared.operand.Operand.{Operand}
use Rattle.sc_isa.specs.declared.operand.Operand.TheVariants.{Here, Landing}
use Rattle.sc_isa.specs.declared.operand.Slot.{Slot}
use Rattle.sc_isa.specs.declared.operand.Slot.TheVariants.{Holds, Pending}
use Rattle.sc_isa.specs.Elements.{Outcome, gives, fails, wrong}
use Rattle.sc_isa.specs.Pure.{Pure, arity, computed, un, step, same, truth, bit, is_true}
use Rattle.sc_isa.specs.Steps.{set}
use Rattle.sc_isa.specs.Deeds.{Made, made_by}
use Rattle.sc_isa.specs.State.{State, with_stack, pushed, at_instr, with_local}
use Rattle.sc_isa.specs.Moves.{After, GoesOn, Move, Comes, local_value, gain_done, act_done}
use Rattle.sc_isa.specs.Table.{does_op, does_instr, step_of}
use Rattle.sc_core.specs.declared.operation.Operation.{Operation}
use Rattle.sc_core.specs.declared.operation.Operation.TheVariants as does
use Rattle.sc_core.specs.declared.operation.Action.{Action}
use Rattle.sc_core.specs.declared.operation.Action.TheVariants as acts
use Rattle.sc_core.specs.Table.{then_made, made_of, done_of, ops_of, ops_of_action, write_op}
use Rattle.sc_meaning.specs.Asking.{PointedDoing, Finishes}
use Rattle.sc_meaning.specs.Steps.{used, decided_by, decided}
use Rattle.meaning_laws.specs.StepTable.{does_ops, with_values, arguments_of, arguments_of_action, track_of, action_track, IsAtSite, ActsAtSite, HasRow}
use Rattle.meaning_laws.proofs.Instructions.{alone, gains_are, pure_is, steps_are_their_instructions, actions_are_their_instructions}
use Rattle.node_emit.specs.Runs.{instr, test_ops}
use Rattle.node_emit.specs.Stands.{Stands}
use Rattle.node_emit.specs.Pointed.{entered_at}
use Rattle.emit_laws.proofs.Parts.{Setup, RunAt}
use Rattle.emit_laws.proofs.Ghosts.{Token, Thing, val, awaited, plain, slot_of, Holder, World, newest, Worth, thing, worths, Ready, MayFrom, Local}
use Rattle.emit_laws.proofs.Masks.{by_bool, mask_slot, mask_all, mask_slots, state_of, GivenBy, AllGiven, CellsGiven}
use Rattle.emit_laws.proofs.Fitting.{Still, seen, taken_values, same_frame, same_state, cells_newest}
use Rattle.emit_laws.proofs.Standing.{Now, Motive, Timely}

one_on : (n : ℕ) → (n + 1 == 0) ≡ false
one_on n = by_bool (n + 1 == 0) (λ e. let f = (Decides-eqb (n + 1) 0).0 e in absurd (let no : ⊥ = omega (arith, f) in no)) (λ e. e)

-- an instruction that is not the first of its run begins none
pub begins_none : (n t : ℕ) (o : Option Stands) → o ≡ Some (record { point = t; number = n + 1 }) → entered_at o ≡ None
begins_none n t o e = ap entered_at e ∙ ap (λ b. if b then Some t else None) (one_on n)

length_worths : (xs : List Worth) → length (worths xs) ≡ length xs
length_worths [] = refl
length_worths (x ∷ xs) = ap suc (length_worths xs)

module _ (c : Setup) (timely : Timely c) (value : ℕ → Value) (m : Motive c value) where
  abbrev pub step_ : State → Move
  step_ = step_of c.code c.here.layout c.here.node

  abbrev pub does_ : Op → ℕ → State → Move
  does_ = does_op c.code c.here.layout c.here.node

  pub by_move : (h : Now) (d : PointedDoing) {a b : Move} → a ≡ b → m.By h b d → m.By h a d
  by_move h d e r = subst (λ move. m.By h move d) (sym e) r

  pub fetched_op : (line : ℕ) (o : Op) (s : State) → slice_get c.code.instrs s.frame.at ≡ Some (instr line o) → step_ s ≡ does_ o line (at_instr (s.frame.at + 1) s)
  fetched_op line o s e = ap (λ x. does_instr c.code c.here.layout c.here.node x s) e

  -- the operands of the step are its values
  valued : (pc n : ℕ) (stack : List Thing) (xs : List Worth) (rest : List Thing) (frames : List Holder) (w : World) → Ready c n w.at stack xs rest → Still c timely w
      → AllGiven value w.accesses stack → state_of pc stack frames w ≡ with_values (worths xs) (state_of pc rest frames w)
  valued pc n stack xs rest frames w ready still given =
      same_state value w.left (same_frame value pc (taken_values c timely value w.accesses n stack xs rest w ready still given) refl) refl refl

  -- ---- steps with a value

  module _ (h : Now) (d : PointedDoing) (o : Operation) (site line end n pc : ℕ) (stack rest : List Thing) (frames : List Holder) (w : World) (xs : List Worth)
      (at_site : IsAtSite c.code site o) (row : HasRow c.code o) (ready : Ready c (arguments_of o) w.at stack xs rest) (still : Still c timely w)
      (given : AllGiven value w.accesses stack) where
    abbrev track : Track
    track = track_of (c.one_way site) site

    abbrev Done_ : List Value → Type 0
    Done_ vs = m.By h (gain_done c.code site track line (state_of end rest frames w) (made_of c.here.layout c.here.node o vs)) d

    one_op : (o1 : Op) → ops_of (c.one_way site) site o ≡ o1 ∷ [] → RunAt c w.at n pc [] (ops_of (c.one_way site) site o) line end
        → Done_ (worths xs) → m.By h (step_ (state_of pc stack frames w)) d
    one_op o1 e r done =
        let vs = worths xs in
        let s = state_of (pc + 1) rest frames w in
        let r' = subst (λ ops. RunAt c w.at n pc [] ops line end) e r in
        let law = subst (λ ops. does_ops c.code c.here.layout c.here.node line ops (with_values vs s) ≡ gain_done c.code site track line s (made_of c.here.layout c.here.node o vs)) e
        (steps_are_their_instructions c.code c.here.layout c.here.node line site (c.one_way site) o vs s at_site row (length_worths xs ∙ ready.count)) in
        by_move h d
        (fetched_op line o1 (state_of pc stack frames w) r'.1
        ∙ ap (does_ o1 line) (valued (pc + 1) (arguments_of o) stack xs rest frames w ready still given)
        ∙ sym (alone (does_ o1 line (with_values vs s))) ∙ law
        ∙ ap (λ e. gain_done c.code site track line (state_of e rest frames w) (made_of c.here.layout c.here.node o vs)) (sym r'.2))
        done

    two_ops : (o1 o2 : Op) (p : Pure) (vs : List Value) (below : List Operand) (k : Value → Made)
        → RunAt c w.at n pc [] (o1 ∷ o2 ∷ []) line end
        → (let s = with_stack below (state_of (pc + 1) rest frames w) in
        does_ o1 line (state_of (pc + 1) stack frames w) ≡ gain_done c.code site track line s (made_by (computed c.here.layout c.here.node p vs)))
        → ((v : Value) → (let s = with_stack below (state_of (pc + 1) rest frames w) in
        does_ o2 line (at_instr (pc + 1 + 1) (pushed (Here v) s)) ≡ gain_done c.code site track line (state_of (pc + 1 + 1) rest frames w) (k v)))
        → m.By h (gain_done c.code site track line (state_of end rest frames w) (then_made (computed c.here.layout c.here.node p vs) k)) d
        → m.By h (step_ (state_of pc stack frames w)) d
    two_ops o1 o2 p vs below k r first second done =
        by_outcome (computed c.here.layout c.here.node p vs)
        (fetched_op line o1 (state_of pc stack frames w) r.1 ∙ first) done
      where
        by_outcome : (outcome : Outcome)
            → (let s = with_stack below (state_of (pc + 1) rest frames w) in step_ (state_of pc stack frames w) ≡ gain_done c.code site track line s (made_by outcome))
            → m.By h (gain_done c.code site track line (state_of end rest frames w) (then_made outcome k)) d
            → m.By h (step_ (state_of pc stack frames w)) d
        by_outcome (gives v) e done =
            let s = pushed (Here v) (with_stack below (state_of (pc + 1) rest frames w)) in
            by_move h d e
            (m.on h s d (m.goes h s d (begins_none n w.at (c.stands (pc + 1)) r.2.0)
            (by_move h d (fetched_op line o2 s r.2.1 ∙ second v)
            (subst (λ e. m.By h (gain_done c.code site track line (state_of e rest frames w) (k v)) d) r.2.2 done))))
        by_outcome (fails kind) e done = by_move h d e done
        by_outcome wrong e done = by_move h d e done

  abbrev StepBy : Operation → Type 0
  StepBy o =
      (h : Now) (d : PointedDoing) (site line end n pc : ℕ) (stack rest : List Thing) (frames : List Holder) (w : World) (xs : List Worth)
      → IsAtSite c.code site o → HasRow c.code o → RunAt c w.at n pc [] (ops_of (c.one_way site) site o) line end
      → Ready c (arguments_of o) w.at stack xs rest → Still c timely w → AllGiven value w.accesses stack
      → m.By h (gain_done c.code site (track_of (c.one_way site) site) line (state_of end rest frames w) (made_of c.here.layout c.here.node o (worths xs))) d
      → m.By h (step_ (state_of pc stack frames w)) d

  by_one : (o : Operation) (o1 : (site : ℕ) → Op) → ((site : ℕ) → ops_of (c.one_way site) site o ≡ o1 site ∷ []) → StepBy o
  by_one o o1 e h d site line end n pc stack rest frames w xs at_site row r ready still given done =
      one_op h d o site line end n pc stack rest frames w xs at_site row ready still given (o1 site) (e site) r done

  by_not : (o : Operation) (o1 : Op) (p : Pure) → ((vs : List Value) → made_of c.here.layout c.here.node o vs
      ≡ then_made (computed c.here.layout c.here.node p vs) (λ v. made_by (computed c.here.layout c.here.node (un Not) (v ∷ []))))
      → ((site : ℕ) → ops_of (c.one_way site) site o ≡ o1 ∷ op.Un Not ∷ []) → arguments_of o ≡ arity p
      → ((line : ℕ) (s : State) → does_ o1 line s ≡ Rattle.sc_isa.specs.Table.gives c.code c.here.layout c.here.node (Rattle.sc_isa.specs.Steps.pure p) line s) → StepBy o
  by_not o o1 p made ops count is_pure h d site line end n pc stack rest frames w xs at_site row r ready still given done =
      let vs = worths xs in
      let s = state_of (pc + 1) rest frames w in
      let track = track_of (c.one_way site) site in
      two_ops h d o site line end n pc stack rest frames w xs at_site row ready still given o1 (op.Un Not) p vs (mask_all w.flying rest)
      (λ v. made_by (computed c.here.layout c.here.node (un Not) (v ∷ [])))
      (subst (λ ops. RunAt c w.at n pc [] ops line end) (ops site) r)
      (ap (does_ o1 line) (valued (pc + 1) (arguments_of o) stack xs rest frames w ready still given) ∙ is_pure line (with_values vs s)
      ∙ pure_is c.code c.here.layout c.here.node line p site track vs s (length_worths xs ∙ ready.count ∙ count))
      (λ v. pure_is c.code c.here.layout c.here.node line (un Not) site track (v ∷ []) (state_of (pc + 1 + 1) rest frames w) refl)
      (subst (λ made. m.By h (gain_done c.code site track line (state_of end rest frames w) made) d) (made vs) done)

  pub step_by : (o : Operation) → StepBy o
  step_by (does.Use x) = by_one (does.Use x) (λ site. op.Load x) (λ site. refl)
  step_by (does.Element o n plain) = by_one (does.Element o n plain) (λ site. op.Elem o n) (λ site. refl)
  step_by (does.Address o n) = by_one (does.Address o n) (λ site. op.Elem o n) (λ site. refl)
  step_by does.Own = by_one does.Own (λ site. op.Glob) (λ site. refl)
  step_by does.Convert = by_one does.Convert (λ site. op.Glob) (λ site. refl)
  step_by (does.Forward star) = by_one (does.Forward star) (λ site. op.Step star) (λ site. refl)
  step_by (does.Back star) = by_back
    where
      by_back : StepBy (does.Back star)
      by_back h d site line end n pc stack rest frames w [] at_site row r ready still given done = absurd (let e = ready.count in let no : ⊥ = omega (arith, e) in no)
      by_back h d site line end n pc stack rest frames w (x ∷ []) at_site row r ready still given done = absurd (let e = ready.count in let no : ⊥ = omega (arith, e) in no)
      by_back h d site line end n pc stack rest frames w (x ∷ y ∷ []) at_site row r ready still given done =
          let s = state_of (pc + 1) rest frames w in
          let track = track_of (c.one_way site) site in
          two_ops h d (does.Back star) site line end n pc stack rest frames w (x ∷ y ∷ []) at_site row ready still given (op.Un Minus) (op.Step star) (un Minus) (y.value ∷ [])
          (Here x.value ∷ mask_all w.flying rest) (λ v. made_by (computed c.here.layout c.here.node (step star) (x.value ∷ v ∷ []))) r
          (ap (does_ (op.Un Minus) line) (valued (pc + 1) 2 stack (x ∷ y ∷ []) rest frames w ready still given)
          ∙ pure_is c.code c.here.layout c.here.node line (un Minus) site track (y.value ∷ []) (with_stack (Here x.value ∷ mask_all w.flying rest) s) refl)
          (λ v. pure_is c.code c.here.layout c.here.node line (step star) site track (x.value ∷ v ∷ []) (state_of (pc + 1 + 1) rest frames w) refl)
          done
      by_back h d site line end n pc stack rest frames w (x ∷ y ∷ z ∷ xs) at_site row r ready still given done = absurd (let e = ready.count in let no : ⊥ = omega (arith, e) in no)
  step_by (does.Binary operator) = by_one (does.Binary operator) (λ site. op.Bin operator) (λ site. refl)
  step_by (does.Unary operator) = by_one (does.Unary operator) (λ site. op.Un operator) (λ site. refl)
  step_by does.Same = by_one does.Same (λ site. op.Same) (λ site. refl)
  step_by does.Differ = by_not does.Differ op.Same same (λ vs. refl) (λ site. refl) refl (λ line s. refl)
  step_by does.IsNull = by_not does.IsNull op.Truth truth (λ vs. refl) (λ site. refl) refl (λ line s. refl)
  step_by does.ToGlobal = by_one does.ToGlobal (λ site. op.ToGlobal) (λ site. refl)
  step_by does.ToProc = by_one does.ToProc (λ site. op.ToProc) (λ site. refl)
  step_by does.ToLocal = by_one does.ToLocal (λ site. op.ToLocal) (λ site. refl)
  step_by (does.Set x) = by_one (does.Set x) (λ site. op.Set x) (λ site. refl)
  step_by (does.Call f k) = by_one (does.Call f k) (λ site. op.Call f) (λ site. refl)
  step_by does.Read = by_one does.Read (λ site. op.Read site) (λ site. refl)
  step_by does.Write = by_one does.Write (λ site. write_op (c.one_way site) site) (λ site. refl)

  -- ---- locals

  -- the local's value has landed, or a get of it is pending
  given_in : (n : ℕ) (f : List Thing) (x : ℕ) (v : Thing) → AllGiven value n f → slice_get f x ≡ Some v → GivenBy value n v
  given_in n [] x v h e = absurd (cc)
  given_in n (d ∷ ds) zero v h e = subst (GivenBy value n) (let q : d ≡ v = cc in q) h.0
  given_in n (d ∷ ds) (suc x) v h e = given_in n ds x v h.1 e

  slot_shown : (fl : List Token) (f : List Thing) (x : ℕ) (v : Thing) → slice_get f x ≡ Some v → slice_get (mask_slots fl f) x ≡ Some (mask_slot fl v)
  slot_shown fl [] x v e = absurd (cc)
  slot_shown fl (d ∷ ds) zero v e = let q : d ≡ v = cc in ap (λ u. Some (mask_slot fl u)) q
  slot_shown fl (d ∷ ds) (suc x) v e = slot_shown fl ds x v e

  pub local_by : (h : Now) (w : World) (line x : ℕ) (cell : Thing) (go : Value → PointedDoing) (K : Value → Move) → Local c w x cell → Still c timely w
      → CellsGiven value w.accesses w.cells
      → ((v : Value) (from : Option Token) → cell ≡ val v from → m.By h (K v) (go v))
      → m.By h (local_value Comes line (slice_get (mask_slots w.flying (newest w.cells)) x) K) (used line (slot_of cell) go)
  local_by h w line x (val v from) go K local still given next =
      by_move h (go v)
      (ap (λ o. local_value Comes line o K) (slot_shown w.flying (newest w.cells) x (val v from) local.is
      ∙ ap (λ o. Some (Holds o)) (seen c timely value w.accesses w.at v from w.flying still local.may
      (given_in w.accesses (newest w.cells) x (val v from) (cells_newest value w.accesses w.cells given) local.is))))
      (next v from refl)
  local_by h w line x (awaited n) go K local still given next =
      by_move h (Stops (Finishes (Fault PendingUse line)))
      (ap (λ o. local_value Comes line o K) (slot_shown w.flying (newest w.cells) x (awaited n) local.is))
      (m.ends h (Fault PendingUse line))

  -- the same behind an access
  pub local_after : (h : Now) (w : World) (line x : ℕ) (cell : Thing) (go : Value → PointedDoing) (K : Value → After) → Local c w x cell → Still c timely w
      → CellsGiven value w.accesses w.cells
      → ((v : Value) (from : Option Token) → cell ≡ val v from → m.By h (Comes (K v)) (go v))
      → m.By h (Comes (local_value (λ after. after) line (slice_get (mask_slots w.flying (newest w.cells)) x) K)) (used line (slot_of cell) go)
  local_after h w line x (val v from) go K local still given next =
      by_move h (go v)
      (ap (λ o. Comes (local_value (λ after. after) line o K)) (slot_shown w.flying (newest w.cells) x (val v from) local.is
      ∙ ap (λ o. Some (Holds o)) (seen c timely value w.accesses w.at v from w.flying still local.may
      (given_in w.accesses (newest w.cells) x (val v from) (cells_newest value w.accesses w.cells given) local.is))))
      (next v from refl)
  local_after h w line x (awaited n) go K local still given next =
      by_move h (Stops (Finishes (Fault PendingUse line)))
      (ap (λ o. Comes (local_value (λ after. after) line o K)) (slot_shown w.flying (newest w.cells) x (awaited n) local.is))
      (m.ends h (Fault PendingUse line))

  -- ---- steps without a value

  abbrev ActBy : Action → Type 0
  ActBy a =
      (h : Now) (d : PointedDoing) (site line end n pc : ℕ) (stack rest : List Thing) (frames : List Holder) (w : World) (xs : List Worth)
      → ActsAtSite c.code site a → RunAt c w.at n pc [] (ops_of_action site a) line end
      → Ready c (arguments_of_action a) w.at stack xs rest → Still c timely w → AllGiven value w.accesses stack
      → m.By h (act_done site (action_track site a) line (state_of end rest frames w) (done_of c.here.layout c.here.program.texts a (worths xs))) d
      → m.By h (step_ (state_of pc stack frames w)) d

  act_one : (a : Action) (o1 : (site : ℕ) → Op) → ((site : ℕ) → ops_of_action site a ≡ o1 site ∷ []) → ActBy a
  act_one a o1 e h d site line end n pc stack rest frames w xs at_site r ready still given done =
      let vs = worths xs in
      let s = state_of (pc + 1) rest frames w in
      let r' = subst (λ ops. RunAt c w.at n pc [] ops line end) (e site) r in
      let law = subst (λ ops. does_ops c.code c.here.layout c.here.node line ops (with_values vs s)
      ≡ act_done site (action_track site a) line s (done_of c.here.layout c.code.texts a vs)) (e site)
      (actions_are_their_instructions c.code c.here.layout c.here.node line site a vs s at_site (length_worths xs ∙ ready.count)) in
      by_move h d
      (fetched_op line (o1 site) (state_of pc stack frames w) r'.1
      ∙ ap (does_ (o1 site) line) (valued (pc + 1) (arguments_of_action a) stack xs rest frames w ready still given)
      ∙ sym (alone (does_ (o1 site) line (with_values vs s))) ∙ law
      ∙ ap (λ texts. act_done site (action_track site a) line s (done_of c.here.layout texts a vs)) timely.texts
      ∙ ap (λ e. act_done site (action_track site a) line (state_of e rest frames w) (done_of c.here.layout c.here.program.texts a vs)) (sym r'.2))
      done

  -- a local's initial value is set, and the value that stands for the step is dropped
  act_begin : (x : ℕ) → ActBy (acts.Begin x)
  act_begin x h d site line end n pc stack rest frames w [] at_site r ready still given done = absurd (let e = ready.count in let no : ⊥ = omega (arith, e) in no)
  act_begin x h d site line end n pc stack rest frames w (y ∷ z ∷ xs) at_site r ready still given done = absurd (let e = ready.count in let no : ⊥ = omega (arith, e) in no)
  act_begin x h d site line end n pc stack rest frames w (y ∷ []) at_site r ready still given done =
      by_move h d
      (fetched_op line (op.Set x) (state_of pc stack frames w) r.1
      ∙ ap (does_ (op.Set x) line) (valued (pc + 1) 1 stack (y ∷ []) rest frames w ready still given)
      ∙ gains_are c.code c.here.layout c.here.node line (set x) 0 (Counter 0) (y.value ∷ []) (state_of (pc + 1) rest frames w) refl)
      (by_slot (slice_get (mask_slots w.flying (newest w.cells)) x) done)
    where
      by_slot : (o : Option Slot)
          → m.By h (local_value Comes line o (λ old. Comes (GoesOn (with_local x (Holds (Here y.value)) (state_of end rest frames w))))) d
          → m.By h (local_value Comes line o (λ old. Comes (GoesOn (pushed (Here y.value) (with_local x (Holds (Here y.value)) (state_of (pc + 1) rest frames w)))))) d
      by_slot None done = done
      by_slot (Some (Holds (Here v))) done =
          let s = pushed (Here y.value) (with_local x (Holds (Here y.value)) (state_of (pc + 1) rest frames w)) in
          m.on h s d (m.goes h s d (begins_none n w.at (c.stands (pc + 1)) r.2.0)
          (by_move h d (fetched_op line op.Drop s r.2.1
          ∙ ap (λ e. Comes (GoesOn (with_local x (Holds (Here y.value)) (state_of e rest frames w)))) (sym r.2.2)) done))
      by_slot (Some (Holds (Landing counter number))) done = done
      by_slot (Some (Pending number)) done = done

  pub act_by : (a : Action) → ActBy a
  act_by acts.Drop = act_one acts.Drop (λ site. op.Drop) (λ site. refl)
  act_by (acts.Begin x) = act_begin x
  act_by (acts.Clear x pointer) = act_one (acts.Clear x pointer) (λ site. op.Clear x pointer) (λ site. refl)
  act_by (acts.Fill x) = act_one (acts.Fill x) (λ site. op.Fill site x) (λ site. refl)
  act_by (acts.Get x) = act_one (acts.Get x) (λ site. op.Get site x) (λ site. refl)
  act_by acts.Put = act_one acts.Put (λ site. op.Put site) (λ site. refl)
  act_by acts.Send = act_one acts.Send (λ site. op.Send site) (λ site. refl)
  act_by (acts.Copy mode) = act_one (acts.Copy mode) (λ site. op.Copy site mode) (λ site. refl)
  act_by (acts.Print text k) = act_one (acts.Print text k) (λ site. op.Print text k) (λ site. refl)
  act_by acts.Sync = act_one acts.Sync (λ site. op.Wait 0) (λ site. refl)
  act_by acts.Barrier = act_one acts.Barrier (λ site. op.Barrier) (λ site. refl)
  act_by acts.AllStoreSync = act_one acts.AllStoreSync (λ site. op.AllSync) (λ site. refl)

  -- ---- tests

  -- the top of the stack has landed
  top_seen : (pc : ℕ) (x : Worth) (stack : List Thing) (frames : List Holder) (w : World) → MayFrom c w.at x.from → Still c timely w → GivenBy value w.accesses (thing x)
      → state_of pc (thing x ∷ stack) frames w ≡ pushed (Here x.value) (state_of pc stack frames w)
  top_seen pc x stack frames w may still given =
      same_state value w.left (same_frame value pc (ap (λ o. o ∷ mask_all w.flying stack) (seen c timely value w.accesses w.at x.value x.from w.flying still may given)) refl) refl refl

  zero_by : (h : Now) (line target : ℕ) (v : Value) (s : State) (on off : PointedDoing) → m.By h (Comes (GoesOn s)) on → m.By h (Comes (GoesOn (at_instr target s))) off
      → m.By h (does_ (op.Zero target) line (pushed (Here v) s)) (decided_by v on off)
  zero_by h line target (Int (pos zero)) s on off a b = b
  zero_by h line target (Int (pos (suc n))) s on off a b = a
  zero_by h line target (Int (negsuc n)) s on off a b = a
  zero_by h line target Null s on off a b = m.breaks h _
  zero_by h line target (Ptr o p q) s on off a b = m.breaks h _

  pub test_by : (of_pointer : Bool) (h : Now) (target end n pc : ℕ) (x : Worth) (stack : List Thing) (frames : List Holder) (w : World) (on off : PointedDoing)
      → RunAt c w.at n pc [] (test_ops of_pointer target) 0 end → MayFrom c w.at x.from → Still c timely w → GivenBy value w.accesses (thing x)
      → m.By h (Comes (GoesOn (state_of end stack frames w))) on → m.By h (Comes (GoesOn (state_of target stack frames w))) off
      → m.By h (step_ (state_of pc (thing x ∷ stack) frames w)) (decided c.here.layout c.here.node of_pointer x.value on off)
  test_by false h target end n pc x stack frames w on off r may still given a b =
      by_move h (decided_by x.value on off)
      (fetched_op 0 (op.Zero target) (state_of pc (thing x ∷ stack) frames w) r.1
      ∙ ap (does_ (op.Zero target) 0) (top_seen (pc + 1) x stack frames w may still given))
      (zero_by h 0 target x.value (state_of (pc + 1) stack frames w) on off (subst (λ e. m.By h (Comes (GoesOn (state_of e stack frames w))) on) r.2 a) b)
  test_by true h target end n pc x stack frames w on off r may still given a b =
      let v = bit (is_true x.value) in
      let s = pushed (Here v) (state_of (pc + 1) stack frames w) in
      by_move h (decided_by v on off)
      (fetched_op 0 op.Truth (state_of pc (thing x ∷ stack) frames w) r.1
      ∙ ap (does_ op.Truth 0) (top_seen (pc + 1) x stack frames w may still given))
      (m.on h s (decided_by v on off) (m.goes h s (decided_by v on off) (begins_none n w.at (c.stands (pc + 1)) r.2.0)
      (by_move h (decided_by v on off) (fetched_op 0 (op.Zero target) s r.2.1)
      (zero_by h 0 target v (state_of (pc + 1 + 1) stack frames w) on off (subst (λ e. m.By h (Comes (GoesOn (state_of e stack frames w))) on) r.2.2 a) b))))

  pub ret_top : (pc : ℕ) (x : Worth) (stack : List Thing) (frames : List Holder) (w : World) → MayFrom c w.at x.from → Still c timely w → GivenBy value w.accesses (thing x)
      → state_of pc (thing x ∷ stack) frames w ≡ pushed (Here x.value) (state_of pc stack frames w)
  ret_top pc x stack frames w may still given = top_seen pc x stack frames w may still given
