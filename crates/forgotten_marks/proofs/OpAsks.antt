-- What each instruction asks: which access it issues, on which track, where it waits, and which barrier it meets.
use Rattle.std.proofs.Common.{◌≡◌, ℕ, zero, suc, ◌==◌, ◌%◌, ◌/◌, ◌&&◌, Option, Some, None, Bool, true, false, if◌then◌else◌, nat_lt, nat_le, List, [], ◌∷◌, slice_get, Result, Ok, Err, refl}
use Rattle.std.specs.Prelude.{ℤ, pos, negsuc}
use Rattle.sc_base.specs.declared.value.FaultKind.{FaultKind}
use Rattle.sc_base.specs.declared.value.FaultKind.TheVariants.{BadSize}
use Rattle.sc_base.specs.declared.value.Place.{Place}
use Rattle.sc_base.specs.declared.value.Value.{Value}
use Rattle.sc_base.specs.declared.value.Value.TheVariants.{Int, Null, Ptr}
use Rattle.sc_layout.specs.Layout.{Arrangement}
use Rattle.sc_isa.specs.declared.access.Access.{Access}
use Rattle.sc_isa.specs.declared.access.Access.TheVariants as access
use Rattle.sc_isa.specs.declared.access.Track.{Track}
use Rattle.sc_isa.specs.declared.access.Track.TheVariants as tracks
use Rattle.sc_isa.specs.declared.code.Code.{Code}
use Rattle.sc_isa.specs.declared.code.FnRow.{FnRow}
use Rattle.sc_isa.specs.declared.op.Op.{Op}
use Rattle.sc_isa.specs.declared.op.Op.TheVariants as op
use Rattle.sc_isa.specs.declared.operand.Operand.{Operand}
use Rattle.sc_isa.specs.declared.operand.Operand.TheVariants.{Here, Landing}
use Rattle.sc_isa.specs.declared.operand.Slot.{Slot}
use Rattle.sc_isa.specs.declared.operand.Slot.TheVariants.{Holds, Pending}
use Rattle.sc_isa.specs.Elements.{Outcome, gives, fails, wrong}
use Rattle.sc_isa.specs.Pure.{push, null, mine, procs, elem, step, glob, to_local, to_proc, to_global, bin, un, same, truth, computed, is_pointer, ints}
use Rattle.sc_isa.specs.Deeds.{Gain, pure, load, set, read, write, call, Act, drop, clear, print, fill, get, put, send, copy, wait, barrier, takes, uses_up, Spotted, found, missing, nowhere, spotted, spanned, made_by, reading, writing, made, done, printing, filling, getting, putting, copied_from, copied, copying}
use Rattle.sc_isa.specs.Deeds.{Made, makes, faults, stuck, uses, sets, reads, writes, calls, Done, lets_go, ends, sticks, clears, prints, fills, gets, misses, puts, sends, copies, waits, meets}
use Rattle.sc_isa.specs.State.{State, with_stack}
use Rattle.sc_isa.specs.Moves.{Sticks, Move, Comes, Issues, Waits, Meets, Says, Taken, taken, local_value, gain_done, act_done}
use Rattle.sc_isa.specs.Table.{gained, acted, duplicated, dropped, swapped, jumped, left_with, copy_track, at_site, at_counter, calls_row, prints_text, does_op}

abbrev pub AccessBy : Op → Access → Type 0
AccessBy (op.Read n) (access.Read place track) = track ≡ tracks.Counter n
AccessBy (op.Fill n x) (access.Read place track) = track ≡ tracks.Counter n
AccessBy (op.Write n) (access.Write place value track) = track ≡ tracks.Counter n
AccessBy (op.Store n) (access.Write place value track) = track ≡ tracks.Covered
AccessBy (op.Get n x) (access.Read place track) = track ≡ tracks.Counter 0
AccessBy (op.Put n) (access.Write place value track) = track ≡ tracks.Counter 0
AccessBy (op.Send n) (access.Write place value track) = track ≡ tracks.Store
AccessBy (op.Copy n mode) (access.Copy from to cells track) = track ≡ copy_track n mode
AccessBy _ _ = ⊥

abbrev pub WaitBy : Op → ℕ → Type 0
WaitBy (op.Wait c) counter = counter ≡ c
WaitBy _ counter = ⊥

abbrev pub MeetBy : Op → Bool → Type 0
MeetBy op.Barrier stores = stores ≡ false
MeetBy op.AllSync stores = stores ≡ true
MeetBy _ stores = ⊥

module _ (A : Access → Type 0) (W : ℕ → Type 0) (M : Bool → Type 0) where
  abbrev pub MoveAsks : Move → Type 0
  MoveAsks (Comes after) = Unit {0}
  MoveAsks (Issues a after) = A a
  MoveAsks (Waits counter s) = W counter
  MoveAsks (Meets stores s) = M stores
  MoveAsks (Says text s) = Unit {0}

  local_asks : (line : ℕ) (slot : Option Slot) (go : Value → Move) → ((v : Value) → MoveAsks (go v)) → MoveAsks (local_value Comes line slot go)
  local_asks line None go h = tt
  local_asks line (Some (Holds (Here v))) go h = h v
  local_asks line (Some (Holds (Landing c n))) go h = tt
  local_asks line (Some (Pending n)) go h = tt

  module _ (site : ℕ) (track : Track) where
    abbrev pub MadeAsks : Made → Type 0
    MadeAsks (reads p) = A (access.Read p (tracks.Counter site))
    MadeAsks (writes p v) = A (access.Write p v track)
    MadeAsks _ = Unit {0}

    abbrev pub GainAsks : Gain → Type 0
    GainAsks read = (p : Place) → A (access.Read p (tracks.Counter site))
    GainAsks write = (p : Place) (v : Value) → A (access.Write p v track)
    GainAsks _ = Unit {0}

    made_by_asks : (o : Outcome) → MadeAsks (made_by o)
    made_by_asks (gives v) = tt
    made_by_asks (fails k) = tt
    made_by_asks wrong = tt

    reading_asks : (p : Spotted) → ((p : Place) → A (access.Read p (tracks.Counter site))) → MadeAsks (reading p)
    reading_asks (found p) h = h p
    reading_asks (missing k) h = tt
    reading_asks nowhere h = tt

    writing_asks : (p : Spotted) (v : Value) → ((p : Place) (v : Value) → A (access.Write p v track)) → MadeAsks (writing p v)
    writing_asks (found p) v h = h p v
    writing_asks (missing k) v h = tt
    writing_asks nowhere v h = tt

    made_asks : (layout : Arrangement) (node : ℕ) (g : Gain) (values : List Value) → GainAsks g → MadeAsks (made layout node g values)
    made_asks layout node (pure p) values h = made_by_asks (computed layout node p values)
    made_asks layout node (load x) [] h = tt
    made_asks layout node (load x) (a ∷ vs) h = tt
    made_asks layout node (set x) [] h = tt
    made_asks layout node (set x) (a ∷ []) h = tt
    made_asks layout node (set x) (a ∷ b ∷ vs) h = tt
    made_asks layout node read [] h = tt
    made_asks layout node read (a ∷ []) h = reading_asks (spotted layout a) h
    made_asks layout node read (a ∷ b ∷ vs) h = tt
    made_asks layout node write [] h = tt
    made_asks layout node write (a ∷ []) h = tt
    made_asks layout node write (a ∷ b ∷ []) h = writing_asks (spotted layout a) b h
    made_asks layout node write (a ∷ b ∷ c ∷ vs) h = tt
    made_asks layout node (call f n) values h = tt

    gain_asks : (code : Code) (line : ℕ) (s : State) (m : Made) → MadeAsks m → MoveAsks (gain_done code site track line s m)
    gain_asks code line s (makes v) h = tt
    gain_asks code line s (faults k) h = tt
    gain_asks code line s stuck h = tt
    gain_asks code line s (uses x) h = local_asks line (slice_get s.frame.locals x) _ (λ v. tt)
    gain_asks code line s (sets x v) h = local_asks line (slice_get s.frame.locals x) _ (λ v. tt)
    gain_asks code line s (reads p) h = h
    gain_asks code line s (writes p v) h = h
    gain_asks code line s (calls f vs) h = tt

    abbrev pub DoneAsks : Done → Type 0
    DoneAsks (fills x p) = A (access.Read p (tracks.Counter site))
    DoneAsks (gets x p) = A (access.Read p (tracks.Counter 0))
    DoneAsks (puts p v) = A (access.Write p v track)
    DoneAsks (sends p v) = A (access.Write p v track)
    DoneAsks (copies a b n) = A (access.Copy a b n track)
    DoneAsks (waits counter) = W counter
    DoneAsks (meets stores) = M stores
    DoneAsks _ = Unit {0}

    abbrev pub ActAsks : Act → Type 0
    ActAsks (fill x) = (p : Place) → A (access.Read p (tracks.Counter site))
    ActAsks (get x) = (p : Place) → A (access.Read p (tracks.Counter 0))
    ActAsks put = (p : Place) (v : Value) → A (access.Write p v track)
    ActAsks send = (p : Place) (v : Value) → A (access.Write p v track)
    ActAsks copy = (a b : Place) (n : ℕ) → A (access.Copy a b n track)
    ActAsks (wait counter) = W counter
    ActAsks (barrier stores) = M stores
    ActAsks _ = Unit {0}

    act_asks : (line : ℕ) (s : State) (d : Done) → DoneAsks d → MoveAsks (act_done site track line s d)
    act_asks line s lets_go h = tt
    act_asks line s (ends k) h = tt
    act_asks line s sticks h = tt
    act_asks line s (clears x v) h = local_asks line (slice_get s.frame.locals x) _ (λ v. tt)
    act_asks line s (prints text) h = tt
    act_asks line s (fills x p) h = h
    act_asks line s (gets x p) h = local_asks line (slice_get s.frame.locals x) _ (λ v. h)
    act_asks line s (misses x k) h = local_asks line (slice_get s.frame.locals x) _ (λ v. tt)
    act_asks line s (puts p v) h = h
    act_asks line s (sends p v) h = h
    act_asks line s (copies a b n) h = h
    act_asks line s (waits c) h = h
    act_asks line s (meets b) h = h

    printing_asks : (format : List ℕ) (o : Option (List ℤ)) → DoneAsks (printing format o)
    printing_asks format None = tt
    printing_asks format (Some values) = tt

    filling_asks : (x : ℕ) (p : Spotted) → ((p : Place) → A (access.Read p (tracks.Counter site))) → DoneAsks (filling x p)
    filling_asks x (found p) h = h p
    filling_asks x (missing k) h = tt
    filling_asks x nowhere h = tt

    getting_asks : (x : ℕ) (p : Spotted) → ((p : Place) → A (access.Read p (tracks.Counter 0))) → DoneAsks (getting x p)
    getting_asks x (found p) h = h p
    getting_asks x (missing k) h = tt
    getting_asks x nowhere h = tt

    puts_asks : (p : Spotted) (v : Value) → ((p : Place) (v : Value) → A (access.Write p v track)) → DoneAsks (putting puts p v)
    puts_asks (found p) v h = h p v
    puts_asks (missing k) v h = tt
    puts_asks nowhere v h = tt

    sends_asks : (p : Spotted) (v : Value) → ((p : Place) (v : Value) → A (access.Write p v track)) → DoneAsks (putting sends p v)
    sends_asks (found p) v h = h p v
    sends_asks (missing k) v h = tt
    sends_asks nowhere v h = tt

    copied_from_asks : (to : Place) (cells : ℕ) (from : Result Place FaultKind) → ((a b : Place) (n : ℕ) → A (access.Copy a b n track)) → DoneAsks (copied_from to cells from)
    copied_from_asks to cells (Ok from) h = h from to cells
    copied_from_asks to cells (Err k) h = tt

    copied_asks : (layout : Arrangement) (cells : ℕ) (to : Result Place FaultKind) (from : Value) → ((a b : Place) (n : ℕ) → A (access.Copy a b n track))
        → DoneAsks (copied layout cells to from)
    copied_asks layout cells (Ok to) from h = copied_from_asks to cells (spanned layout cells from) h
    copied_asks layout cells (Err k) from h = tt

    copying_asks : (layout : Arrangement) (to from : Value) (bytes : ℤ) → ((a b : Place) (n : ℕ) → A (access.Copy a b n track)) → DoneAsks (copying layout to from bytes)
    copying_asks layout to from (pos zero) h = tt
    copying_asks layout to from (pos (suc n)) h =
        elim (suc n % 8 == 0) as
        (λ b. DoneAsks (if b then copied layout (suc n / 8) (spanned layout (suc n / 8) to) from else ends BadSize)) [
          | true ↦ copied_asks layout (suc n / 8) (spanned layout (suc n / 8) to) from h
          | false ↦ tt
        ]
    copying_asks layout to from (negsuc n) h = tt

    copy_asks : (layout : Arrangement) (to from : Value) (bytes : ℤ) (b : Bool) → ((a b : Place) (n : ℕ) → A (access.Copy a b n track))
        → DoneAsks (if b then copying layout to from bytes else sticks)
    copy_asks layout to from bytes true h = copying_asks layout to from bytes h
    copy_asks layout to from bytes false h = tt

    done_asks : (layout : Arrangement) (a : Act) (values : List Value) → ActAsks a → DoneAsks (done layout a values)
    done_asks layout drop [] h = tt
    done_asks layout drop (v ∷ []) h = tt
    done_asks layout drop (v ∷ w ∷ vs) h = tt
    done_asks layout (clear x p) [] h = tt
    done_asks layout (clear x p) (v ∷ vs) h = tt
    done_asks layout (print format count) values h = printing_asks format (ints values)
    done_asks layout (fill x) [] h = tt
    done_asks layout (fill x) (p ∷ []) h = filling_asks x (spotted layout p) h
    done_asks layout (fill x) (p ∷ q ∷ vs) h = tt
    done_asks layout (get x) [] h = tt
    done_asks layout (get x) (p ∷ []) h = getting_asks x (spotted layout p) h
    done_asks layout (get x) (p ∷ q ∷ vs) h = tt
    done_asks layout put [] h = tt
    done_asks layout put (p ∷ []) h = tt
    done_asks layout put (p ∷ v ∷ []) h = puts_asks (spotted layout p) v h
    done_asks layout put (p ∷ v ∷ w ∷ vs) h = tt
    done_asks layout send [] h = tt
    done_asks layout send (p ∷ []) h = tt
    done_asks layout send (p ∷ v ∷ []) h = sends_asks (spotted layout p) v h
    done_asks layout send (p ∷ v ∷ w ∷ vs) h = tt
    done_asks layout copy [] h = tt
    done_asks layout copy (a ∷ []) h = tt
    done_asks layout copy (a ∷ b ∷ []) h = tt
    done_asks layout copy (a ∷ b ∷ Int n ∷ []) h = copy_asks layout a b n (is_pointer layout a && is_pointer layout b) h
    done_asks layout copy (a ∷ b ∷ Int n ∷ c ∷ vs) h = tt
    done_asks layout copy (a ∷ b ∷ Null ∷ vs) h = tt
    done_asks layout copy (a ∷ b ∷ Ptr o p q ∷ vs) h = tt
    done_asks layout (wait counter) [] h = h
    done_asks layout (wait counter) (v ∷ vs) h = tt
    done_asks layout (barrier stores) [] h = h
    done_asks layout (barrier stores) (v ∷ vs) h = tt

    gained_asks : (code : Code) (layout : Arrangement) (node : ℕ) (g : Gain) (line : ℕ) (s : State) (t : Option Taken) → GainAsks g
        → MoveAsks (gained code layout node g site track line s t)
    gained_asks code layout node g line s None h = tt
    gained_asks code layout node g line s (Some t) h =
        gain_asks code line (with_stack t.rest s) (made layout node g t.values) (made_asks layout node g t.values h)

    acted_asks : (layout : Arrangement) (a : Act) (line : ℕ) (s : State) (t : Option Taken) → ActAsks a → MoveAsks (acted layout a site track line s t)
    acted_asks layout a line s None h = tt
    acted_asks layout a line s (Some t) h = act_asks line (with_stack t.rest s) (done layout a t.values) (done_asks layout a t.values h)

  site_asks : (code : Code) (site : ℕ) (move : Move) → MoveAsks move → MoveAsks (at_site code site move)
  site_asks code site move h = go (nat_lt 0 site && nat_le site code.sites)
    where
      go : (b : Bool) → MoveAsks (if b then move else Comes Sticks)
      go true = h
      go false = tt

  counter_asks : (code : Code) (counter : ℕ) (move : Move) → MoveAsks move → MoveAsks (at_counter code counter move)
  counter_asks code counter move h = go (nat_le counter code.sites)
    where
      go : (b : Bool) → MoveAsks (if b then move else Comes Sticks)
      go true = h
      go false = tt

  module _ (code : Code) (layout : Arrangement) (node : ℕ) where
    gain_op : (g : Gain) (site : ℕ) (track : Track) (line : ℕ) (s : State) → GainAsks site track g
        → MoveAsks (gained code layout node g site track line s (taken (takes g) [] s.frame.stack))
    gain_op g site track line s h = gained_asks site track code layout node g line s (taken (takes g) [] s.frame.stack) h

    act_op : (a : Act) (site : ℕ) (track : Track) (line : ℕ) (s : State) → ActAsks site track a
        → MoveAsks (acted layout a site track line s (taken (uses_up a) [] s.frame.stack))
    act_op a site track line s h = acted_asks site track layout a line s (taken (uses_up a) [] s.frame.stack) h

    dup_asks : (s : State) (stack : List Operand) → MoveAsks (duplicated s stack)
    dup_asks s [] = tt
    dup_asks s (o ∷ stack) = tt

    drop_asks : (s : State) (stack : List Operand) → MoveAsks (dropped s stack)
    drop_asks s [] = tt
    drop_asks s (o ∷ stack) = tt

    swap_asks : (s : State) (stack : List Operand) → MoveAsks (swapped s stack)
    swap_asks s [] = tt
    swap_asks s (o ∷ []) = tt
    swap_asks s (o ∷ p ∷ stack) = tt

    jump_asks : (target : ℕ) (s : State) (stack : List Operand) → MoveAsks (jumped target s stack)
    jump_asks target s [] = tt
    jump_asks target s (Here (Int (pos zero)) ∷ stack) = tt
    jump_asks target s (Here (Int (pos (suc n))) ∷ stack) = tt
    jump_asks target s (Here (Int (negsuc n)) ∷ stack) = tt
    jump_asks target s (Here Null ∷ stack) = tt
    jump_asks target s (Here (Ptr o p q) ∷ stack) = tt
    jump_asks target s (Landing c n ∷ stack) = tt

    call_asks : (f line : ℕ) (s : State) (o : Option FnRow) → MoveAsks (calls_row code layout node f o line s)
    call_asks f line s None = tt
    call_asks f line s (Some row) = gain_op (call f row.params) 0 (tracks.Counter 0) line s tt

    left_asks : (line : ℕ) (s : State) (stack : List Operand) → MoveAsks (left_with line s stack)
    left_asks line s [] = tt
    left_asks line s (Here v ∷ stack) = tt
    left_asks line s (Landing c n ∷ stack) = tt

    print_asks : (o : Option (List ℕ)) (count line : ℕ) (s : State) → MoveAsks (prints_text code layout node o count line s)
    print_asks None count line s = tt
    print_asks (Some format) count line s = act_op (print format count) 0 (tracks.Counter 0) line s tt

-- what the instruction asks, if it asks
abbrev pub Asks_ : Op → Move → Type 0
Asks_ o move = MoveAsks (AccessBy o) (WaitBy o) (MeetBy o) move

module _ (code : Code) (layout : Arrangement) (node : ℕ) where
  gain_of : (o : Op) (g : Gain) (site : ℕ) (track : Track) (line : ℕ) (s : State) → GainAsks (AccessBy o) (WaitBy o) (MeetBy o) site track g
      → Asks_ o (gained code layout node g site track line s (taken (takes g) [] s.frame.stack))
  gain_of o g site track line s h = gain_op (AccessBy o) (WaitBy o) (MeetBy o) code layout node g site track line s h

  act_of : (o : Op) (a : Act) (site : ℕ) (track : Track) (line : ℕ) (s : State) → ActAsks (AccessBy o) (WaitBy o) (MeetBy o) site track a
      → Asks_ o (acted layout a site track line s (taken (uses_up a) [] s.frame.stack))
  act_of o a site track line s h = act_op (AccessBy o) (WaitBy o) (MeetBy o) code layout node a site track line s h

  at_of : (o : Op) (site : ℕ) (move : Move) → Asks_ o move → Asks_ o (at_site code site move)
  at_of o site move h = site_asks (AccessBy o) (WaitBy o) (MeetBy o) code site move h

  pub op_asks : (o : Op) (line : ℕ) (s : State) → Asks_ o (does_op code layout node o line s)
  op_asks (op.Push n) line s = gain_of (op.Push n) (pure (push n)) 0 (tracks.Counter 0) line s tt
  op_asks op.Null line s = gain_of op.Null (pure null) 0 (tracks.Counter 0) line s tt
  op_asks op.Mine line s = gain_of op.Mine (pure mine) 0 (tracks.Counter 0) line s tt
  op_asks op.Procs line s = gain_of op.Procs (pure procs) 0 (tracks.Counter 0) line s tt
  op_asks (op.Elem o c) line s = gain_of (op.Elem o c) (pure (elem o c)) 0 (tracks.Counter 0) line s tt
  op_asks (op.Step x) line s = gain_of (op.Step x) (pure (step x)) 0 (tracks.Counter 0) line s tt
  op_asks op.Glob line s = gain_of op.Glob (pure glob) 0 (tracks.Counter 0) line s tt
  op_asks op.ToLocal line s = gain_of op.ToLocal (pure to_local) 0 (tracks.Counter 0) line s tt
  op_asks op.ToProc line s = gain_of op.ToProc (pure to_proc) 0 (tracks.Counter 0) line s tt
  op_asks op.ToGlobal line s = gain_of op.ToGlobal (pure to_global) 0 (tracks.Counter 0) line s tt
  op_asks (op.Load x) line s = gain_of (op.Load x) (load x) 0 (tracks.Counter 0) line s tt
  op_asks (op.Set x) line s = gain_of (op.Set x) (set x) 0 (tracks.Counter 0) line s tt
  op_asks (op.Clear x p) line s = act_of (op.Clear x p) (clear x p) 0 (tracks.Counter 0) line s tt
  op_asks op.Dup line s = dup_asks (AccessBy op.Dup) (WaitBy op.Dup) (MeetBy op.Dup) code layout node s s.frame.stack
  op_asks op.Drop line s = drop_asks (AccessBy op.Drop) (WaitBy op.Drop) (MeetBy op.Drop) code layout node s s.frame.stack
  op_asks op.Swap line s = swap_asks (AccessBy op.Swap) (WaitBy op.Swap) (MeetBy op.Swap) code layout node s s.frame.stack
  op_asks (op.Bin b) line s = gain_of (op.Bin b) (pure (bin b)) 0 (tracks.Counter 0) line s tt
  op_asks (op.Un u) line s = gain_of (op.Un u) (pure (un u)) 0 (tracks.Counter 0) line s tt
  op_asks op.Same line s = gain_of op.Same (pure same) 0 (tracks.Counter 0) line s tt
  op_asks op.Truth line s = gain_of op.Truth (pure truth) 0 (tracks.Counter 0) line s tt
  op_asks (op.Jump t) line s = tt
  op_asks (op.Zero t) line s = jump_asks (AccessBy (op.Zero t)) (WaitBy (op.Zero t)) (MeetBy (op.Zero t)) code layout node t s s.frame.stack
  op_asks op.Turn line s = tt
  op_asks (op.Call f) line s = call_asks (AccessBy (op.Call f)) (WaitBy (op.Call f)) (MeetBy (op.Call f)) code layout node f line s (slice_get code.functions f)
  op_asks op.Ret line s = left_asks (AccessBy op.Ret) (WaitBy op.Ret) (MeetBy op.Ret) code layout node line s s.frame.stack
  op_asks (op.Print t c) line s =
      print_asks (AccessBy (op.Print t c)) (WaitBy (op.Print t c)) (MeetBy (op.Print t c)) code layout node (slice_get code.texts t) c line s
  op_asks (op.Read x) line s = at_of (op.Read x) x _ (gain_of (op.Read x) read x (tracks.Counter x) line s (λ p. refl))
  op_asks (op.Fill x l) line s = at_of (op.Fill x l) x _ (act_of (op.Fill x l) (fill l) x (tracks.Counter x) line s (λ p. refl))
  op_asks (op.Write x) line s = at_of (op.Write x) x _ (gain_of (op.Write x) write x (tracks.Counter x) line s (λ p v. refl))
  op_asks (op.Store x) line s = at_of (op.Store x) x _ (gain_of (op.Store x) write x tracks.Covered line s (λ p v. refl))
  op_asks (op.Get x l) line s = at_of (op.Get x l) x _ (act_of (op.Get x l) (get l) x (tracks.Counter 0) line s (λ p. refl))
  op_asks (op.Put x) line s = at_of (op.Put x) x _ (act_of (op.Put x) put x (tracks.Counter 0) line s (λ p v. refl))
  op_asks (op.Send x) line s = at_of (op.Send x) x _ (act_of (op.Send x) send x tracks.Store line s (λ p v. refl))
  op_asks (op.Copy x m) line s = at_of (op.Copy x m) x _ (act_of (op.Copy x m) copy x (copy_track x m) line s (λ a b n. refl))
  op_asks (op.Wait c) line s =
      counter_asks (AccessBy (op.Wait c)) (WaitBy (op.Wait c)) (MeetBy (op.Wait c)) code c _ (act_of (op.Wait c) (wait c) 0 (tracks.Counter 0) line s refl)
  op_asks op.Barrier line s = act_of op.Barrier (barrier false) 0 (tracks.Counter 0) line s refl
  op_asks op.AllSync line s = act_of op.AllSync (barrier true) 0 (tracks.Counter 0) line s refl
