-- The counters that a run asks for are the code's: each instruction that names a site or a counter tests it.
use Rattle.std.proofs.Common.{◌≡◌, ℕ, zero, suc, ◌≤◌, Option, Some, None, Bool, true, false, if◌then◌else◌, nat_lt, nat_le, List, [], ◌∷◌, slice_get, ℤ, pos, negsuc, refl, arith, Result, Ok, Err, ◌==◌, ◌%◌, ◌/◌, ◌&&◌}
use Rattle.sc_base.specs.declared.value.CopyMode.{CopyMode}
use Rattle.sc_base.specs.declared.value.CopyMode.TheVariants.{Blocking, Split, OneWay}
use Rattle.sc_base.specs.declared.value.FaultKind.{FaultKind}
use Rattle.sc_base.specs.declared.value.FaultKind.TheVariants.{BadSize}
use Rattle.sc_base.specs.declared.value.Place.{Place}
use Rattle.sc_base.specs.declared.value.Value.{Value}
use Rattle.sc_base.specs.declared.value.Value.TheVariants.{Int, Null, Ptr}
use Rattle.sc_layout.specs.Layout.{Arrangement}
use Rattle.sc_isa.specs.declared.access.Access.TheVariants as accesses
use Rattle.sc_isa.specs.declared.access.Track.{Track}
use Rattle.sc_isa.specs.declared.access.Track.TheVariants as tracks
use Rattle.sc_isa.specs.declared.code.Code.{Code}
use Rattle.sc_isa.specs.declared.code.FnRow.{FnRow}
use Rattle.sc_isa.specs.declared.op.Op.{Op}
use Rattle.sc_isa.specs.declared.op.Op.TheVariants as op
use Rattle.sc_isa.specs.declared.operand.Operand.{Operand}
use Rattle.sc_isa.specs.declared.operand.Operand.TheVariants.{Here, Landing}
use Rattle.sc_isa.specs.declared.operand.Slot.{Slot}
use Rattle.sc_isa.specs.declared.operand.Slot.TheVariants.{Holds, Pending}
use Rattle.sc_isa.specs.Pure.{push, null, mine, procs, elem, step, glob, to_local, to_proc, to_global, bin, un, same, truth}
use Rattle.sc_isa.specs.Deeds.{Gain, pure, load, set, read, write, call, Act, drop, clear, print, fill, get, put, send, copy, wait, barrier}
use Rattle.sc_isa.specs.Deeds.{Made, makes, faults, stuck, uses, sets, reads, writes, calls, made, Spotted, found, missing, nowhere, spotted, takes, uses_up, done}
use Rattle.sc_isa.specs.Deeds.{Done, lets_go, ends, sticks, clears, prints, fills, gets, misses, puts, sends, copies, waits, meets}
use Rattle.sc_isa.specs.State.{State, with_stack, with_left}
use Rattle.sc_isa.specs.Moves.{After, GoesOn, Ends, Sticks, Move, Comes, Taken, taken, local_value, none_pending, counted, called, gain_done, act_done}
use Rattle.sc_isa.specs.Table.{gained, acted, duplicated, dropped, swapped, jumped, returned, left_with, at_site, at_counter, calls_row, prints_text, copy_track, does_op}
use Rattle.std.specs.List.{All}
use Rattle.std.proofs.lemmas.Bool.{leb-true}
use Rattle.resumption.specs.Resumption.{RunOf, run_of}
use Rattle.sc_isa.specs.declared.op.Instr.{Instr}
use Rattle.sc_isa.specs.Deeds.{printing, filling, getting, putting, copying, copied, copied_from, spanned}
use Rattle.sc_isa.specs.Pure.{is_pointer, ints}
use Rattle.sc_isa.specs.Run.{Ask, Answer, Halt, Stuck, asks_from, code_run}
use Rattle.sc_isa.specs.Table.{does_instr, step_of}
use Rattle.sc_isa.specs.Begin.{begin}
use Rattle.sc_isa.specs.Laws.{HasCounter, IsOfCode}
use Rattle.sc_isa.proofs.Moving.{stopped, Kept, AfterOk, MoveOk, move_good, all_nothing, all_more}

module _ (code : Code) where
  abbrev AsksOk : RunOf Ask Halt → Type 0
  AsksOk run = All (IsOfCode code) run.events

  abbrev IsOk : Move → Type 0
  IsOk move = MoveOk (IsOfCode code) AsksOk move

  stuck_ok : AsksOk (stopped Stuck)
  stuck_ok = all_nothing (IsOfCode code)

  after_ok : (after : After) → AfterOk AsksOk after
  after_ok (GoesOn s) = tt
  after_ok (Ends end) = tt
  after_ok Sticks = stuck_ok

  local_ok : (line : ℕ) (slot : Option Slot) (go : Value → Move) → ((v : Value) → IsOk (go v))
      → IsOk (local_value Comes line slot go)
  local_ok line None go h = stuck_ok
  local_ok line (Some (Holds (Here v))) go h = h v
  local_ok line (Some (Holds (Landing c n))) go h = stuck_ok
  local_ok line (Some (Pending n)) go h = tt

  gain_ok : (site : ℕ) (track : Track) (line : ℕ) (s : State) (m : Made) → site ≤ code.sites → HasCounter code track
      → IsOk (gain_done code site track line s m)
  gain_ok site track line s (makes v) h t = tt
  gain_ok site track line s (faults k) h t = tt
  gain_ok site track line s stuck h t = stuck_ok
  gain_ok site track line s (uses x) h t = local_ok line (slice_get s.frame.locals x) _ (λ v. tt)
  gain_ok site track line s (sets x v) h t = local_ok line (slice_get s.frame.locals x) _ (λ v. tt)
  gain_ok site track line s (reads p) h t = (h, tt)
  gain_ok site track line s (writes p v) h t = (t, tt)
  gain_ok site track line s (calls f vs) h t = after_ok (called line (slice_get code.functions f) vs s)

  -- a deed that waits on a counter is on one of the code's
  abbrev WaitOk : Done → Type 0
  WaitOk (waits counter) = counter ≤ code.sites
  WaitOk _ = Unit {0}

  act_ok : (site : ℕ) (track : Track) (line : ℕ) (s : State) (d : Done) → site ≤ code.sites → HasCounter code track
      → WaitOk d
      → IsOk (act_done site track line s d)
  act_ok site track line s lets_go h t w = tt
  act_ok site track line s (ends k) h t w = tt
  act_ok site track line s sticks h t w = stuck_ok
  act_ok site track line s (clears x v) h t w = local_ok line (slice_get s.frame.locals x) _ (λ v. tt)
  act_ok site track line s (prints text) h t w = tt
  act_ok site track line s (fills x p) h t w =
      (h, after_ok (local_value (λ after. after) line (slice_get s.frame.locals x) _))
  act_ok site track line s (gets x p) h t w = local_ok line (slice_get s.frame.locals x) _ (λ v. (omega arith, tt))
  act_ok site track line s (misses x k) h t w = local_ok line (slice_get s.frame.locals x) _ (λ v. tt)
  act_ok site track line s (puts p v) h t w = (t, tt)
  act_ok site track line s (sends p v) h t w = (t, tt)
  act_ok site track line s (copies a b n) h t w = (t, tt)
  act_ok site track line s (waits c) h t w = w
  act_ok site track line s (meets b) h t w = (tt, tt)

  -- ---- deeds

  printing_ok : (format : List ℕ) (o : Option (List ℤ)) → WaitOk (printing format o)
  printing_ok format None = tt
  printing_ok format (Some values) = tt

  filling_ok : (x : ℕ) (p : Spotted) → WaitOk (filling x p)
  filling_ok x (found p) = tt
  filling_ok x (missing k) = tt
  filling_ok x nowhere = tt

  getting_ok : (x : ℕ) (p : Spotted) → WaitOk (getting x p)
  getting_ok x (found p) = tt
  getting_ok x (missing k) = tt
  getting_ok x nowhere = tt

  puts_ok : (p : Spotted) (v : Value) → WaitOk (putting puts p v)
  puts_ok (found p) v = tt
  puts_ok (missing k) v = tt
  puts_ok nowhere v = tt

  sends_ok : (p : Spotted) (v : Value) → WaitOk (putting sends p v)
  sends_ok (found p) v = tt
  sends_ok (missing k) v = tt
  sends_ok nowhere v = tt

  copied_from_ok : (to : Place) (cells : ℕ) (from : Result Place FaultKind) → WaitOk (copied_from to cells from)
  copied_from_ok to cells (Ok from) = tt
  copied_from_ok to cells (Err k) = tt

  copied_ok : (layout : Arrangement) (cells : ℕ) (to : Result Place FaultKind) (from : Value)
      → WaitOk (copied layout cells to from)
  copied_ok layout cells (Ok to) from = copied_from_ok to cells (spanned layout cells from)
  copied_ok layout cells (Err k) from = tt

  copying_ok : (layout : Arrangement) (to from : Value) (bytes : ℤ) → WaitOk (copying layout to from bytes)
  copying_ok layout to from (pos zero) = tt
  copying_ok layout to from (pos (suc n)) =
      elim (suc n % 8 == 0) as
      (λ b. WaitOk (if b then copied layout (suc n / 8) (spanned layout (suc n / 8) to) from else ends BadSize)) [
        | true ↦ copied_ok layout (suc n / 8) (spanned layout (suc n / 8) to) from
        | false ↦ tt
      ]
  copying_ok layout to from (negsuc n) = tt

  copy_ok : (layout : Arrangement) (to from : Value) (bytes : ℤ) (b : Bool)
      → WaitOk (if b then copying layout to from bytes else sticks)
  copy_ok layout to from bytes true = copying_ok layout to from bytes
  copy_ok layout to from bytes false = tt

  abbrev ActOk : Act → Type 0
  ActOk (wait counter) = counter ≤ code.sites
  ActOk _ = Unit {0}

  done_ok : (layout : Arrangement) (a : Act) (values : List Value) → ActOk a → WaitOk (done layout a values)
  done_ok layout drop [] h = tt
  done_ok layout drop (v ∷ []) h = tt
  done_ok layout drop (v ∷ w ∷ vs) h = tt
  done_ok layout (clear x p) [] h = tt
  done_ok layout (clear x p) (v ∷ vs) h = tt
  done_ok layout (print format count) values h = printing_ok format (ints values)
  done_ok layout (fill x) [] h = tt
  done_ok layout (fill x) (p ∷ []) h = filling_ok x (spotted layout p)
  done_ok layout (fill x) (p ∷ q ∷ vs) h = tt
  done_ok layout (get x) [] h = tt
  done_ok layout (get x) (p ∷ []) h = getting_ok x (spotted layout p)
  done_ok layout (get x) (p ∷ q ∷ vs) h = tt
  done_ok layout put [] h = tt
  done_ok layout put (p ∷ []) h = tt
  done_ok layout put (p ∷ v ∷ []) h = puts_ok (spotted layout p) v
  done_ok layout put (p ∷ v ∷ w ∷ vs) h = tt
  done_ok layout send [] h = tt
  done_ok layout send (p ∷ []) h = tt
  done_ok layout send (p ∷ v ∷ []) h = sends_ok (spotted layout p) v
  done_ok layout send (p ∷ v ∷ w ∷ vs) h = tt
  done_ok layout copy [] h = tt
  done_ok layout copy (a ∷ []) h = tt
  done_ok layout copy (a ∷ b ∷ []) h = tt
  done_ok layout copy (a ∷ b ∷ Int n ∷ []) h = copy_ok layout a b n (is_pointer layout a && is_pointer layout b)
  done_ok layout copy (a ∷ b ∷ Int n ∷ c ∷ vs) h = tt
  done_ok layout copy (a ∷ b ∷ Null ∷ vs) h = tt
  done_ok layout copy (a ∷ b ∷ Ptr o p q ∷ vs) h = tt
  done_ok layout (wait counter) [] h = h
  done_ok layout (wait counter) (v ∷ vs) h = tt
  done_ok layout (barrier stores) [] h = tt
  done_ok layout (barrier stores) (v ∷ vs) h = tt

  module _ (layout : Arrangement) (node : ℕ) where
    gained_ok : (g : Gain) (site : ℕ) (track : Track) (line : ℕ) (s : State) (t : Option Taken) → site ≤ code.sites
        → HasCounter code track
        → IsOk (gained code layout node g site track line s t)
    gained_ok g site track line s None h k = stuck_ok
    gained_ok g site track line s (Some t) h k =
        gain_ok site track line (with_stack t.rest s) (made layout node g t.values) h k

    acted_ok : (a : Act) (site : ℕ) (track : Track) (line : ℕ) (s : State) (t : Option Taken) → site ≤ code.sites
        → HasCounter code track → ActOk a
        → IsOk (acted layout a site track line s t)
    acted_ok a site track line s None h k w = stuck_ok
    acted_ok a site track line s (Some t) h k w =
        act_ok site track line (with_stack t.rest s) (done layout a t.values) h k (done_ok layout a t.values w)

    plain : (g : Gain) (line : ℕ) (s : State)
        → IsOk (gained code layout node g 0 (tracks.Counter 0) line s (taken (takes g) [] s.frame.stack))
    plain g line s = gained_ok g 0 (tracks.Counter 0) line s (taken (takes g) [] s.frame.stack) (omega arith)
        (omega arith)

    plain_act : (a : Act) (line : ℕ) (s : State) → ActOk a
        → IsOk (acted layout a 0 (tracks.Counter 0) line s (taken (uses_up a) [] s.frame.stack))
    plain_act a line s w = acted_ok a 0 (tracks.Counter 0) line s (taken (uses_up a) [] s.frame.stack) (omega arith)
        (omega arith) w

    site_ok : (site : ℕ) (move : Move) → (site ≤ code.sites → IsOk move) → IsOk (at_site code site move)
    site_ok site move h = by_test (nat_lt 0 site) (nat_le site code.sites) refl where
      by_test : (a b : Bool) → nat_le site code.sites ≡ b → IsOk (if a && b then move else Comes Sticks)
      by_test true true e = h (leb-true site code.sites e)
      by_test true false e = stuck_ok
      by_test false b e = stuck_ok

    counter_ok : (counter : ℕ) (move : Move) → (counter ≤ code.sites → IsOk move)
        → IsOk (at_counter code counter move)
    counter_ok counter move h = by_test (nat_le counter code.sites) refl where
      by_test : (b : Bool) → nat_le counter code.sites ≡ b → IsOk (if b then move else Comes Sticks)
      by_test true e = h (leb-true counter code.sites e)
      by_test false e = stuck_ok

    call_ok : (f line : ℕ) (row : Option FnRow) (s : State) → IsOk (calls_row code layout node f row line s)
    call_ok f line None s = stuck_ok
    call_ok f line (Some row) s = plain (call f row.params) line s

    print_ok : (format : Option (List ℕ)) (count line : ℕ) (s : State)
        → IsOk (prints_text code layout node format count line s)
    print_ok None count line s = stuck_ok
    print_ok (Some format) count line s = plain_act (print format count) line s tt

    dup_ok : (s : State) (stack : List Operand) → IsOk (duplicated s stack)
    dup_ok s [] = stuck_ok
    dup_ok s (a ∷ stack) = tt

    drop_ok : (s : State) (stack : List Operand) → IsOk (dropped s stack)
    drop_ok s [] = stuck_ok
    drop_ok s (a ∷ stack) = tt

    swap_ok : (s : State) (stack : List Operand) → IsOk (swapped s stack)
    swap_ok s [] = stuck_ok
    swap_ok s (a ∷ []) = stuck_ok
    swap_ok s (a ∷ b ∷ stack) = tt

    jump_ok : (target : ℕ) (s : State) (stack : List Operand) → IsOk (jumped target s stack)
    jump_ok target s [] = stuck_ok
    jump_ok target s (Landing c n ∷ stack) = stuck_ok
    jump_ok target s (Here Null ∷ stack) = stuck_ok
    jump_ok target s (Here (Ptr a b c) ∷ stack) = stuck_ok
    jump_ok target s (Here (Int (pos zero)) ∷ stack) = tt
    jump_ok target s (Here (Int (pos (suc n))) ∷ stack) = tt
    jump_ok target s (Here (Int (negsuc n)) ∷ stack) = tt

    left_ok : (line : ℕ) (s : State) (stack : List Operand) → IsOk (left_with line s stack)
    left_ok line s [] = stuck_ok
    left_ok line s (Landing c n ∷ stack) = stuck_ok
    left_ok line s (Here v ∷ stack) = after_ok (none_pending line s.frame.locals (returned v s s.callers))

    track_ok : (site : ℕ) (mode : CopyMode) → site ≤ code.sites → HasCounter code (copy_track site mode)
    track_ok site Blocking h = h
    track_ok site Split h = omega arith
    track_ok site OneWay h = tt

    gain_at : (g : Gain) (site : ℕ) (track : Track) (line : ℕ) (s : State)
        → (site ≤ code.sites → HasCounter code track)
        → IsOk (at_site code site (gained code layout node g site track line s (taken (takes g) [] s.frame.stack)))
    gain_at g site track line s k =
        site_ok site _ (λ h. gained_ok g site track line s (taken (takes g) [] s.frame.stack) h (k h))

    act_at : (a : Act) (site : ℕ) (track : Track) (line : ℕ) (s : State)
        → (site ≤ code.sites → HasCounter code track) → ActOk a
        → IsOk (at_site code site (acted layout a site track line s (taken (uses_up a) [] s.frame.stack)))
    act_at a site track line s k w =
        site_ok site _ (λ h. acted_ok a site track line s (taken (uses_up a) [] s.frame.stack) h (k h) w)

    op_ok : (o : Op) (line : ℕ) (s : State) → IsOk (does_op code layout node o line s)
    op_ok (op.Push n) line s = plain (pure (push n)) line s
    op_ok op.Null line s = plain (pure null) line s
    op_ok op.Mine line s = plain (pure mine) line s
    op_ok op.Procs line s = plain (pure procs) line s
    op_ok (op.Elem o c) line s = plain (pure (elem o c)) line s
    op_ok (op.Step x) line s = plain (pure (step x)) line s
    op_ok op.Glob line s = plain (pure glob) line s
    op_ok op.ToLocal line s = plain (pure to_local) line s
    op_ok op.ToProc line s = plain (pure to_proc) line s
    op_ok op.ToGlobal line s = plain (pure to_global) line s
    op_ok (op.Load x) line s = plain (load x) line s
    op_ok (op.Set x) line s = plain (set x) line s
    op_ok (op.Clear x p) line s = plain_act (clear x p) line s tt
    op_ok op.Dup line s = dup_ok s s.frame.stack
    op_ok op.Drop line s = drop_ok s s.frame.stack
    op_ok op.Swap line s = swap_ok s s.frame.stack
    op_ok (op.Bin b) line s = plain (pure (bin b)) line s
    op_ok (op.Un u) line s = plain (pure (un u)) line s
    op_ok op.Same line s = plain (pure same) line s
    op_ok op.Truth line s = plain (pure truth) line s
    op_ok (op.Jump t) line s = tt
    op_ok (op.Zero t) line s = jump_ok t s s.frame.stack
    op_ok op.Turn line s = after_ok (counted s.left (λ left. GoesOn (with_left left s)))
    op_ok (op.Call f) line s = call_ok f line (slice_get code.functions f) s
    op_ok op.Ret line s = left_ok line s s.frame.stack
    op_ok (op.Print t c) line s = print_ok (slice_get code.texts t) c line s
    op_ok (op.Read x) line s = gain_at read x (tracks.Counter x) line s (λ h. h)
    op_ok (op.Fill x l) line s = act_at (fill l) x (tracks.Counter x) line s (λ h. h) tt
    op_ok (op.Write x) line s = gain_at write x (tracks.Counter x) line s (λ h. h)
    op_ok (op.Store x) line s = gain_at write x tracks.Covered line s (λ h. tt)
    op_ok (op.Get x l) line s = act_at (get l) x (tracks.Counter 0) line s (λ h. omega arith) tt
    op_ok (op.Put x) line s = act_at put x (tracks.Counter 0) line s (λ h. omega arith) tt
    op_ok (op.Send x) line s = act_at send x tracks.Store line s (λ h. tt) tt
    op_ok (op.Copy x m) line s = act_at copy x (copy_track x m) line s (track_ok x m) tt
    op_ok (op.Wait c) line s = counter_ok c _ (λ h. plain_act (wait c) line s h)
    op_ok op.Barrier line s = plain_act (barrier false) line s tt
    op_ok op.AllSync line s = plain_act (barrier true) line s tt

    step_ok : (o : Option Instr) (s : State) → IsOk (does_instr code layout node o s)
    step_ok None s = stuck_ok
    step_ok (Some instr) s = op_ok instr.op instr.line _

    kept : Kept (IsOfCode code) AsksOk
    kept = record {
      finished = λ end. all_nothing (IsOfCode code);
      waiting = λ ask p. all_more (IsOfCode code) ask [] p (all_nothing (IsOfCode code));
      event = λ ask run p g. all_more (IsOfCode code) ask run.events p g;
      said = λ text run g. g;
    }

    asks_ok : (many : ℕ) (s : State) (answers : List Answer)
        → AsksOk (run_of (asks_from code layout node many s) answers)
    asks_ok zero s answers = all_nothing (IsOfCode code)
    asks_ok (suc many) s answers =
        move_good layout (IsOfCode code) AsksOk kept (asks_from code layout node many)
        (step_of code layout node s) answers
        (step_ok (slice_get code.instrs s.frame.at) s) (λ next answers l. asks_ok many next answers)

    pub of_code : (budget many : ℕ) (answers : List Answer) → AsksOk (code_run code layout node budget many answers)
    of_code budget many answers = asks_ok many (begin code budget) answers
