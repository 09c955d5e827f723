-- Where each instruction leads, whom it returns to, and which reads are on their way behind it.
use Rattle.std.proofs.Common.{◌≡◌, ◌⊎◌, inl, inr, ℕ, zero, suc, ◌+◌, Option, Some, None, Bool, true, false, if◌then◌else◌, nat_lt, nat_le, List, [], ◌∷◌, ◌++◌, length, slice_get, ◌&&◌, refl}
use Rattle.std.specs.Prelude.{pos, negsuc}
use Rattle.sc_base.specs.declared.limits.TheConstants.{LIMITS}
use Rattle.sc_base.specs.declared.value.End.TheVariants.{Fault}
use Rattle.sc_base.specs.declared.value.FaultKind.TheVariants.{Depth}
use Rattle.sc_base.specs.declared.value.Value.{Value}
use Rattle.sc_base.specs.declared.value.Value.TheVariants.{Int, Null, Ptr}
use Rattle.sc_layout.specs.Layout.{Arrangement}
use Rattle.sc_isa.specs.declared.access.Access.TheVariants as accesses
use Rattle.sc_isa.specs.declared.access.Track.{Track}
use Rattle.sc_isa.specs.declared.access.Track.TheVariants as tracks
use Rattle.sc_isa.specs.declared.code.Code.{Code}
use Rattle.sc_isa.specs.declared.code.FnRow.{FnRow}
use Rattle.sc_isa.specs.declared.op.Op.{Op}
use Rattle.sc_isa.specs.declared.op.Op.TheVariants as op
use Rattle.sc_isa.specs.declared.operand.Operand.{Operand}
use Rattle.sc_isa.specs.declared.operand.Operand.TheVariants.{Here, Landing}
use Rattle.sc_isa.specs.declared.operand.Slot.{Slot}
use Rattle.sc_isa.specs.declared.operand.Slot.TheVariants.{Holds, Pending}
use Rattle.sc_isa.specs.Elements.{Outcome, gives, fails, wrong}
use Rattle.sc_isa.specs.Pure.{push, null, mine, procs, elem, step, glob, to_local, to_proc, to_global, bin, un, same, truth, computed}
use Rattle.sc_isa.specs.Deeds.{Gain, pure, load, set, read, write, call, Act, clear, print, fill, get, put, send, copy, wait, barrier, takes, uses_up, Spotted, found, missing, nowhere, spotted, made_by, reading, writing, made, done}
use Rattle.sc_isa.specs.Deeds.{Made, makes, faults, stuck, uses, sets, reads, writes, calls, Done, lets_go, ends, sticks, clears, prints, fills, gets, misses, puts, sends, copies, waits, meets}
use Rattle.sc_isa.specs.State.{Frame, State, Flight, with_stack, with_left}
use Rattle.sc_isa.specs.Moves.{After, GoesOn, Ends, Sticks, Move, Comes, Issues, Waits, Meets, Says, Taken, taken, local_value, none_pending, counted, call_of, called, gain_done, act_done}
use Rattle.sc_isa.specs.Table.{gained, acted, duplicated, dropped, swapped, jumped, returned, left_with, copy_track, at_site, at_counter, calls_row, prints_text, does_op}

-- ---- what holds of the state that a move comes to; flying: the reads that are on their way then

abbrev pub AfterTo : (State → Type 0) → After → Type 0
AfterTo P (GoesOn s) = P s
AfterTo P (Ends end) = Unit {0}
AfterTo P Sticks = Unit {0}

abbrev pub MoveTo : (List Flight → State → Type 0) → (flying : List Flight) → Move → Type 0
MoveTo P flying (Comes after) = AfterTo (P flying) after
MoveTo P flying (Issues (accesses.Read place (tracks.Counter counter)) after) = AfterTo (P (flying ++ record { counter = counter; place = place } ∷ [])) after
MoveTo P flying (Issues (accesses.Read place tracks.Store) after) = ⊥
MoveTo P flying (Issues (accesses.Read place tracks.Covered) after) = ⊥
MoveTo P flying (Issues (accesses.Write place value track) after) = AfterTo (P flying) after
MoveTo P flying (Issues (accesses.Copy from to cells track) after) = AfterTo (P flying) after
MoveTo P flying (Waits counter s) = P flying s
MoveTo P flying (Meets stores s) = P flying s
MoveTo P flying (Says text s) = P flying s

-- in the function in which it is
pub record Here_ (s : State) (flying : List Flight) (next : State) : Type 0 where
  pub at : next.frame.at ≡ s.frame.at
  pub callers : next.callers ≡ s.callers
  pub flying_is : next.flying ≡ flying

abbrev pub IsNoCall : Made → Type 0
IsNoCall (calls function values) = ⊥
IsNoCall _ = Unit {0}

abbrev pub IsNoCallGain : Gain → Type 0
IsNoCallGain (call function count) = ⊥
IsNoCallGain _ = Unit {0}

made_by_is : (o : Outcome) → IsNoCall (made_by o)
made_by_is (gives v) = tt
made_by_is (fails k) = tt
made_by_is wrong = tt

reading_is : (p : Spotted) → IsNoCall (reading p)
reading_is (found p) = tt
reading_is (missing k) = tt
reading_is nowhere = tt

writing_is : (p : Spotted) (v : Value) → IsNoCall (writing p v)
writing_is (found p) v = tt
writing_is (missing k) v = tt
writing_is nowhere v = tt

made_is : (layout : Arrangement) (node : ℕ) (g : Gain) (values : List Value) → IsNoCallGain g → IsNoCall (made layout node g values)
made_is layout node (pure p) values h = made_by_is (computed layout node p values)
made_is layout node (load x) [] h = tt
made_is layout node (load x) (a ∷ vs) h = tt
made_is layout node (set x) [] h = tt
made_is layout node (set x) (a ∷ []) h = tt
made_is layout node (set x) (a ∷ b ∷ vs) h = tt
made_is layout node read [] h = tt
made_is layout node read (a ∷ []) h = reading_is (spotted layout a)
made_is layout node read (a ∷ b ∷ vs) h = tt
made_is layout node write [] h = tt
made_is layout node write (a ∷ []) h = tt
made_is layout node write (a ∷ b ∷ []) h = writing_is (spotted layout a) b
made_is layout node write (a ∷ b ∷ c ∷ vs) h = tt
made_is layout node (call f n) values h = absurd h

module _ (P : List Flight → State → Type 0) (flying : List Flight) where
  local_to : (line : ℕ) (slot : Option Slot) (go : Value → Move) → ((v : Value) → MoveTo P flying (go v)) → MoveTo P flying (local_value Comes line slot go)
  local_to line None go h = tt
  local_to line (Some (Holds (Here v))) go h = h v
  local_to line (Some (Holds (Landing c n))) go h = tt
  local_to line (Some (Pending n)) go h = tt

  site_to : (code : Code) (site : ℕ) (move : Move) → MoveTo P flying move → MoveTo P flying (at_site code site move)
  site_to code site move h = go (nat_lt 0 site && nat_le site code.sites)
    where
      go : (b : Bool) → MoveTo P flying (if b then move else Comes Sticks)
      go true = h
      go false = tt

  counter_to : (code : Code) (counter : ℕ) (move : Move) → MoveTo P flying move → MoveTo P flying (at_counter code counter move)
  counter_to code counter move h = go (nat_le counter code.sites)
    where
      go : (b : Bool) → MoveTo P flying (if b then move else Comes Sticks)
      go true = h
      go false = tt

local_after_to : (Q : State → Type 0) (line : ℕ) (slot : Option Slot) (go : Value → After) → ((v : Value) → AfterTo Q (go v)) → AfterTo Q (local_value (λ after. after) line slot go)
local_after_to Q line None go h = tt
local_after_to Q line (Some (Holds (Here v))) go h = h v
local_after_to Q line (Some (Holds (Landing c n))) go h = tt
local_after_to Q line (Some (Pending n)) go h = tt

counted_to : (Q : State → Type 0) (left : ℕ) (go : ℕ → After) → ((l : ℕ) → AfterTo Q (go l)) → AfterTo Q (counted left go)
counted_to Q zero go h = tt
counted_to Q (suc l) go h = h l

none_to : (Q : State → Type 0) (line : ℕ) (slots : List Slot) (after : After) → AfterTo Q after → AfterTo Q (none_pending line slots after)
none_to Q line [] after h = h
none_to Q line (Pending n ∷ slots) after h = tt
none_to Q line (Holds o ∷ slots) after h = none_to Q line slots after h

after_more : (P Q : State → Type 0) → ((s : State) → P s → Q s) → (after : After) → AfterTo P after → AfterTo Q after
after_more P Q f (GoesOn s) h = f s h
after_more P Q f (Ends end) h = tt
after_more P Q f Sticks h = tt

pub move_more : (P Q : List Flight → State → Type 0) → ((fl : List Flight) (s : State) → P fl s → Q fl s) → (fl : List Flight) (m : Move) → MoveTo P fl m → MoveTo Q fl m
move_more P Q f fl (Comes after) h = after_more (P fl) (Q fl) (f fl) after h
move_more P Q f fl (Issues (accesses.Read place (tracks.Counter c)) after) h =
    let more = fl ++ record { counter = c; place = place } ∷ [] in
    after_more (P more) (Q more) (f more) after h
move_more P Q f fl (Issues (accesses.Read place tracks.Store) after) h = h
move_more P Q f fl (Issues (accesses.Read place tracks.Covered) after) h = h
move_more P Q f fl (Issues (accesses.Write place value track) after) h = after_more (P fl) (Q fl) (f fl) after h
move_more P Q f fl (Issues (accesses.Copy from to cells track) after) h = after_more (P fl) (Q fl) (f fl) after h
move_more P Q f fl (Waits c s) h = f fl s h
move_more P Q f fl (Meets b s) h = f fl s h
move_more P Q f fl (Says text s) h = f fl s h

rest_to : (s : State) (rest : List Operand) (m : Move) → MoveTo (Here_ (with_stack rest s)) s.flying m → MoveTo (Here_ s) s.flying m
rest_to s rest m h =
    move_more (Here_ (with_stack rest s)) (Here_ s) (λ fl next h. record { at = h.at; callers = h.callers; flying_is = h.flying_is }) s.flying m h

gain_to : (code : Code) (site : ℕ) (track : Track) (line : ℕ) (s : State) (m : Made) → IsNoCall m → MoveTo (Here_ s) s.flying (gain_done code site track line s m)
gain_to code site track line s (makes v) h = record { at = refl; callers = refl; flying_is = refl }
gain_to code site track line s (faults k) h = tt
gain_to code site track line s stuck h = tt
gain_to code site track line s (uses x) h =
    local_to (Here_ s) s.flying line (slice_get s.frame.locals x) _ (λ v. record { at = refl; callers = refl; flying_is = refl })
gain_to code site track line s (sets x v) h =
    local_to (Here_ s) s.flying line (slice_get s.frame.locals x) _ (λ old. record { at = refl; callers = refl; flying_is = refl })
gain_to code site track line s (reads p) h = record { at = refl; callers = refl; flying_is = refl }
gain_to code site track line s (writes p v) h = record { at = refl; callers = refl; flying_is = refl }
gain_to code site track line s (calls f vs) h = absurd h

act_to : (site : ℕ) (track : Track) (line : ℕ) (s : State) (d : Done) → MoveTo (Here_ s) s.flying (act_done site track line s d)
act_to site track line s lets_go = record { at = refl; callers = refl; flying_is = refl }
act_to site track line s (ends k) = tt
act_to site track line s sticks = tt
act_to site track line s (clears x v) =
    local_to (Here_ s) s.flying line (slice_get s.frame.locals x) _ (λ old. record { at = refl; callers = refl; flying_is = refl })
act_to site track line s (prints text) = record { at = refl; callers = refl; flying_is = refl }
act_to site track line s (fills x p) =
    local_after_to (Here_ s (s.flying ++ record { counter = site; place = p } ∷ [])) line (slice_get s.frame.locals x) _
    (λ old. record { at = refl; callers = refl; flying_is = refl })
act_to site track line s (gets x p) =
    local_to (Here_ s) s.flying line (slice_get s.frame.locals x) _ (λ old. record { at = refl; callers = refl; flying_is = refl })
act_to site track line s (misses x k) = local_to (Here_ s) s.flying line (slice_get s.frame.locals x) _ (λ old. tt)
act_to site track line s (puts p v) = record { at = refl; callers = refl; flying_is = refl }
act_to site track line s (sends p v) = record { at = refl; callers = refl; flying_is = refl }
act_to site track line s (copies a b n) = record { at = refl; callers = refl; flying_is = refl }
act_to site track line s (waits c) = record { at = refl; callers = refl; flying_is = refl }
act_to site track line s (meets b) = record { at = refl; callers = refl; flying_is = refl }

-- ---- each instruction, from the state that goes on at the next one

pub record Called (code : Code) (f : ℕ) (s : State) (flying : List Flight) (next : State) : Type 0 where
  pub row : FnRow
  pub is_row : slice_get code.functions f ≡ Some row
  pub at : next.frame.at ≡ row.start
  pub caller : Frame
  pub goes_on : caller.at ≡ s.frame.at
  pub callers : next.callers ≡ caller ∷ s.callers
  pub flying_is : next.flying ≡ flying

pub record Left (s : State) (flying : List Flight) (next : State) : Type 0 where
  pub caller : Frame
  pub others : List Frame
  pub was : s.callers ≡ caller ∷ others
  pub at : next.frame.at ≡ caller.at
  pub callers : next.callers ≡ others
  pub flying_is : next.flying ≡ flying

-- at the target
pub record Jumped (target : ℕ) (s : State) (flying : List Flight) (next : State) : Type 0 where
  pub at : next.frame.at ≡ target
  pub callers : next.callers ≡ s.callers
  pub flying_is : next.flying ≡ flying

abbrev pub Led : Code → Op → State → List Flight → State → Type 0
Led code (op.Jump target) s flying next = Jumped target s flying next
Led code (op.Zero target) s flying next = Jumped target s flying next ⊎ Here_ s flying next
Led code (op.Call f) s flying next = Called code f s flying next
Led code op.Ret s flying next = Left s flying next
Led code o s flying next = Here_ s flying next

module _ (code : Code) (layout : Arrangement) (node : ℕ) where
  gained_to : (g : Gain) (site : ℕ) (track : Track) (line : ℕ) (s : State) (t : Option Taken) → IsNoCallGain g → MoveTo (Here_ s) s.flying (gained code layout node g site track line s t)
  gained_to g site track line s None h = tt
  gained_to g site track line s (Some t) h =
      rest_to s t.rest (gain_done code site track line (with_stack t.rest s) (made layout node g t.values))
      (gain_to code site track line (with_stack t.rest s) (made layout node g t.values) (made_is layout node g t.values h))

  gain_op : (g : Gain) (site : ℕ) (track : Track) (line : ℕ) (s : State) → IsNoCallGain g
      → MoveTo (Here_ s) s.flying (gained code layout node g site track line s (taken (takes g) [] s.frame.stack))
  gain_op g site track line s h = gained_to g site track line s (taken (takes g) [] s.frame.stack) h

  acted_to : (a : Act) (site : ℕ) (track : Track) (line : ℕ) (s : State) (t : Option Taken) → MoveTo (Here_ s) s.flying (acted layout a site track line s t)
  acted_to a site track line s None = tt
  acted_to a site track line s (Some t) =
      rest_to s t.rest (act_done site track line (with_stack t.rest s) (done layout a t.values))
      (act_to site track line (with_stack t.rest s) (done layout a t.values))

  act_op : (a : Act) (site : ℕ) (track : Track) (line : ℕ) (s : State)
      → MoveTo (Here_ s) s.flying (acted layout a site track line s (taken (uses_up a) [] s.frame.stack))
  act_op a site track line s = acted_to a site track line s (taken (uses_up a) [] s.frame.stack)

  dup_to : (s : State) (stack : List Operand) → MoveTo (Here_ s) s.flying (duplicated s stack)
  dup_to s [] = tt
  dup_to s (o ∷ stack) = record { at = refl; callers = refl; flying_is = refl }

  drop_to : (s : State) (stack : List Operand) → MoveTo (Here_ s) s.flying (dropped s stack)
  drop_to s [] = tt
  drop_to s (o ∷ stack) = record { at = refl; callers = refl; flying_is = refl }

  swap_to : (s : State) (stack : List Operand) → MoveTo (Here_ s) s.flying (swapped s stack)
  swap_to s [] = tt
  swap_to s (o ∷ []) = tt
  swap_to s (o ∷ p ∷ stack) = record { at = refl; callers = refl; flying_is = refl }

  jump_to : (target : ℕ) (s : State) (stack : List Operand) → MoveTo (λ fl next. Jumped target s fl next ⊎ Here_ s fl next) s.flying (jumped target s stack)
  jump_to target s [] = tt
  jump_to target s (Here (Int (pos zero)) ∷ stack) = inl (record { at = refl; callers = refl; flying_is = refl })
  jump_to target s (Here (Int (pos (suc n))) ∷ stack) = inr (record { at = refl; callers = refl; flying_is = refl })
  jump_to target s (Here (Int (negsuc n)) ∷ stack) = inr (record { at = refl; callers = refl; flying_is = refl })
  jump_to target s (Here Null ∷ stack) = tt
  jump_to target s (Here (Ptr o p q) ∷ stack) = tt
  jump_to target s (Landing c n ∷ stack) = tt

  called_by : (f line : ℕ) (row : FnRow) (s : State) (rest : List Operand) (vs : List Value) (o : Option FnRow) → slice_get code.functions f ≡ o
      → AfterTo (Called code f s s.flying) (called line o vs (with_stack rest s))
  called_by f line row s rest vs None e = tt
  called_by f line row s rest vs (Some other) e =
      counted_to (Called code f s s.flying) s.left _ (λ l. deeper l (nat_lt (length s.callers + 1) LIMITS.frames))
    where
      deeper : (l : ℕ) (b : Bool) → AfterTo (Called code f s s.flying)
          (if b then GoesOn (call_of other vs (with_left l (with_stack rest s))) else Ends (Fault Depth line))
      deeper l true = record { row = other; is_row = e; at = refl; caller = record { at = s.frame.at; stack = rest; locals = s.frame.locals }; goes_on = refl; callers = refl; flying_is = refl }
      deeper l false = tt

  called_to : (f line : ℕ) (row : FnRow) (s : State) (t : Option Taken)
      → MoveTo (Called code f s) s.flying (gained code layout node (call f row.params) 0 (tracks.Counter 0) line s t)
  called_to f line row s None = tt
  called_to f line row s (Some t) = called_by f line row s t.rest t.values (slice_get code.functions f) refl

  call_to : (f line : ℕ) (s : State) (o : Option FnRow) → slice_get code.functions f ≡ o → MoveTo (Called code f s) s.flying (calls_row code layout node f o line s)
  call_to f line s None e = tt
  call_to f line s (Some row) e = called_to f line row s (taken row.params [] s.frame.stack)

  returned_to : (v : Value) (s : State) (callers : List Frame) → s.callers ≡ callers → AfterTo (Left s s.flying) (returned v s callers)
  returned_to v s [] e = tt
  returned_to v s (f ∷ fs) e = record { caller = f; others = fs; was = e; at = refl; callers = refl; flying_is = refl }

  left_to : (line : ℕ) (s : State) (stack : List Operand) → MoveTo (Left s) s.flying (left_with line s stack)
  left_to line s [] = tt
  left_to line s (Here v ∷ stack) = none_to (Left s s.flying) line s.frame.locals (returned v s s.callers) (returned_to v s s.callers refl)
  left_to line s (Landing c n ∷ stack) = tt

  print_to : (o : Option (List ℕ)) (count line : ℕ) (s : State) → MoveTo (Here_ s) s.flying (prints_text code layout node o count line s)
  print_to None count line s = tt
  print_to (Some format) count line s = act_op (print format count) 0 (tracks.Counter 0) line s

  pub op_leads : (o : Op) (line : ℕ) (s : State) → MoveTo (Led code o s) s.flying (does_op code layout node o line s)
  op_leads (op.Push n) line s = gain_op (pure (push n)) 0 (tracks.Counter 0) line s tt
  op_leads op.Null line s = gain_op (pure null) 0 (tracks.Counter 0) line s tt
  op_leads op.Mine line s = gain_op (pure mine) 0 (tracks.Counter 0) line s tt
  op_leads op.Procs line s = gain_op (pure procs) 0 (tracks.Counter 0) line s tt
  op_leads (op.Elem o c) line s = gain_op (pure (elem o c)) 0 (tracks.Counter 0) line s tt
  op_leads (op.Step x) line s = gain_op (pure (step x)) 0 (tracks.Counter 0) line s tt
  op_leads op.Glob line s = gain_op (pure glob) 0 (tracks.Counter 0) line s tt
  op_leads op.ToLocal line s = gain_op (pure to_local) 0 (tracks.Counter 0) line s tt
  op_leads op.ToProc line s = gain_op (pure to_proc) 0 (tracks.Counter 0) line s tt
  op_leads op.ToGlobal line s = gain_op (pure to_global) 0 (tracks.Counter 0) line s tt
  op_leads (op.Load x) line s = gain_op (load x) 0 (tracks.Counter 0) line s tt
  op_leads (op.Set x) line s = gain_op (set x) 0 (tracks.Counter 0) line s tt
  op_leads (op.Clear x p) line s = act_op (clear x p) 0 (tracks.Counter 0) line s
  op_leads op.Dup line s = dup_to s s.frame.stack
  op_leads op.Drop line s = drop_to s s.frame.stack
  op_leads op.Swap line s = swap_to s s.frame.stack
  op_leads (op.Bin b) line s = gain_op (pure (bin b)) 0 (tracks.Counter 0) line s tt
  op_leads (op.Un u) line s = gain_op (pure (un u)) 0 (tracks.Counter 0) line s tt
  op_leads op.Same line s = gain_op (pure same) 0 (tracks.Counter 0) line s tt
  op_leads op.Truth line s = gain_op (pure truth) 0 (tracks.Counter 0) line s tt
  op_leads (op.Jump t) line s = record { at = refl; callers = refl; flying_is = refl }
  op_leads (op.Zero t) line s = jump_to t s s.frame.stack
  op_leads op.Turn line s = counted_to (Here_ s s.flying) s.left _ (λ l. record { at = refl; callers = refl; flying_is = refl })
  op_leads (op.Call f) line s = call_to f line s (slice_get code.functions f) refl
  op_leads op.Ret line s = left_to line s s.frame.stack
  op_leads (op.Print t c) line s = print_to (slice_get code.texts t) c line s
  op_leads (op.Read x) line s = site_to (Here_ s) s.flying code x _ (gain_op read x (tracks.Counter x) line s tt)
  op_leads (op.Fill x l) line s = site_to (Here_ s) s.flying code x _ (act_op (fill l) x (tracks.Counter x) line s)
  op_leads (op.Write x) line s = site_to (Here_ s) s.flying code x _ (gain_op write x (tracks.Counter x) line s tt)
  op_leads (op.Store x) line s = site_to (Here_ s) s.flying code x _ (gain_op write x tracks.Covered line s tt)
  op_leads (op.Get x l) line s = site_to (Here_ s) s.flying code x _ (act_op (get l) x (tracks.Counter 0) line s)
  op_leads (op.Put x) line s = site_to (Here_ s) s.flying code x _ (act_op put x (tracks.Counter 0) line s)
  op_leads (op.Send x) line s = site_to (Here_ s) s.flying code x _ (act_op send x tracks.Store line s)
  op_leads (op.Copy x m) line s = site_to (Here_ s) s.flying code x _ (act_op copy x (copy_track x m) line s)
  op_leads (op.Wait c) line s = counter_to (Here_ s) s.flying code c _ (act_op (wait c) 0 (tracks.Counter 0) line s)
  op_leads op.Barrier line s = act_op (barrier false) 0 (tracks.Counter 0) line s
  op_leads op.AllSync line s = act_op (barrier true) 0 (tracks.Counter 0) line s
