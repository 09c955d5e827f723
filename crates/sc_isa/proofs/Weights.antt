-- What is left of the budget, and the frames: a turn, a call and a return make their sum less, and no other
-- instruction changes it.
use Rattle.std.proofs.Common.{◌≡◌, ℕ, zero, suc, ◌+◌, ◌*◌, ◌<◌, Option, Some, None, Bool, true, false, if◌then◌else◌, nat_lt, nat_le, List, [], ◌∷◌, length, slice_get, pos, negsuc, refl, sym, ap, arith, subst, ◌&&◌}
use Rattle.std.proofs.lemmas.List.{length-map}
use Rattle.sc_base.specs.declared.limits.TheConstants.{LIMITS}
use Rattle.sc_base.specs.declared.value.End.TheVariants.{Fault}
use Rattle.sc_base.specs.declared.value.FaultKind.TheVariants.{Depth}
use Rattle.sc_base.specs.declared.value.Value.{Value}
use Rattle.sc_base.specs.declared.value.Value.TheVariants.{Int, Null, Ptr}
use Rattle.sc_layout.specs.Layout.{Arrangement}
use Rattle.sc_isa.specs.declared.access.Access.TheVariants as accesses
use Rattle.sc_isa.specs.declared.access.Track.{Track}
use Rattle.sc_isa.specs.declared.access.Track.TheVariants as tracks
use Rattle.sc_isa.specs.declared.code.Code.{Code}
use Rattle.sc_isa.specs.declared.code.FnRow.{FnRow}
use Rattle.sc_isa.specs.declared.op.Op.{Op}
use Rattle.sc_isa.specs.declared.op.Op.TheVariants as op
use Rattle.sc_isa.specs.declared.operand.Operand.{Operand}
use Rattle.sc_isa.specs.declared.operand.Operand.TheVariants.{Here, Landing}
use Rattle.sc_isa.specs.declared.operand.Slot.{Slot}
use Rattle.sc_isa.specs.declared.operand.Slot.TheVariants.{Holds, Pending}
use Rattle.sc_isa.specs.Pure.{push, null, mine, procs, elem, step, glob, to_local, to_proc, to_global, bin, un, same, truth, Outcome, gives as yields, fails, wrong, computed}
use Rattle.sc_isa.specs.Deeds.{Gain, pure, load, set, read, write, call, Act, clear, print, fill, get, put, send, copy, wait, barrier}
use Rattle.sc_isa.specs.Deeds.{Made, makes, faults, stuck, uses, sets, reads, writes, calls, made, made_by, reading, writing, Spotted, found, missing, nowhere, spotted, takes, uses_up, done}
use Rattle.sc_isa.specs.Deeds.{Done, lets_go, ends, sticks, clears, prints, fills, gets, misses, puts, sends, copies, waits, meets}
use Rattle.sc_isa.specs.State.{Frame, State, landed, with_stack, land_frame}
use Rattle.sc_isa.specs.Moves.{After, GoesOn, Ends, Sticks, Move, Comes, Issues, Waits, Meets, Says, Taken, taken, local_value, none_pending, counted, one_deeper, called, gain_done, act_done}
use Rattle.sc_isa.specs.Table.{gained, acted, duplicated, dropped, swapped, jumped, returned, left_with, at_site, at_counter, calls_row, prints_text, copy_track, does_op}
use Rattle.sc_isa.specs.Sound.{IsAfter, Leads, is_bounded}

abbrev pub weight : State → ℕ
weight s = 2 * s.left + length s.callers

-- less, where an instruction is bounded, and else the same
abbrev pub Weighs : (bounded : Bool) → (old new : ℕ) → Type 0
Weighs true old new = new < old
Weighs false old new = new ≡ old

abbrev pub AfterWeighs : Bool → ℕ → After → Type 0
AfterWeighs b w (GoesOn s) = Weighs b w (weight s)
AfterWeighs b w (Ends end) = Unit {0}
AfterWeighs b w Sticks = Unit {0}

abbrev pub MoveWeighs : Bool → ℕ → Move → Type 0
MoveWeighs b w (Comes after) = AfterWeighs b w after
MoveWeighs b w (Issues access after) = AfterWeighs b w after
MoveWeighs b w (Waits counter s) = Weighs b w (weight s)
MoveWeighs b w (Meets stores s) = Weighs b w (weight s)
MoveWeighs b w (Says text s) = Weighs b w (weight s)

landed_weighs : (counter : ℕ) (values : List Value) (s : State) → weight (landed counter values s) ≡ weight s
landed_weighs counter values s = ap (λ n. 2 * s.left + n) (length-map s.callers (land_frame counter values))

after_leads : (b : Bool) (w : ℕ) (after : After) (next : State) → AfterWeighs b w after → IsAfter after next
    → Weighs b w (weight next)
after_leads b w (GoesOn s) next h e = subst (λ (t : State). Weighs b w (weight t)) (sym e) h
after_leads b w (Ends end) next h e = absurd e
after_leads b w Sticks next h e = absurd e

pub weighs_leads : (b : Bool) (w : ℕ) (layout : Arrangement) (move : Move) (next : State) → MoveWeighs b w move
    → Leads layout move next → Weighs b w (weight next)
weighs_leads b w layout (Comes after) next h e = after_leads b w after next h e
weighs_leads b w layout (Issues access after) next h e = after_leads b w after next h e
weighs_leads b w layout (Waits counter s) next h e =
    subst (λ (t : State). Weighs b w (weight t)) (sym e.next_is)
    (subst (λ (n : ℕ). Weighs b w n) (sym (landed_weighs counter e.values s)) h)
weighs_leads b w layout (Meets stores s) next h e = subst (λ (t : State). Weighs b w (weight t)) (sym e) h
weighs_leads b w layout (Says text s) next h e = subst (λ (t : State). Weighs b w (weight t)) (sym e) h

-- ---- steps that are no calls

abbrev IsNoCall : Made → Type 0
IsNoCall (calls function values) = ⊥
IsNoCall _ = Unit {0}

abbrev IsNoCallGain : Gain → Type 0
IsNoCallGain (call function count) = ⊥
IsNoCallGain _ = Unit {0}

made_by_is : (o : Outcome) → IsNoCall (made_by o)
made_by_is (yields v) = tt
made_by_is (fails k) = tt
made_by_is wrong = tt

reading_is : (p : Spotted) → IsNoCall (reading p)
reading_is (found p) = tt
reading_is (missing k) = tt
reading_is nowhere = tt

writing_is : (p : Spotted) (v : Value) → IsNoCall (writing p v)
writing_is (found p) v = tt
writing_is (missing k) v = tt
writing_is nowhere v = tt

made_is : (layout : Arrangement) (node : ℕ) (g : Gain) (values : List Value) → IsNoCallGain g
    → IsNoCall (made layout node g values)
made_is layout node (pure p) values h = made_by_is (computed layout node p values)
made_is layout node (load x) [] h = tt
made_is layout node (load x) (a ∷ vs) h = tt
made_is layout node (set x) [] h = tt
made_is layout node (set x) (a ∷ []) h = tt
made_is layout node (set x) (a ∷ b ∷ vs) h = tt
made_is layout node read [] h = tt
made_is layout node read (a ∷ []) h = reading_is (spotted layout a)
made_is layout node read (a ∷ b ∷ vs) h = tt
made_is layout node write [] h = tt
made_is layout node write (a ∷ []) h = tt
made_is layout node write (a ∷ b ∷ []) h = writing_is (spotted layout a) b
made_is layout node write (a ∷ b ∷ c ∷ vs) h = tt
made_is layout node (call f n) values h = absurd h

local_weighs : (w line : ℕ) (slot : Option Slot) (go : Value → Move) → ((v : Value) → MoveWeighs false w (go v))
    → MoveWeighs false w (local_value Comes line slot go)
local_weighs w line None go h = tt
local_weighs w line (Some (Holds (Here v))) go h = h v
local_weighs w line (Some (Holds (Landing c n))) go h = tt
local_weighs w line (Some (Pending n)) go h = tt

local_after_weighs : (w line : ℕ) (slot : Option Slot) (go : Value → After)
    → ((v : Value) → AfterWeighs false w (go v)) → AfterWeighs false w (local_value (λ after. after) line slot go)
local_after_weighs w line None go h = tt
local_after_weighs w line (Some (Holds (Here v))) go h = h v
local_after_weighs w line (Some (Holds (Landing c n))) go h = tt
local_after_weighs w line (Some (Pending n)) go h = tt

gain_weighs : (code : Code) (site : ℕ) (track : Track) (line : ℕ) (s : State) (m : Made) → IsNoCall m
    → MoveWeighs false (weight s) (gain_done code site track line s m)
gain_weighs code site track line s (makes v) h = refl
gain_weighs code site track line s (faults k) h = tt
gain_weighs code site track line s stuck h = tt
gain_weighs code site track line s (uses x) h =
    local_weighs (weight s) line (slice_get s.frame.locals x) _ (λ v. refl)
gain_weighs code site track line s (sets x v) h =
    local_weighs (weight s) line (slice_get s.frame.locals x) _ (λ v. refl)
gain_weighs code site track line s (reads p) h = refl
gain_weighs code site track line s (writes p v) h = refl
gain_weighs code site track line s (calls f vs) h = absurd h

act_weighs : (site : ℕ) (track : Track) (line : ℕ) (s : State) (d : Done)
    → MoveWeighs false (weight s) (act_done site track line s d)
act_weighs site track line s lets_go = refl
act_weighs site track line s (ends k) = tt
act_weighs site track line s sticks = tt
act_weighs site track line s (clears x v) = local_weighs (weight s) line (slice_get s.frame.locals x) _ (λ v. refl)
act_weighs site track line s (prints t) = refl
act_weighs site track line s (fills x p) =
    local_after_weighs (weight s) line (slice_get s.frame.locals x) _ (λ v. refl)
act_weighs site track line s (gets x p) = local_weighs (weight s) line (slice_get s.frame.locals x) _ (λ v. refl)
act_weighs site track line s (misses x k) = local_weighs (weight s) line (slice_get s.frame.locals x) _ (λ v. tt)
act_weighs site track line s (puts p v) = refl
act_weighs site track line s (sends p v) = refl
act_weighs site track line s (copies a b n) = refl
act_weighs site track line s (waits c) = refl
act_weighs site track line s (meets b) = refl

gained_weighs : (code : Code) (layout : Arrangement) (node : ℕ) (g : Gain) (site : ℕ) (track : Track) (line : ℕ)
    (s : State) (t : Option Taken) → IsNoCallGain g
    → MoveWeighs false (weight s) (gained code layout node g site track line s t)
gained_weighs code layout node g site track line s None h = tt
gained_weighs code layout node g site track line s (Some t) h =
    gain_weighs code site track line (with_stack t.rest s) (made layout node g t.values)
    (made_is layout node g t.values h)

acted_weighs : (layout : Arrangement) (a : Act) (site : ℕ) (track : Track) (line : ℕ) (s : State) (t : Option Taken)
    → MoveWeighs false (weight s) (acted layout a site track line s t)
acted_weighs layout a site track line s None = tt
acted_weighs layout a site track line s (Some t) =
    act_weighs site track line (with_stack t.rest s) (done layout a t.values)

-- ---- turns, calls and returns

counted_weighs : (w : ℕ) (left : ℕ) (go : ℕ → After) → ((l : ℕ) → left ≡ suc l → AfterWeighs true w (go l))
    → AfterWeighs true w (counted left go)
counted_weighs w zero go h = tt
counted_weighs w (suc l) go h = h l refl

deeper_weighs : (w line : ℕ) (s : State) (after : After) → AfterWeighs true w after
    → AfterWeighs true w (one_deeper line s after)
deeper_weighs w line s after h =
    elim (nat_lt (length s.callers + 1) LIMITS.frames) as (λ b. AfterWeighs true w
    (if b then after else Ends (Fault Depth line))) [ true ↦ h | false ↦ tt ]

call_weighs : (left callers l : ℕ) → left ≡ suc l → 2 * l + suc callers < 2 * left + callers
call_weighs left callers l e = omega arith

called_weighs : (line : ℕ) (row : Option FnRow) (values : List Value) (s : State)
    → AfterWeighs true (weight s) (called line row values s)
called_weighs line None values s = tt
called_weighs line (Some row) values s =
    counted_weighs (weight s) s.left _
    (λ l e. deeper_weighs (weight s) line s _ (call_weighs s.left (length s.callers) l e))

call_made_weighs : (code : Code) (layout : Arrangement) (node f n line : ℕ) (s : State) (t : Option Taken)
    → MoveWeighs true (weight s) (gained code layout node (call f n) 0 (tracks.Counter 0) line s t)
call_made_weighs code layout node f n line s None = tt
call_made_weighs code layout node f n line s (Some t) =
    called_weighs line (slice_get code.functions f) t.values (with_stack t.rest s)

turn_weighs : (left callers l : ℕ) → left ≡ suc l → 2 * l + callers < 2 * left + callers
turn_weighs left callers l e = omega arith

returned_weighs : (v : Value) (s : State) (callers : List Frame) → s.callers ≡ callers
    → AfterWeighs true (weight s) (returned v s callers)
returned_weighs v s [] e = tt
returned_weighs v s (c ∷ cs) e = rw e (omega arith)

pending_weighs : (w line : ℕ) (slots : List Slot) (after : After) → AfterWeighs true w after
    → AfterWeighs true w (none_pending line slots after)
pending_weighs w line [] after h = h
pending_weighs w line (Pending n ∷ slots) after h = tt
pending_weighs w line (Holds o ∷ slots) after h = pending_weighs w line slots after h

left_weighs : (line : ℕ) (s : State) (stack : List Operand) → MoveWeighs true (weight s) (left_with line s stack)
left_weighs line s [] = tt
left_weighs line s (Landing c n ∷ stack) = tt
left_weighs line s (Here v ∷ stack) =
    pending_weighs (weight s) line s.frame.locals (returned v s s.callers) (returned_weighs v s s.callers refl)

-- ---- operands as they are

dup_weighs : (s : State) (stack : List Operand) → MoveWeighs false (weight s) (duplicated s stack)
dup_weighs s [] = tt
dup_weighs s (a ∷ stack) = refl

drop_weighs : (s : State) (stack : List Operand) → MoveWeighs false (weight s) (dropped s stack)
drop_weighs s [] = tt
drop_weighs s (a ∷ stack) = refl

swap_weighs : (s : State) (stack : List Operand) → MoveWeighs false (weight s) (swapped s stack)
swap_weighs s [] = tt
swap_weighs s (a ∷ []) = tt
swap_weighs s (a ∷ b ∷ stack) = refl

jump_weighs : (target : ℕ) (s : State) (stack : List Operand) → MoveWeighs false (weight s) (jumped target s stack)
jump_weighs target s [] = tt
jump_weighs target s (Landing c n ∷ stack) = tt
jump_weighs target s (Here Null ∷ stack) = tt
jump_weighs target s (Here (Ptr a b c) ∷ stack) = tt
jump_weighs target s (Here (Int (pos zero)) ∷ stack) = refl
jump_weighs target s (Here (Int (pos (suc n))) ∷ stack) = refl
jump_weighs target s (Here (Int (negsuc n)) ∷ stack) = refl

-- ---- the table

module _ (code : Code) (layout : Arrangement) (node : ℕ) where
  gain_op : (g : Gain) (site : ℕ) (track : Track) (line : ℕ) (s : State) → IsNoCallGain g
      → MoveWeighs false (weight s) (gained code layout node g site track line s (taken (takes g) [] s.frame.stack))
  gain_op g site track line s h =
      gained_weighs code layout node g site track line s (taken (takes g) [] s.frame.stack) h

  act_op : (a : Act) (site : ℕ) (track : Track) (line : ℕ) (s : State)
      → MoveWeighs false (weight s) (acted layout a site track line s (taken (uses_up a) [] s.frame.stack))
  act_op a site track line s = acted_weighs layout a site track line s (taken (uses_up a) [] s.frame.stack)

  call_op : (f line : ℕ) (row : Option FnRow) (s : State)
      → MoveWeighs true (weight s) (calls_row code layout node f row line s)
  call_op f line None s = tt
  call_op f line (Some row) s = call_made_weighs code layout node f row.params line s
      (taken row.params [] s.frame.stack)

  print_op : (format : Option (List ℕ)) (count line : ℕ) (s : State)
      → MoveWeighs false (weight s) (prints_text code layout node format count line s)
  print_op None count line s = tt
  print_op (Some format) count line s = act_op (print format count) 0 (tracks.Counter 0) line s

  site_weighs : (site w : ℕ) (move : Move) → MoveWeighs false w move → MoveWeighs false w (at_site code site move)
  site_weighs site w move h =
      elim (nat_lt 0 site && nat_le site code.sites) as
      (λ b. MoveWeighs false w (if b then move else Comes Sticks)) [ true ↦ h | false ↦ tt ]

  counter_weighs : (counter w : ℕ) (move : Move) → MoveWeighs false w move
      → MoveWeighs false w (at_counter code counter move)
  counter_weighs counter w move h =
      elim (nat_le counter code.sites) as
      (λ b. MoveWeighs false w (if b then move else Comes Sticks)) [ true ↦ h | false ↦ tt ]

  pub op_weighs : (o : Op) (line : ℕ) (s : State)
      → MoveWeighs (is_bounded o) (weight s) (does_op code layout node o line s)
  op_weighs (op.Push n) line s = gain_op (pure (push n)) 0 (tracks.Counter 0) line s tt
  op_weighs op.Null line s = gain_op (pure null) 0 (tracks.Counter 0) line s tt
  op_weighs op.Mine line s = gain_op (pure mine) 0 (tracks.Counter 0) line s tt
  op_weighs op.Procs line s = gain_op (pure procs) 0 (tracks.Counter 0) line s tt
  op_weighs (op.Elem o c) line s = gain_op (pure (elem o c)) 0 (tracks.Counter 0) line s tt
  op_weighs (op.Step x) line s = gain_op (pure (step x)) 0 (tracks.Counter 0) line s tt
  op_weighs op.Glob line s = gain_op (pure glob) 0 (tracks.Counter 0) line s tt
  op_weighs op.ToLocal line s = gain_op (pure to_local) 0 (tracks.Counter 0) line s tt
  op_weighs op.ToProc line s = gain_op (pure to_proc) 0 (tracks.Counter 0) line s tt
  op_weighs op.ToGlobal line s = gain_op (pure to_global) 0 (tracks.Counter 0) line s tt
  op_weighs (op.Load x) line s = gain_op (load x) 0 (tracks.Counter 0) line s tt
  op_weighs (op.Set x) line s = gain_op (set x) 0 (tracks.Counter 0) line s tt
  op_weighs (op.Clear x p) line s = act_op (clear x p) 0 (tracks.Counter 0) line s
  op_weighs op.Dup line s = dup_weighs s s.frame.stack
  op_weighs op.Drop line s = drop_weighs s s.frame.stack
  op_weighs op.Swap line s = swap_weighs s s.frame.stack
  op_weighs (op.Bin b) line s = gain_op (pure (bin b)) 0 (tracks.Counter 0) line s tt
  op_weighs (op.Un u) line s = gain_op (pure (un u)) 0 (tracks.Counter 0) line s tt
  op_weighs op.Same line s = gain_op (pure same) 0 (tracks.Counter 0) line s tt
  op_weighs op.Truth line s = gain_op (pure truth) 0 (tracks.Counter 0) line s tt
  op_weighs (op.Jump t) line s = refl
  op_weighs (op.Zero t) line s = jump_weighs t s s.frame.stack
  op_weighs op.Turn line s = counted_weighs (weight s) s.left _ (λ l e. turn_weighs s.left (length s.callers) l e)
  op_weighs (op.Call f) line s = call_op f line (slice_get code.functions f) s
  op_weighs op.Ret line s = left_weighs line s s.frame.stack
  op_weighs (op.Print t c) line s = print_op (slice_get code.texts t) c line s
  op_weighs (op.Read x) line s = site_weighs x (weight s) _ (gain_op read x (tracks.Counter x) line s tt)
  op_weighs (op.Fill x l) line s = site_weighs x (weight s) _ (act_op (fill l) x (tracks.Counter x) line s)
  op_weighs (op.Write x) line s = site_weighs x (weight s) _ (gain_op write x (tracks.Counter x) line s tt)
  op_weighs (op.Store x) line s = site_weighs x (weight s) _ (gain_op write x tracks.Covered line s tt)
  op_weighs (op.Get x l) line s = site_weighs x (weight s) _ (act_op (get l) x (tracks.Counter 0) line s)
  op_weighs (op.Put x) line s = site_weighs x (weight s) _ (act_op put x (tracks.Counter 0) line s)
  op_weighs (op.Send x) line s = site_weighs x (weight s) _ (act_op send x tracks.Store line s)
  op_weighs (op.Copy x m) line s = site_weighs x (weight s) _ (act_op copy x (copy_track x m) line s)
  op_weighs (op.Wait c) line s = counter_weighs c (weight s) _ (act_op (wait c) 0 (tracks.Counter 0) line s)
  op_weighs op.Barrier line s = act_op (barrier false) 0 (tracks.Counter 0) line s
  op_weighs op.AllSync line s = act_op (barrier true) 0 (tracks.Counter 0) line s
