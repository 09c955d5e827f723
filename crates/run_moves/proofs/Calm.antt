-- The code of a node is orderly: it arrives and then passes, and no instruction ends a node as waiting.
use Rattle.std.proofs.Common.{◌≢◌, ℕ, zero, suc, List, [], ◌∷◌, Option, Some, None, Bool, true, false, refl}
use Rattle.std.specs.Prelude.{if◌then◌else◌, slice_get, pos, negsuc, nat_lt, nat_le, ◌&&◌}
use Rattle.sc_base.specs.declared.value.End.TheVariants.{Fault, Waiting}
use Rattle.sc_base.specs.declared.value.FaultKind.TheVariants.{PendingUse, Depth}
use Rattle.sc_base.specs.declared.value.Value.{Value}
use Rattle.sc_base.specs.declared.value.Value.TheVariants.{Int, Null, Ptr}
use Rattle.sc_layout.specs.Layout.{Arrangement}
use Rattle.sc_isa.specs.declared.access.Track.{Track}
use Rattle.sc_isa.specs.declared.code.Code.{Code}
use Rattle.sc_isa.specs.declared.code.FnRow.{FnRow}
use Rattle.sc_isa.specs.declared.op.Instr.{Instr}
use Rattle.sc_isa.specs.declared.op.Op.{Op}
use Rattle.sc_isa.specs.declared.op.Op.TheVariants as op
use Rattle.sc_isa.specs.declared.operand.Operand.{Operand}
use Rattle.sc_isa.specs.declared.operand.Operand.TheVariants.{Here, Landing}
use Rattle.sc_isa.specs.declared.operand.Slot.{Slot}
use Rattle.sc_isa.specs.declared.operand.Slot.TheVariants.{Holds, Pending}
use Rattle.sc_isa.specs.Pure.{push, null, mine, procs, elem, step, glob, to_local, to_proc, to_global, bin, un, same, truth}
use Rattle.sc_isa.specs.Deeds.{Made, makes, faults, stuck, uses, sets, reads, writes, calls, Gain, Act, made, done}
use Rattle.sc_isa.specs.Deeds.{pure, load, set, read, write, call, clear, print, fill, get, put, send, copy, wait, barrier, takes, uses_up}
use Rattle.sc_isa.specs.declared.access.Track.TheVariants as tracks
use Rattle.sc_isa.specs.Deeds.{Done, lets_go, ends, sticks, clears, prints, fills, gets, misses, puts, sends, copies, waits, meets}
use Rattle.sc_isa.specs.State.{State, Frame, with_left}
use Rattle.sc_isa.specs.Moves.{After, GoesOn, Ends, Sticks, Move, Comes, Issues, Waits, Meets, Says, Taken, taken, local_value, none_pending, counted, call_of, called, gain_done, act_done}
use Rattle.sc_isa.specs.Table.{gained, acted, gains, acts, copy_track, duplicated, dropped, swapped, jumped, returned, left_with, calls_row, prints_text, does_op, does_instr, step_of}
use Rattle.sc_isa.specs.Run.{NodeDoing, asked_by, asks_from}
use Rattle.sc_isa.specs.Begin.{begin}
use Rattle.run_moves.specs.Laws.{IsOrderly, CodeIsOrderly}

abbrev CalmAfter : After → Type 0
CalmAfter (Ends end) = end ≢ Waiting
CalmAfter _ = Unit {0}

abbrev Calm : Move → Type 0
Calm (Comes after) = CalmAfter after
Calm (Issues access after) = CalmAfter after
Calm _ = Unit {0}

fault_calm : (line : ℕ) (kind : _) → Fault kind line ≢ Waiting
fault_calm line kind e = cc

-- ---- parts of steps

local_calm : (line : ℕ) (slot : Option Slot) (go : Value → After) → ((v : Value) → CalmAfter (go v)) → CalmAfter (local_value (λ after. after) line slot go)
local_calm line (Some (Holds (Here v))) go f = f v
local_calm line (Some (Pending n)) go f = fault_calm line PendingUse
local_calm line (Some (Holds (Landing c n))) go f = tt
local_calm line None go f = tt

used_calm : (line : ℕ) (slot : Option Slot) (go : Value → Move) → ((v : Value) → Calm (go v)) → Calm (local_value Comes line slot go)
used_calm line (Some (Holds (Here v))) go f = f v
used_calm line (Some (Pending n)) go f = fault_calm line PendingUse
used_calm line (Some (Holds (Landing c n))) go f = tt
used_calm line None go f = tt

pending_calm : (line : ℕ) (slots : List Slot) (after : After) → CalmAfter after → CalmAfter (none_pending line slots after)
pending_calm line [] after f = f
pending_calm line (Pending n ∷ slots) after f = fault_calm line PendingUse
pending_calm line (Holds o ∷ slots) after f = pending_calm line slots after f

counted_calm : (left : ℕ) (go : ℕ → After) → ((n : ℕ) → CalmAfter (go n)) → CalmAfter (counted left go)
counted_calm zero go f = λ e. cc
counted_calm (suc n) go f = f n

called_calm : (line : ℕ) (row : Option FnRow) (vs : List Value) (s : State) → CalmAfter (called line row vs s)
called_calm line None vs s = tt
called_calm line (Some row) vs s = counted_calm s.left _ (λ left. by (nat_lt _ _) (GoesOn (call_of row vs (with_left left s))) tt)
  where
    by : (b : Bool) (after : After) → CalmAfter after → CalmAfter (if b then after else Ends (Fault Depth line))
    by true after f = f
    by false after f = fault_calm line Depth

gain_calm : (code : Code) (site : ℕ) (track : Track) (line : ℕ) (s : State) (m : Made) → Calm (gain_done code site track line s m)
gain_calm code site track line s (makes v) = tt
gain_calm code site track line s (faults kind) = fault_calm line kind
gain_calm code site track line s stuck = tt
gain_calm code site track line s (uses local) = used_calm line (slice_get s.frame.locals local) _ (λ v. tt)
gain_calm code site track line s (sets local value) = used_calm line (slice_get s.frame.locals local) _ (λ v. tt)
gain_calm code site track line s (reads place) = tt
gain_calm code site track line s (writes place value) = tt
gain_calm code site track line s (calls f vs) = called_calm line (slice_get code.functions f) vs s

act_calm : (site : ℕ) (track : Track) (line : ℕ) (s : State) (d : Done) → Calm (act_done site track line s d)
act_calm site track line s lets_go = tt
act_calm site track line s (ends kind) = fault_calm line kind
act_calm site track line s sticks = tt
act_calm site track line s (clears local value) = used_calm line (slice_get s.frame.locals local) _ (λ v. tt)
act_calm site track line s (prints text) = tt
act_calm site track line s (fills local place) = local_calm line (slice_get s.frame.locals local) _ (λ v. tt)
act_calm site track line s (gets local place) = used_calm line (slice_get s.frame.locals local) _ (λ v. tt)
act_calm site track line s (misses local kind) = used_calm line (slice_get s.frame.locals local) _ (λ v. fault_calm line kind)
act_calm site track line s (puts place value) = tt
act_calm site track line s (sends place value) = tt
act_calm site track line s (copies from to cells) = tt
act_calm site track line s (waits counter) = tt
act_calm site track line s (meets stores) = tt

gained_calm : (code : Code) (layout : Arrangement) (node : ℕ) (g : Gain) (site : ℕ) (track : Track) (line : ℕ) (s : State) (t : Option Taken) → Calm (gained code layout node g site track line s t)
gained_calm code layout node g site track line s None = tt
gained_calm code layout node g site track line s (Some t) = gain_calm code site track line _ (made layout node g t.values)

acted_calm : (layout : Arrangement) (a : Act) (site : ℕ) (track : Track) (line : ℕ) (s : State) (t : Option Taken) → Calm (acted layout a site track line s t)
acted_calm layout a site track line s None = tt
acted_calm layout a site track line s (Some t) = act_calm site track line _ (done layout a t.values)

if_calm : (b : Bool) (m : Move) → Calm m → Calm (if b then m else Comes Sticks)
if_calm true m f = f
if_calm false m f = tt

duplicated_calm : (s : State) (stack : List Operand) → Calm (duplicated s stack)
duplicated_calm s [] = tt
duplicated_calm s (o ∷ stack) = tt

dropped_calm : (s : State) (stack : List Operand) → Calm (dropped s stack)
dropped_calm s [] = tt
dropped_calm s (o ∷ stack) = tt

swapped_calm : (s : State) (stack : List Operand) → Calm (swapped s stack)
swapped_calm s [] = tt
swapped_calm s (o ∷ []) = tt
swapped_calm s (o ∷ p ∷ stack) = tt

jumped_calm : (target : ℕ) (s : State) (stack : List Operand) → Calm (jumped target s stack)
jumped_calm target s [] = tt
jumped_calm target s (Landing c n ∷ stack) = tt
jumped_calm target s (Here Null ∷ stack) = tt
jumped_calm target s (Here (Ptr o n f) ∷ stack) = tt
jumped_calm target s (Here (Int (pos zero)) ∷ stack) = tt
jumped_calm target s (Here (Int (pos (suc n))) ∷ stack) = tt
jumped_calm target s (Here (Int (negsuc n)) ∷ stack) = tt

returned_calm : (value : Value) (s : State) (callers : List Frame) → CalmAfter (returned value s callers)
returned_calm value s [] = λ e. cc
returned_calm value s (f ∷ fs) = tt

left_calm : (line : ℕ) (s : State) (stack : List Operand) → Calm (left_with line s stack)
left_calm line s [] = tt
left_calm line s (Landing c n ∷ stack) = tt
left_calm line s (Here value ∷ stack) = pending_calm line s.frame.locals _ (returned_calm value s s.callers)

-- ---- the table

module _ (code : Code) (layout : Arrangement) (node : ℕ) where
  gains_calm : (g : Gain) (site : ℕ) (track : Track) (line : ℕ) (s : State) → Calm (gains code layout node g site track line s)
  gains_calm g site track line s = gained_calm code layout node g site track line s (taken (takes g) [] s.frame.stack)

  acts_calm : (a : Act) (site : ℕ) (track : Track) (line : ℕ) (s : State) → Calm (acts code layout node a site track line s)
  acts_calm a site track line s = acted_calm layout a site track line s (taken (uses_up a) [] s.frame.stack)

  row_calm : (f : ℕ) (row : Option FnRow) (line : ℕ) (s : State) → Calm (calls_row code layout node f row line s)
  row_calm f None line s = tt
  row_calm f (Some row) line s = gains_calm (call f row.params) 0 (tracks.Counter 0) line s

  print_calm : (text : Option (List ℕ)) (count line : ℕ) (s : State) → Calm (prints_text code layout node text count line s)
  print_calm None count line s = tt
  print_calm (Some text) count line s = acts_calm (print text count) 0 (tracks.Counter 0) line s

  op_calm : (o : Op) (line : ℕ) (s : State) → Calm (does_op code layout node o line s)
  op_calm (op.Push n) line s = gains_calm (pure (push n)) 0 (tracks.Counter 0) line s
  op_calm op.Null line s = gains_calm (pure null) 0 (tracks.Counter 0) line s
  op_calm op.Mine line s = gains_calm (pure mine) 0 (tracks.Counter 0) line s
  op_calm op.Procs line s = gains_calm (pure procs) 0 (tracks.Counter 0) line s
  op_calm (op.Elem object count) line s = gains_calm (pure (elem object count)) 0 (tracks.Counter 0) line s
  op_calm (op.Step star) line s = gains_calm (pure (step star)) 0 (tracks.Counter 0) line s
  op_calm op.Glob line s = gains_calm (pure glob) 0 (tracks.Counter 0) line s
  op_calm op.ToLocal line s = gains_calm (pure to_local) 0 (tracks.Counter 0) line s
  op_calm op.ToProc line s = gains_calm (pure to_proc) 0 (tracks.Counter 0) line s
  op_calm op.ToGlobal line s = gains_calm (pure to_global) 0 (tracks.Counter 0) line s
  op_calm (op.Load local) line s = gains_calm (load local) 0 (tracks.Counter 0) line s
  op_calm (op.Set local) line s = gains_calm (set local) 0 (tracks.Counter 0) line s
  op_calm (op.Clear local pointer) line s = acts_calm (clear local pointer) 0 (tracks.Counter 0) line s
  op_calm op.Dup line s = duplicated_calm s s.frame.stack
  op_calm op.Drop line s = dropped_calm s s.frame.stack
  op_calm op.Swap line s = swapped_calm s s.frame.stack
  op_calm (op.Bin operator) line s = gains_calm (pure (bin operator)) 0 (tracks.Counter 0) line s
  op_calm (op.Un operator) line s = gains_calm (pure (un operator)) 0 (tracks.Counter 0) line s
  op_calm op.Same line s = gains_calm (pure same) 0 (tracks.Counter 0) line s
  op_calm op.Truth line s = gains_calm (pure truth) 0 (tracks.Counter 0) line s
  op_calm (op.Jump target) line s = tt
  op_calm (op.Zero target) line s = jumped_calm target s s.frame.stack
  op_calm op.Turn line s = counted_calm s.left _ (λ n. tt)
  op_calm (op.Call f) line s = row_calm f (slice_get code.functions f) line s
  op_calm op.Ret line s = left_calm line s s.frame.stack
  op_calm (op.Print text count) line s = print_calm (slice_get code.texts text) count line s
  op_calm (op.Read site) line s = if_calm (nat_lt 0 site && nat_le site code.sites) (gains code layout node read site (tracks.Counter site) line s) (gains_calm read site (tracks.Counter site) line s)
  op_calm (op.Fill site local) line s = if_calm (nat_lt 0 site && nat_le site code.sites) (acts code layout node (fill local) site (tracks.Counter site) line s) (acts_calm (fill local) site (tracks.Counter site) line s)
  op_calm (op.Write site) line s = if_calm (nat_lt 0 site && nat_le site code.sites) (gains code layout node write site (tracks.Counter site) line s) (gains_calm write site (tracks.Counter site) line s)
  op_calm (op.Store site) line s = if_calm (nat_lt 0 site && nat_le site code.sites) (gains code layout node write site tracks.Covered line s) (gains_calm write site tracks.Covered line s)
  op_calm (op.Get site local) line s = if_calm (nat_lt 0 site && nat_le site code.sites) (acts code layout node (get local) site (tracks.Counter 0) line s) (acts_calm (get local) site (tracks.Counter 0) line s)
  op_calm (op.Put site) line s = if_calm (nat_lt 0 site && nat_le site code.sites) (acts code layout node put site (tracks.Counter 0) line s) (acts_calm put site (tracks.Counter 0) line s)
  op_calm (op.Send site) line s = if_calm (nat_lt 0 site && nat_le site code.sites) (acts code layout node send site tracks.Store line s) (acts_calm send site tracks.Store line s)
  op_calm (op.Copy site mode) line s = if_calm (nat_lt 0 site && nat_le site code.sites) (acts code layout node copy site (copy_track site mode) line s) (acts_calm copy site (copy_track site mode) line s)
  op_calm (op.Wait counter) line s = if_calm (nat_le counter code.sites) (acts code layout node (wait counter) 0 (tracks.Counter 0) line s) (acts_calm (wait counter) 0 (tracks.Counter 0) line s)
  op_calm op.Barrier line s = acts_calm (barrier false) 0 (tracks.Counter 0) line s
  op_calm op.AllSync line s = acts_calm (barrier true) 0 (tracks.Counter 0) line s

  instr_calm : (i : Option Instr) (s : State) → Calm (does_instr code layout node i s)
  instr_calm None s = tt
  instr_calm (Some i) s = op_calm i.op i.line _

  asked_orderly : (go : State → NodeDoing) → ((s : State) → IsOrderly false (go s)) → (m : Move) → Calm m → IsOrderly false (asked_by layout go m)
  unfolding IsOrderly
  asked_orderly go f (Comes (GoesOn s)) c = f s
  asked_orderly go f (Comes (Ends end)) c = c
  asked_orderly go f (Comes Sticks) c = tt
  asked_orderly go f (Issues access (GoesOn s)) c = f s
  asked_orderly go f (Issues access (Ends end)) c = c
  asked_orderly go f (Issues access Sticks) c = tt
  asked_orderly go f (Waits counter s) c = λ answer h. f _
  asked_orderly go f (Meets stores s) c = (refl, refl, λ values. refl, f s, refl)
  asked_orderly go f (Says text s) c = f s

  orderly_from : (n : ℕ) (s : State) → IsOrderly false (asks_from code layout node n s)
  unfolding IsOrderly
  orderly_from zero s = tt
  orderly_from (suc n) s = asked_orderly (asks_from code layout node n) (λ s. orderly_from n s) (step_of code layout node s) (instr_calm (slice_get code.instrs s.frame.at) s)

pub code_is_orderly : CodeIsOrderly
code_is_orderly code layout node budget many = orderly_from code layout node many (begin code budget)
