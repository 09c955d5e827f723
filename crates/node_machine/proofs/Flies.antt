-- Which reads are on their way after an instruction: a read is one more, and nothing else changes them.
use Rattle.std.proofs.Common.{◌≡◌, ℕ, zero, suc, ◌+◌, Option, Some, None, true, false, if◌then◌else◌, nat_lt, nat_le, List, [], ◌∷◌, length, slice_get, pos, negsuc, refl, ◌&&◌, ◌++◌}
use Rattle.sc_base.specs.declared.limits.TheConstants.{LIMITS}
use Rattle.sc_base.specs.declared.value.End.TheVariants.{Fault}
use Rattle.sc_base.specs.declared.value.FaultKind.TheVariants.{Depth}
use Rattle.sc_base.specs.declared.value.Value.{Value}
use Rattle.sc_base.specs.declared.value.Value.TheVariants.{Int, Null, Ptr}
use Rattle.sc_layout.specs.Layout.{Arrangement}
use Rattle.sc_isa.specs.declared.access.Track.{Track}
use Rattle.sc_isa.specs.declared.access.Track.TheVariants as tracks
use Rattle.sc_isa.specs.declared.code.Code.{Code}
use Rattle.sc_isa.specs.declared.code.FnRow.{FnRow}
use Rattle.sc_isa.specs.declared.op.Instr.{Instr}
use Rattle.sc_isa.specs.declared.op.Op.{Op}
use Rattle.sc_isa.specs.declared.op.Op.TheVariants as op
use Rattle.sc_isa.specs.declared.operand.Operand.{Operand}
use Rattle.sc_isa.specs.declared.operand.Operand.TheVariants.{Here, Landing}
use Rattle.sc_isa.specs.declared.operand.Slot.{Slot}
use Rattle.sc_isa.specs.declared.operand.Slot.TheVariants.{Holds, Pending}
use Rattle.sc_isa.specs.Pure.{push, null, mine, procs, elem, step, glob, to_local, to_proc, to_global, bin, un, same, truth}
use Rattle.sc_isa.specs.Deeds.{Gain, pure, load, set, read, write, call, Act, clear, print, fill, get, put, send, copy, wait, barrier}
use Rattle.sc_isa.specs.Deeds.{Made, makes, faults, stuck, uses, sets, reads, writes, calls, made, takes, uses_up, done}
use Rattle.sc_isa.specs.Deeds.{Done, lets_go, ends, sticks, clears, prints, fills, gets, misses, puts, sends, copies, waits, meets}
use Rattle.sc_isa.specs.State.{Flight, Frame, State, at_instr, with_stack}
use Rattle.sc_isa.specs.Moves.{After, Ends, Sticks, Move, Comes, Taken, taken, local_value, none_pending, counted, one_deeper, called, gain_done, act_done}
use Rattle.sc_isa.specs.Table.{gained, acted, duplicated, dropped, swapped, jumped, returned, left_with, at_site, at_counter, calls_row, prints_text, copy_track, does_op, does_instr, step_of}
use Rattle.node_machine.specs.Flights.{AfterFlies, MoveFlies}

local_flies : (w : List Flight) (line : ℕ) (slot : Option Slot) (go : Value → Move) → ((v : Value) → MoveFlies w (go v))
    → MoveFlies w (local_value Comes line slot go)
local_flies w line None go h = tt
local_flies w line (Some (Holds (Here v))) go h = h v
local_flies w line (Some (Holds (Landing c n))) go h = tt
local_flies w line (Some (Pending n)) go h = tt

local_after_flies : (w : List Flight) (line : ℕ) (slot : Option Slot) (go : Value → After)
    → ((v : Value) → AfterFlies w (go v)) → AfterFlies w (local_value (λ after. after) line slot go)
local_after_flies w line None go h = tt
local_after_flies w line (Some (Holds (Here v))) go h = h v
local_after_flies w line (Some (Holds (Landing c n))) go h = tt
local_after_flies w line (Some (Pending n)) go h = tt

-- ---- turns, calls and returns

counted_flies : (w : List Flight) (left : ℕ) (go : ℕ → After) → ((l : ℕ) → left ≡ suc l → AfterFlies w (go l))
    → AfterFlies w (counted left go)
counted_flies w zero go h = tt
counted_flies w (suc l) go h = h l refl

deeper_flies : (w : List Flight) (line : ℕ) (s : State) (after : After) → AfterFlies w after
    → AfterFlies w (one_deeper line s after)
deeper_flies w line s after h =
    elim (nat_lt (length s.callers + 1) LIMITS.frames) as (λ b. AfterFlies w
    (if b then after else Ends (Fault Depth line))) [ true ↦ h | false ↦ tt ]

called_flies : (line : ℕ) (row : Option FnRow) (values : List Value) (s : State)
    → AfterFlies s.flying (called line row values s)
called_flies line None values s = tt
called_flies line (Some row) values s =
    counted_flies s.flying s.left _
    (λ l e. deeper_flies s.flying line s _ refl)

gain_flies : (code : Code) (site : ℕ) (track : Track) (line : ℕ) (s : State) (m : Made)
    → MoveFlies s.flying (gain_done code site track line s m)
gain_flies code site track line s (makes v) = refl
gain_flies code site track line s (faults k) = tt
gain_flies code site track line s stuck = tt
gain_flies code site track line s (uses x) =
    local_flies s.flying line (slice_get s.frame.locals x) _ (λ v. refl)
gain_flies code site track line s (sets x v) =
    local_flies s.flying line (slice_get s.frame.locals x) _ (λ v. refl)
gain_flies code site track line s (reads p) = refl
gain_flies code site track line s (writes p v) = refl
gain_flies code site track line s (calls f vs) = called_flies line (slice_get code.functions f) vs s

act_flies : (site : ℕ) (track : Track) (line : ℕ) (s : State) (d : Done)
    → MoveFlies s.flying (act_done site track line s d)
act_flies site track line s lets_go = refl
act_flies site track line s (ends k) = tt
act_flies site track line s sticks = tt
act_flies site track line s (clears x v) = local_flies s.flying line (slice_get s.frame.locals x) _ (λ v. refl)
act_flies site track line s (prints t) = refl
act_flies site track line s (fills x p) =
    local_after_flies (s.flying ++ record { counter = site; place = p } ∷ []) line (slice_get s.frame.locals x) _ (λ v. refl)
act_flies site track line s (gets x p) = local_flies s.flying line (slice_get s.frame.locals x) _ (λ v. refl)
act_flies site track line s (misses x k) = local_flies s.flying line (slice_get s.frame.locals x) _ (λ v. tt)
act_flies site track line s (puts p v) = refl
act_flies site track line s (sends p v) = refl
act_flies site track line s (copies a b n) = refl
act_flies site track line s (waits c) = refl
act_flies site track line s (meets b) = refl

gained_flies : (code : Code) (layout : Arrangement) (node : ℕ) (g : Gain) (site : ℕ) (track : Track) (line : ℕ)
    (s : State) (t : Option Taken)
    → MoveFlies s.flying (gained code layout node g site track line s t)
gained_flies code layout node g site track line s None = tt
gained_flies code layout node g site track line s (Some t) =
    gain_flies code site track line (with_stack t.rest s) (made layout node g t.values)

acted_flies : (layout : Arrangement) (a : Act) (site : ℕ) (track : Track) (line : ℕ) (s : State) (t : Option Taken)
    → MoveFlies s.flying (acted layout a site track line s t)
acted_flies layout a site track line s None = tt
acted_flies layout a site track line s (Some t) =
    act_flies site track line (with_stack t.rest s) (done layout a t.values)

-- ---- calls and returns

call_made_flies : (code : Code) (layout : Arrangement) (node f n line : ℕ) (s : State) (t : Option Taken)
    → MoveFlies s.flying (gained code layout node (call f n) 0 (tracks.Counter 0) line s t)
call_made_flies code layout node f n line s None = tt
call_made_flies code layout node f n line s (Some t) =
    called_flies line (slice_get code.functions f) t.values (with_stack t.rest s)

returned_flies : (v : Value) (s : State) (callers : List Frame) → s.callers ≡ callers
    → AfterFlies s.flying (returned v s callers)
returned_flies v s [] e = tt
returned_flies v s (c ∷ cs) e = refl

pending_flies : (w : List Flight) (line : ℕ) (slots : List Slot) (after : After) → AfterFlies w after
    → AfterFlies w (none_pending line slots after)
pending_flies w line [] after h = h
pending_flies w line (Pending n ∷ slots) after h = tt
pending_flies w line (Holds o ∷ slots) after h = pending_flies w line slots after h

left_flies : (line : ℕ) (s : State) (stack : List Operand) → MoveFlies s.flying (left_with line s stack)
left_flies line s [] = tt
left_flies line s (Landing c n ∷ stack) = tt
left_flies line s (Here v ∷ stack) =
    pending_flies s.flying line s.frame.locals (returned v s s.callers) (returned_flies v s s.callers refl)

-- ---- operands as they are

dup_flies : (s : State) (stack : List Operand) → MoveFlies s.flying (duplicated s stack)
dup_flies s [] = tt
dup_flies s (a ∷ stack) = refl

drop_flies : (s : State) (stack : List Operand) → MoveFlies s.flying (dropped s stack)
drop_flies s [] = tt
drop_flies s (a ∷ stack) = refl

swap_flies : (s : State) (stack : List Operand) → MoveFlies s.flying (swapped s stack)
swap_flies s [] = tt
swap_flies s (a ∷ []) = tt
swap_flies s (a ∷ b ∷ stack) = refl

jump_flies : (target : ℕ) (s : State) (stack : List Operand) → MoveFlies s.flying (jumped target s stack)
jump_flies target s [] = tt
jump_flies target s (Landing c n ∷ stack) = tt
jump_flies target s (Here Null ∷ stack) = tt
jump_flies target s (Here (Ptr a b c) ∷ stack) = tt
jump_flies target s (Here (Int (pos zero)) ∷ stack) = refl
jump_flies target s (Here (Int (pos (suc n))) ∷ stack) = refl
jump_flies target s (Here (Int (negsuc n)) ∷ stack) = refl

-- ---- the table

module _ (code : Code) (layout : Arrangement) (node : ℕ) where
  gain_op : (g : Gain) (site : ℕ) (track : Track) (line : ℕ) (s : State)
      → MoveFlies s.flying (gained code layout node g site track line s (taken (takes g) [] s.frame.stack))
  gain_op g site track line s =
      gained_flies code layout node g site track line s (taken (takes g) [] s.frame.stack)

  act_op : (a : Act) (site : ℕ) (track : Track) (line : ℕ) (s : State)
      → MoveFlies s.flying (acted layout a site track line s (taken (uses_up a) [] s.frame.stack))
  act_op a site track line s = acted_flies layout a site track line s (taken (uses_up a) [] s.frame.stack)

  call_op : (f line : ℕ) (row : Option FnRow) (s : State)
      → MoveFlies s.flying (calls_row code layout node f row line s)
  call_op f line None s = tt
  call_op f line (Some row) s = call_made_flies code layout node f row.params line s
      (taken row.params [] s.frame.stack)

  print_op : (format : Option (List ℕ)) (count line : ℕ) (s : State)
      → MoveFlies s.flying (prints_text code layout node format count line s)
  print_op None count line s = tt
  print_op (Some format) count line s = act_op (print format count) 0 (tracks.Counter 0) line s

  site_flies : (site : ℕ) (w : List Flight) (move : Move) → MoveFlies w move → MoveFlies w (at_site code site move)
  site_flies site w move h =
      elim (nat_lt 0 site && nat_le site code.sites) as
      (λ b. MoveFlies w (if b then move else Comes Sticks)) [ true ↦ h | false ↦ tt ]

  counter_flies : (counter : ℕ) (w : List Flight) (move : Move) → MoveFlies w move
      → MoveFlies w (at_counter code counter move)
  counter_flies counter w move h =
      elim (nat_le counter code.sites) as
      (λ b. MoveFlies w (if b then move else Comes Sticks)) [ true ↦ h | false ↦ tt ]

  op_flies : (o : Op) (line : ℕ) (s : State)
      → MoveFlies s.flying (does_op code layout node o line s)
  op_flies (op.Push n) line s = gain_op (pure (push n)) 0 (tracks.Counter 0) line s
  op_flies op.Null line s = gain_op (pure null) 0 (tracks.Counter 0) line s
  op_flies op.Mine line s = gain_op (pure mine) 0 (tracks.Counter 0) line s
  op_flies op.Procs line s = gain_op (pure procs) 0 (tracks.Counter 0) line s
  op_flies (op.Elem o c) line s = gain_op (pure (elem o c)) 0 (tracks.Counter 0) line s
  op_flies (op.Step x) line s = gain_op (pure (step x)) 0 (tracks.Counter 0) line s
  op_flies op.Glob line s = gain_op (pure glob) 0 (tracks.Counter 0) line s
  op_flies op.ToLocal line s = gain_op (pure to_local) 0 (tracks.Counter 0) line s
  op_flies op.ToProc line s = gain_op (pure to_proc) 0 (tracks.Counter 0) line s
  op_flies op.ToGlobal line s = gain_op (pure to_global) 0 (tracks.Counter 0) line s
  op_flies (op.Load x) line s = gain_op (load x) 0 (tracks.Counter 0) line s
  op_flies (op.Set x) line s = gain_op (set x) 0 (tracks.Counter 0) line s
  op_flies (op.Clear x p) line s = act_op (clear x p) 0 (tracks.Counter 0) line s
  op_flies op.Dup line s = dup_flies s s.frame.stack
  op_flies op.Drop line s = drop_flies s s.frame.stack
  op_flies op.Swap line s = swap_flies s s.frame.stack
  op_flies (op.Bin b) line s = gain_op (pure (bin b)) 0 (tracks.Counter 0) line s
  op_flies (op.Un u) line s = gain_op (pure (un u)) 0 (tracks.Counter 0) line s
  op_flies op.Same line s = gain_op (pure same) 0 (tracks.Counter 0) line s
  op_flies op.Truth line s = gain_op (pure truth) 0 (tracks.Counter 0) line s
  op_flies (op.Jump t) line s = refl
  op_flies (op.Zero t) line s = jump_flies t s s.frame.stack
  op_flies op.Turn line s = counted_flies s.flying s.left _ (λ l e. refl)
  op_flies (op.Call f) line s = call_op f line (slice_get code.functions f) s
  op_flies op.Ret line s = left_flies line s s.frame.stack
  op_flies (op.Print t c) line s = print_op (slice_get code.texts t) c line s
  op_flies (op.Read x) line s = site_flies x s.flying _ (gain_op read x (tracks.Counter x) line s)
  op_flies (op.Fill x l) line s = site_flies x s.flying _ (act_op (fill l) x (tracks.Counter x) line s)
  op_flies (op.Write x) line s = site_flies x s.flying _ (gain_op write x (tracks.Counter x) line s)
  op_flies (op.Store x) line s = site_flies x s.flying _ (gain_op write x tracks.Covered line s)
  op_flies (op.Get x l) line s = site_flies x s.flying _ (act_op (get l) x (tracks.Counter 0) line s)
  op_flies (op.Put x) line s = site_flies x s.flying _ (act_op put x (tracks.Counter 0) line s)
  op_flies (op.Send x) line s = site_flies x s.flying _ (act_op send x tracks.Store line s)
  op_flies (op.Copy x m) line s = site_flies x s.flying _ (act_op copy x (copy_track x m) line s)
  op_flies (op.Wait c) line s = counter_flies c s.flying _ (act_op (wait c) 0 (tracks.Counter 0) line s)
  op_flies op.Barrier line s = act_op (barrier false) 0 (tracks.Counter 0) line s
  op_flies op.AllSync line s = act_op (barrier true) 0 (tracks.Counter 0) line s

  instr_flies : (o : Option Instr) (s : State) → MoveFlies s.flying (does_instr code layout node o s)
  instr_flies None s = tt
  instr_flies (Some instr) s = op_flies instr.op instr.line (at_instr (s.frame.at + 1) s)

  pub step_flies : (s : State) → MoveFlies s.flying (step_of code layout node s)
  step_flies s = instr_flies (slice_get code.instrs s.frame.at) s
