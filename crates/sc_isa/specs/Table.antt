-- The instruction table: what each instruction of the code does to a node's state, as one function to what comes
-- next.
use Rattle.std.specs.Prelude.{ℕ, zero, ◌+◌, pos, nat_lt, nat_le, ◌&&◌, if◌then◌else◌, Option, Some, None, true, false, List, [], ◌∷◌, slice_get}
use Rattle.sc_base.specs.declared.value.CopyMode.{CopyMode}
use Rattle.sc_base.specs.declared.value.CopyMode.TheVariants.{Blocking, Split, OneWay}
use Rattle.sc_base.specs.declared.value.End.TheVariants.{Ended}
use Rattle.sc_base.specs.declared.value.Value.{Value}
use Rattle.sc_base.specs.declared.value.Value.TheVariants.{Int}
use Rattle.sc_layout.specs.Layout.{Arrangement}
use Rattle.sc_isa.specs.declared.access.Track.{Track}
use Rattle.sc_isa.specs.declared.access.Track.TheVariants as tracks
use Rattle.sc_isa.specs.declared.code.Code.{Code}
use Rattle.sc_isa.specs.declared.code.FnRow.{FnRow}
use Rattle.sc_isa.specs.declared.op.Instr.{Instr}
use Rattle.sc_isa.specs.declared.op.Op.{Op}
use Rattle.sc_isa.specs.declared.op.Op.TheVariants as op
use Rattle.sc_isa.specs.declared.operand.Operand.{Operand}
use Rattle.sc_isa.specs.declared.operand.Operand.TheVariants.{Here}
use Rattle.sc_isa.specs.Pure.{push, null, mine, procs, elem, step, glob, to_local, to_proc, to_global, bin, un, same, truth}
use Rattle.sc_isa.specs.Deeds.{Gain, pure, load, set, read, write, call, Act, clear, print, fill, get, put, send, copy, wait, barrier, takes, uses_up, made, done}
use Rattle.sc_isa.specs.State.{Frame, State, with_stack, pushed, at_instr, with_left}
use Rattle.sc_isa.specs.Moves.{After, GoesOn, Ends, Sticks, Move, Comes, Taken, taken, none_pending, counted, gain_done, act_done}

-- ---- the steps that take values

abbrev pub gained : Code → Arrangement → (node : ℕ) → Gain → (site : ℕ) → Track → (line : ℕ)
    → State → Option Taken
    → Move
gained code layout node g site track line s None = Comes Sticks
gained code layout node g site track line s (Some t) =
    gain_done code site track line (with_stack t.rest s) (made layout node g t.values)

abbrev pub acted : Arrangement → Act → (site : ℕ) → Track → (line : ℕ) → State → Option Taken → Move
acted layout a site track line s None = Comes Sticks
acted layout a site track line s (Some t) = act_done site track line (with_stack t.rest s) (done layout a t.values)

-- ---- the others, in the state that goes on at the next instruction

-- operands are copied, dropped and swapped as they are, also while they land
abbrev pub duplicated : State → List Operand → Move
duplicated s (top ∷ stack) = Comes (GoesOn (with_stack (top ∷ top ∷ stack) s))
duplicated s [] = Comes Sticks

abbrev pub dropped : State → List Operand → Move
dropped s (top ∷ stack) = Comes (GoesOn (with_stack stack s))
dropped s [] = Comes Sticks

abbrev pub swapped : State → List Operand → Move
swapped s (top ∷ next ∷ stack) = Comes (GoesOn (with_stack (next ∷ top ∷ stack) s))
swapped s _ = Comes Sticks

abbrev pub jumped : (target : ℕ) → State → List Operand → Move
jumped target s (Here (Int (pos zero)) ∷ stack) = Comes (GoesOn (at_instr target (with_stack stack s)))
jumped target s (Here (Int n) ∷ stack) = Comes (GoesOn (with_stack stack s))
jumped target s _ = Comes Sticks

-- the caller goes on with the result; the function that was entered first ends the node
abbrev pub returned : Value → State → List Frame → After
returned value s [] = Ends Ended
returned value s (caller ∷ callers) =
    GoesOn (pushed (Here value) (record { frame = caller; callers = callers; left = s.left; flying = s.flying }))

abbrev pub left_with : (line : ℕ) → State → List Operand → Move
left_with line s (Here value ∷ stack) = Comes (none_pending line s.frame.locals (returned value s s.callers))
left_with line s _ = Comes Sticks

-- ---- the table

-- how a copy is waited for
abbrev pub copy_track : (site : ℕ) → CopyMode → Track
copy_track site Blocking = tracks.Counter site
copy_track site Split = tracks.Counter 0
copy_track site OneWay = tracks.Store

-- the code has the site; sites are numbered from 1
abbrev pub at_site : Code → (site : ℕ) → Move → Move
at_site code site move = if nat_lt 0 site && nat_le site code.sites then move else Comes Sticks

-- the code has the counter: 0, or that of a site
abbrev pub at_counter : Code → (counter : ℕ) → Move → Move
at_counter code counter move = if nat_le counter code.sites then move else Comes Sticks

module _ (code : Code) (layout : Arrangement) (node : ℕ) where
  abbrev pub gains : Gain → (site : ℕ) → Track → (line : ℕ) → State → Move
  gains g site track line s = gained code layout node g site track line s (taken (takes g) [] s.frame.stack)

  abbrev pub acts : Act → (site : ℕ) → Track → (line : ℕ) → State → Move
  acts a site track line s = acted layout a site track line s (taken (uses_up a) [] s.frame.stack)

  -- a step that is no access
  abbrev pub gives : Gain → (line : ℕ) → State → Move
  gives g line s = gains g 0 (tracks.Counter 0) line s

  abbrev pub does : Act → (line : ℕ) → State → Move
  does a line s = acts a 0 (tracks.Counter 0) line s

  abbrev pub calls_row : (function : ℕ) → Option FnRow → (line : ℕ) → State → Move
  calls_row function None line s = Comes Sticks
  calls_row function (Some row) line s = gives (call function row.params) line s

  abbrev pub prints_text : Option (List ℕ) → (count line : ℕ) → State → Move
  prints_text None count line s = Comes Sticks
  prints_text (Some format) count line s = does (print format count) line s

  abbrev pub does_op : Op → (line : ℕ) → State → Move
  does_op (op.Push n) line s = gives (pure (push n)) line s
  does_op op.Null line s = gives (pure null) line s
  does_op op.Mine line s = gives (pure mine) line s
  does_op op.Procs line s = gives (pure procs) line s
  does_op (op.Elem object count) line s = gives (pure (elem object count)) line s
  does_op (op.Step star) line s = gives (pure (step star)) line s
  does_op op.Glob line s = gives (pure glob) line s
  does_op op.ToLocal line s = gives (pure to_local) line s
  does_op op.ToProc line s = gives (pure to_proc) line s
  does_op op.ToGlobal line s = gives (pure to_global) line s
  does_op (op.Load local) line s = gives (load local) line s
  does_op (op.Set local) line s = gives (set local) line s
  does_op (op.Clear local pointer) line s = does (clear local pointer) line s
  does_op op.Dup line s = duplicated s s.frame.stack
  does_op op.Drop line s = dropped s s.frame.stack
  does_op op.Swap line s = swapped s s.frame.stack
  does_op (op.Bin operator) line s = gives (pure (bin operator)) line s
  does_op (op.Un operator) line s = gives (pure (un operator)) line s
  does_op op.Same line s = gives (pure same) line s
  does_op op.Truth line s = gives (pure truth) line s
  does_op (op.Jump target) line s = Comes (GoesOn (at_instr target s))
  does_op (op.Zero target) line s = jumped target s s.frame.stack
  does_op op.Turn line s = Comes (counted s.left (λ left. GoesOn (with_left left s)))
  does_op (op.Call function) line s = calls_row function (slice_get code.functions function) line s
  does_op op.Ret line s = left_with line s s.frame.stack
  does_op (op.Print text count) line s = prints_text (slice_get code.texts text) count line s
  does_op (op.Read site) line s = at_site code site (gains read site (tracks.Counter site) line s)
  does_op (op.Fill site local) line s = at_site code site (acts (fill local) site (tracks.Counter site) line s)
  does_op (op.Write site) line s = at_site code site (gains write site (tracks.Counter site) line s)
  does_op (op.Store site) line s = at_site code site (gains write site tracks.Covered line s)
  does_op (op.Get site local) line s = at_site code site (acts (get local) site (tracks.Counter 0) line s)
  does_op (op.Put site) line s = at_site code site (acts put site (tracks.Counter 0) line s)
  does_op (op.Send site) line s = at_site code site (acts send site tracks.Store line s)
  does_op (op.Copy site mode) line s = at_site code site (acts copy site (copy_track site mode) line s)
  does_op (op.Wait counter) line s = at_counter code counter (does (wait counter) line s)
  does_op op.Barrier line s = does (barrier false) line s
  does_op op.AllSync line s = does (barrier true) line s

  -- an instruction leads to the next one, where it says nothing else
  abbrev pub does_instr : Option Instr → State → Move
  does_instr None s = Comes Sticks
  does_instr (Some instr) s = does_op instr.op instr.line (at_instr (s.frame.at + 1) s)

  abbrev pub step_of : State → Move
  step_of s = does_instr (slice_get code.instrs s.frame.at) s
