-- Where an instruction leads, and which reads are in flight behind it.
use Rattle.std.proofs.Common.{◌≡◌, ℕ, zero, suc, ◌+◌, Option, Some, None, true, false, if◌then◌else◌, nat_lt, nat_le, ◌&&◌, List, [], ◌∷◌, ◌++◌, length, slice_get, pos, negsuc, refl, sym, subst}
use Rattle.sc_base.specs.declared.limits.TheConstants.{LIMITS}
use Rattle.sc_base.specs.declared.value.End.TheVariants.{Fault}
use Rattle.sc_base.specs.declared.value.FaultKind.TheVariants.{Depth}
use Rattle.sc_base.specs.declared.value.Value.{Value}
use Rattle.sc_base.specs.declared.value.Value.TheVariants.{Int, Null, Ptr}
use Rattle.sc_layout.specs.Layout.{Arrangement}
use Rattle.sc_isa.specs.declared.access.Access.{Access}
use Rattle.sc_isa.specs.declared.access.Access.TheVariants as access
use Rattle.sc_isa.specs.declared.access.Track.{Track}
use Rattle.sc_isa.specs.declared.access.Track.TheVariants as tracks
use Rattle.sc_isa.specs.declared.code.Code.{Code}
use Rattle.sc_isa.specs.declared.code.FnRow.{FnRow}
use Rattle.sc_isa.specs.declared.op.Instr.{Instr}
use Rattle.sc_isa.specs.declared.op.Op.{Op}
use Rattle.sc_isa.specs.declared.op.Op.TheVariants as op
use Rattle.sc_isa.specs.declared.operand.Operand.{Operand}
use Rattle.sc_isa.specs.declared.operand.Operand.TheVariants.{Here, Landing}
use Rattle.sc_isa.specs.declared.operand.Slot.{Slot}
use Rattle.sc_isa.specs.declared.operand.Slot.TheVariants.{Holds, Pending}
use Rattle.sc_isa.specs.Elements.{Outcome, gives as yields, fails, wrong}
use Rattle.sc_isa.specs.Pure.{push, null, mine, procs, elem, step, glob, to_local, to_proc, to_global, bin, un, same, truth, computed}
use Rattle.sc_isa.specs.Deeds.{Gain, pure, load, set, read, write, call, Act, clear, print, fill, get, put, send, copy, wait, barrier, takes, uses_up, made, done, made_by, reading, writing, Spotted, found, missing, nowhere, spotted}
use Rattle.sc_isa.specs.Deeds.{Made, makes, faults, stuck, uses, sets, reads, writes, calls, Done, lets_go, ends, sticks, clears, prints, fills, gets, misses, puts, sends, copies, waits, meets}
use Rattle.sc_isa.specs.State.{Frame, Flight, State, with_stack, at_instr}
use Rattle.sc_isa.specs.Moves.{After, GoesOn, Ends, Sticks, Move, Comes, Issues, Waits, Meets, Says, Taken, taken, local_value, none_pending, counted, one_deeper, called, gain_done, act_done}
use Rattle.sc_isa.specs.Table.{gained, acted, duplicated, dropped, swapped, jumped, returned, left_with, at_site, at_counter, calls_row, prints_text, copy_track, does_op, does_instr}
use Rattle.sc_isa.specs.Sound.{Leads, IsAfter}

-- the reads in flight behind an access
abbrev pub flown_by : Access → List Flight → List Flight
flown_by (access.Read place (tracks.Counter counter)) flying = flying ++ record { counter = counter; place = place }
    ∷ []
flown_by _ flying = flying

-- an instruction whose next one in the text is `next` leads to what has P
abbrev pub LeadsTo : (P : ℕ → Type 0) → (next : ℕ) → Op → Type 0
LeadsTo P next (op.Jump target) = P target
LeadsTo P next (op.Zero target) = P target × P next
LeadsTo P next op.Turn = (x : ℕ) → P x
LeadsTo P next (op.Call function) = (x : ℕ) → P x
LeadsTo P next op.Ret = (x : ℕ) → P x
LeadsTo P next _ = P next

module _ (P : ℕ → Type 0) where
  -- the state stands at what has P, and these reads are in flight
  abbrev pub StateIs : List Flight → State → Type 0
  StateIs flying s = P s.frame.at × (s.flying ≡ flying)

  abbrev pub AfterIs : List Flight → After → Type 0
  AfterIs flying (GoesOn s) = StateIs flying s
  AfterIs flying _ = Unit {0}

  abbrev pub MoveIs : List Flight → Move → Type 0
  MoveIs flying (Comes after) = AfterIs flying after
  MoveIs flying (Issues access after) = AfterIs (flown_by access flying) after
  MoveIs flying (Waits counter s) = StateIs flying s
  MoveIs flying (Meets stores s) = StateIs flying s
  MoveIs flying (Says text s) = StateIs flying s

  -- ---- deeds

  -- a call leads to the first instruction of any function
  abbrev CallsTo : Made → Type 0
  CallsTo (calls function values) = (x : ℕ) → P x
  CallsTo _ = Unit {0}

  abbrev GainsTo : Gain → Type 0
  GainsTo (call function count) = (x : ℕ) → P x
  GainsTo _ = Unit {0}

  made_by_is : (o : Outcome) → CallsTo (made_by o)
  made_by_is (yields v) = tt
  made_by_is (fails kind) = tt
  made_by_is wrong = tt

  reading_is : (place : Spotted) → CallsTo (reading place)
  reading_is (found place) = tt
  reading_is (missing kind) = tt
  reading_is nowhere = tt

  writing_is : (place : Spotted) (v : Value) → CallsTo (writing place v)
  writing_is (found place) v = tt
  writing_is (missing kind) v = tt
  writing_is nowhere v = tt

  made_is : (layout : Arrangement) (node : ℕ) (g : Gain) (values : List Value) → GainsTo g
      → CallsTo (made layout node g values)
  made_is layout node (pure p) values h = made_by_is (computed layout node p values)
  made_is layout node (load x) [] h = tt
  made_is layout node (load x) (a ∷ vs) h = tt
  made_is layout node (set x) [] h = tt
  made_is layout node (set x) (a ∷ []) h = tt
  made_is layout node (set x) (a ∷ b ∷ vs) h = tt
  made_is layout node read [] h = tt
  made_is layout node read (a ∷ []) h = reading_is (spotted layout a)
  made_is layout node read (a ∷ b ∷ vs) h = tt
  made_is layout node write [] h = tt
  made_is layout node write (a ∷ []) h = tt
  made_is layout node write (a ∷ b ∷ []) h = writing_is (spotted layout a) b
  made_is layout node write (a ∷ b ∷ c ∷ vs) h = tt
  made_is layout node (call f n) values h = h

  local_is : (flying : List Flight) (line : ℕ) (slot : Option Slot) (go : Value → Move)
      → ((v : Value) → MoveIs flying (go v))
      → MoveIs flying (local_value Comes line slot go)
  local_is flying line None go h = tt
  local_is flying line (Some (Holds (Here v))) go h = h v
  local_is flying line (Some (Holds (Landing c n))) go h = tt
  local_is flying line (Some (Pending n)) go h = tt

  local_after_is : (flying : List Flight) (line : ℕ) (slot : Option Slot) (go : Value → After)
      → ((v : Value) → AfterIs flying (go v))
      → AfterIs flying (local_value (λ after. after) line slot go)
  local_after_is flying line None go h = tt
  local_after_is flying line (Some (Holds (Here v))) go h = h v
  local_after_is flying line (Some (Holds (Landing c n))) go h = tt
  local_after_is flying line (Some (Pending n)) go h = tt

  -- ---- calls and returns

  counted_is : (flying : List Flight) (left : ℕ) (go : ℕ → After) → ((l : ℕ) → AfterIs flying (go l))
      → AfterIs flying (counted left go)
  counted_is flying zero go h = tt
  counted_is flying (suc l) go h = h l

  deeper_is : (flying : List Flight) (line : ℕ) (s : State) (after : After) → AfterIs flying after
      → AfterIs flying (one_deeper line s after)
  deeper_is flying line s after h =
      elim (nat_lt (length s.callers + 1) LIMITS.frames) as
      (λ b. AfterIs flying (if b then after else Ends (Fault Depth line)))
      [ true ↦ h | false ↦ tt ]

  called_is : (line : ℕ) (row : Option FnRow) (values : List Value) (s : State) → ((x : ℕ) → P x)
      → AfterIs s.flying (called line row values s)
  called_is line None values s h = tt
  called_is line (Some row) values s h =
      counted_is s.flying s.left _ (λ l. deeper_is s.flying line s _ (h row.start, refl))

  returned_is : (v : Value) (s : State) (callers : List Frame) → ((x : ℕ) → P x)
      → AfterIs s.flying (returned v s callers)
  returned_is v s [] h = tt
  returned_is v s (c ∷ cs) h = (h c.at, refl)

  pending_is : (flying : List Flight) (line : ℕ) (slots : List Slot) (after : After) → AfterIs flying after
      → AfterIs flying (none_pending line slots after)
  pending_is flying line [] after h = h
  pending_is flying line (Pending n ∷ slots) after h = tt
  pending_is flying line (Holds o ∷ slots) after h = pending_is flying line slots after h

  left_is : (line : ℕ) (s : State) (stack : List Operand) → ((x : ℕ) → P x) → MoveIs s.flying (left_with line s stack)
  left_is line s [] h = tt
  left_is line s (Landing c n ∷ stack) h = tt
  left_is line s (Here v ∷ stack) h = pending_is s.flying line s.frame.locals _ (returned_is v s s.callers h)

  -- ---- steps

  gain_is : (code : Code) (site : ℕ) (track : Track) (line : ℕ) (s : State) (m : Made) → CallsTo m → P s.frame.at
      → MoveIs s.flying (gain_done code site track line s m)
  gain_is code site track line s (makes v) c h = (h, refl)
  gain_is code site track line s (faults kind) c h = tt
  gain_is code site track line s stuck c h = tt
  gain_is code site track line s (uses x) c h = local_is s.flying line (slice_get s.frame.locals x) _ (λ v. (h, refl))
  gain_is code site track line s (sets x v) c h = local_is s.flying line (slice_get s.frame.locals x) _
      (λ old. (h, refl))
  gain_is code site track line s (reads p) c h = (h, refl)
  gain_is code site track line s (writes p v) c h = (h, refl)
  gain_is code site track line s (calls f vs) c h = called_is line (slice_get code.functions f) vs s c

  act_is : (site : ℕ) (track : Track) (line : ℕ) (s : State) (d : Done) → P s.frame.at
      → MoveIs s.flying (act_done site track line s d)
  act_is site track line s lets_go h = (h, refl)
  act_is site track line s (ends kind) h = tt
  act_is site track line s sticks h = tt
  act_is site track line s (clears x v) h = local_is s.flying line (slice_get s.frame.locals x) _ (λ old. (h, refl))
  act_is site track line s (prints text) h = (h, refl)
  act_is site track line s (fills x p) h = local_after_is _ line (slice_get s.frame.locals x) _ (λ old. (h, refl))
  act_is site track line s (gets x p) h = local_is s.flying line (slice_get s.frame.locals x) _ (λ old. (h, refl))
  act_is site track line s (misses x kind) h = local_is s.flying line (slice_get s.frame.locals x) _ (λ old. tt)
  act_is site track line s (puts p v) h = (h, refl)
  act_is site track line s (sends p v) h = (h, refl)
  act_is site track line s (copies from to cells) h = (h, refl)
  act_is site track line s (waits counter) h = (h, refl)
  act_is site track line s (meets stores) h = (h, refl)

  gained_is : (code : Code) (layout : Arrangement) (node : ℕ) (g : Gain) (site : ℕ) (track : Track) (line : ℕ)
      (s : State) (t : Option Taken)
      → GainsTo g → P s.frame.at → MoveIs s.flying (gained code layout node g site track line s t)
  gained_is code layout node g site track line s None c h = tt
  gained_is code layout node g site track line s (Some t) c h =
      gain_is code site track line (with_stack t.rest s) (made layout node g t.values)
      (made_is layout node g t.values c) h

  call_is : (code : Code) (layout : Arrangement) (node f n line : ℕ) (s : State) (t : Option Taken) → ((x : ℕ) → P x)
      → MoveIs s.flying (gained code layout node (call f n) 0 (tracks.Counter 0) line s t)
  call_is code layout node f n line s None h = tt
  call_is code layout node f n line s (Some t) h = called_is line (slice_get code.functions f) t.values
      (with_stack t.rest s) h

  acted_is : (layout : Arrangement) (a : Act) (site : ℕ) (track : Track) (line : ℕ) (s : State) (t : Option Taken)
      → P s.frame.at
      → MoveIs s.flying (acted layout a site track line s t)
  acted_is layout a site track line s None h = tt
  acted_is layout a site track line s (Some t) h = act_is site track line (with_stack t.rest s)
      (done layout a t.values) h

  dup_is : (s : State) (stack : List Operand) → P s.frame.at → MoveIs s.flying (duplicated s stack)
  dup_is s [] h = tt
  dup_is s (a ∷ stack) h = (h, refl)

  drop_is : (s : State) (stack : List Operand) → P s.frame.at → MoveIs s.flying (dropped s stack)
  drop_is s [] h = tt
  drop_is s (a ∷ stack) h = (h, refl)

  swap_is : (s : State) (stack : List Operand) → P s.frame.at → MoveIs s.flying (swapped s stack)
  swap_is s [] h = tt
  swap_is s (a ∷ []) h = tt
  swap_is s (a ∷ b ∷ stack) h = (h, refl)

  jump_is : (target : ℕ) (s : State) (stack : List Operand) → P target → P s.frame.at
      → MoveIs s.flying (jumped target s stack)
  jump_is target s [] t h = tt
  jump_is target s (Landing c n ∷ stack) t h = tt
  jump_is target s (Here Null ∷ stack) t h = tt
  jump_is target s (Here (Ptr a b c) ∷ stack) t h = tt
  jump_is target s (Here (Int (pos zero)) ∷ stack) t h = (t, refl)
  jump_is target s (Here (Int (pos (suc n))) ∷ stack) t h = (h, refl)
  jump_is target s (Here (Int (negsuc n)) ∷ stack) t h = (h, refl)

  -- ---- the table

  module _ (code : Code) (layout : Arrangement) (node : ℕ) where
    gives_is : (g : Gain) (site : ℕ) (track : Track) (line : ℕ) (s : State) → GainsTo g → P s.frame.at
        → MoveIs s.flying (gained code layout node g site track line s (taken (takes g) [] s.frame.stack))
    gives_is g site track line s c h = gained_is code layout node g site track line s
        (taken (takes g) [] s.frame.stack) c h

    acts_is : (a : Act) (site : ℕ) (track : Track) (line : ℕ) (s : State) → P s.frame.at
        → MoveIs s.flying (acted layout a site track line s (taken (uses_up a) [] s.frame.stack))
    acts_is a site track line s h = acted_is layout a site track line s (taken (uses_up a) [] s.frame.stack) h

    row_is : (f line : ℕ) (row : Option FnRow) (s : State) → ((x : ℕ) → P x)
        → MoveIs s.flying (calls_row code layout node f row line s)
    row_is f line None s h = tt
    row_is f line (Some row) s h = call_is code layout node f row.params line s (taken row.params [] s.frame.stack) h

    print_is : (format : Option (List ℕ)) (count line : ℕ) (s : State) → P s.frame.at
        → MoveIs s.flying (prints_text code layout node format count line s)
    print_is None count line s h = tt
    print_is (Some format) count line s h = acts_is (print format count) 0 (tracks.Counter 0) line s h

    site_is : (site : ℕ) (flying : List Flight) (move : Move) → MoveIs flying move
        → MoveIs flying (at_site code site move)
    site_is site flying move h =
        elim (nat_lt 0 site && nat_le site code.sites) as (λ b. MoveIs flying (if b then move else Comes Sticks))
        [ true ↦ h | false ↦ tt ]

    counter_is : (counter : ℕ) (flying : List Flight) (move : Move) → MoveIs flying move
        → MoveIs flying (at_counter code counter move)
    counter_is counter flying move h =
        elim (nat_le counter code.sites) as (λ b. MoveIs flying (if b then move else Comes Sticks))
        [ true ↦ h | false ↦ tt ]

    pub op_is : (o : Op) (line : ℕ) (s : State) → LeadsTo P s.frame.at o
        → MoveIs s.flying (does_op code layout node o line s)
    op_is (op.Push n) line s h = gives_is (pure (push n)) 0 (tracks.Counter 0) line s tt h
    op_is op.Null line s h = gives_is (pure null) 0 (tracks.Counter 0) line s tt h
    op_is op.Mine line s h = gives_is (pure mine) 0 (tracks.Counter 0) line s tt h
    op_is op.Procs line s h = gives_is (pure procs) 0 (tracks.Counter 0) line s tt h
    op_is (op.Elem o c) line s h = gives_is (pure (elem o c)) 0 (tracks.Counter 0) line s tt h
    op_is (op.Step x) line s h = gives_is (pure (step x)) 0 (tracks.Counter 0) line s tt h
    op_is op.Glob line s h = gives_is (pure glob) 0 (tracks.Counter 0) line s tt h
    op_is op.ToLocal line s h = gives_is (pure to_local) 0 (tracks.Counter 0) line s tt h
    op_is op.ToProc line s h = gives_is (pure to_proc) 0 (tracks.Counter 0) line s tt h
    op_is op.ToGlobal line s h = gives_is (pure to_global) 0 (tracks.Counter 0) line s tt h
    op_is (op.Load x) line s h = gives_is (load x) 0 (tracks.Counter 0) line s tt h
    op_is (op.Set x) line s h = gives_is (set x) 0 (tracks.Counter 0) line s tt h
    op_is (op.Clear x p) line s h = acts_is (clear x p) 0 (tracks.Counter 0) line s h
    op_is op.Dup line s h = dup_is s s.frame.stack h
    op_is op.Drop line s h = drop_is s s.frame.stack h
    op_is op.Swap line s h = swap_is s s.frame.stack h
    op_is (op.Bin b) line s h = gives_is (pure (bin b)) 0 (tracks.Counter 0) line s tt h
    op_is (op.Un u) line s h = gives_is (pure (un u)) 0 (tracks.Counter 0) line s tt h
    op_is op.Same line s h = gives_is (pure same) 0 (tracks.Counter 0) line s tt h
    op_is op.Truth line s h = gives_is (pure truth) 0 (tracks.Counter 0) line s tt h
    op_is (op.Jump t) line s h = (h, refl)
    op_is (op.Zero t) line s h = jump_is t s s.frame.stack h.0 h.1
    op_is op.Turn line s h = counted_is s.flying s.left _ (λ l. (h s.frame.at, refl))
    op_is (op.Call f) line s h = row_is f line (slice_get code.functions f) s h
    op_is op.Ret line s h = left_is line s s.frame.stack h
    op_is (op.Print t c) line s h = print_is (slice_get code.texts t) c line s h
    op_is (op.Read x) line s h = site_is x s.flying _ (gives_is read x (tracks.Counter x) line s tt h)
    op_is (op.Fill x l) line s h = site_is x s.flying _ (acts_is (fill l) x (tracks.Counter x) line s h)
    op_is (op.Write x) line s h = site_is x s.flying _ (gives_is write x (tracks.Counter x) line s tt h)
    op_is (op.Store x) line s h = site_is x s.flying _ (gives_is write x tracks.Covered line s tt h)
    op_is (op.Get x l) line s h = site_is x s.flying _ (acts_is (get l) x (tracks.Counter 0) line s h)
    op_is (op.Put x) line s h = site_is x s.flying _ (acts_is put x (tracks.Counter 0) line s h)
    op_is (op.Send x) line s h = site_is x s.flying _ (acts_is send x tracks.Store line s h)
    op_is (op.Copy x m) line s h = site_is x s.flying _ (acts_is copy x (copy_track x m) line s h)
    op_is (op.Wait c) line s h = counter_is c s.flying _ (acts_is (wait c) 0 (tracks.Counter 0) line s h)
    op_is op.Barrier line s h = acts_is (barrier false) 0 (tracks.Counter 0) line s h
    op_is op.AllSync line s h = acts_is (barrier true) 0 (tracks.Counter 0) line s h

    -- the instruction that stands there, if there is one
    pub instr_is : (o : Option Instr) (s : State) → ((i : Instr) → o ≡ Some i → LeadsTo P (s.frame.at + 1) i.op)
        → MoveIs s.flying (does_instr code layout node o s)
    instr_is None s h = tt
    instr_is (Some i) s h = op_is i.op i.line (at_instr (s.frame.at + 1) s) (h i refl)

  -- ---- the states that follow

  after_leads : (flying : List Flight) (after : After) (next : State) → AfterIs flying after → IsAfter after next
      → P next.frame.at
  after_leads flying (GoesOn s) next h e = subst (λ (t : State). P t.frame.at) (sym e) h.0
  after_leads flying (Ends end) next h e = absurd e
  after_leads flying Sticks next h e = absurd e

  pub leads_to : (flying : List Flight) (layout : Arrangement) (move : Move) (next : State) → MoveIs flying move
      → Leads layout move next
      → P next.frame.at
  leads_to flying layout (Comes after) next h e = after_leads flying after next h e
  leads_to flying layout (Issues access after) next h e = after_leads (flown_by access flying) after next h e
  leads_to flying layout (Waits counter s) next h e = subst (λ (t : State). P t.frame.at) (sym e.next_is) h.0
  leads_to flying layout (Meets stores s) next h e = subst (λ (t : State). P t.frame.at) (sym e) h.0
  leads_to flying layout (Says text s) next h e = subst (λ (t : State). P t.frame.at) (sym e) h.0
