-- Calls and returns, row by row of the table.
use Rattle.std.proofs.Common.{◌≡◌, ℕ, suc, ◌+◌, ◌-◌, ◌<◌, ◌≤◌, Some, Bool, true, false, List, [], ◌∷◌, ◌++◌, length, map, take, drop, reverse, replicate, slice_get, refl, sym, ap, ◌∙◌, lt-ltb}
use Rattle.std.specs.List.{list_all, list_any}
use Rattle.std.proofs.lemmas.Bool.{le-ltb}
use Rattle.sc_base.specs.declared.limits.TheConstants.{LIMITS}
use Rattle.sc_base.specs.declared.value.End.TheVariants.{Fault, Cut}
use Rattle.sc_base.specs.declared.value.FaultKind.TheVariants.{PendingUse, Depth}
use Rattle.sc_base.specs.declared.value.Value.{Value}
use Rattle.sc_layout.specs.Layout.{Arrangement}
use Rattle.sc_isa.specs.declared.access.Track.{Track}
use Rattle.sc_isa.specs.declared.code.Code.{Code}
use Rattle.sc_isa.specs.declared.code.FnRow.{FnRow}
use Rattle.sc_isa.specs.declared.operand.Operand.{Operand}
use Rattle.sc_isa.specs.declared.operand.Operand.TheVariants.{Here}
use Rattle.sc_isa.specs.declared.operand.Slot.{Slot}
use Rattle.sc_isa.specs.declared.operand.Slot.TheVariants.{Holds, Pending}
use Rattle.sc_isa.specs.Deeds.{call}
use Rattle.sc_isa.specs.State.{State, blank, entered_with, with_stack, with_left}
use Rattle.sc_isa.specs.Moves.{After, GoesOn, Ends, Sticks, Comes, Move, taken, none_pending, called, call_of}
use Rattle.sc_isa.specs.Table.{gained, left_with, returned}
use Rattle.node_values.specs.Operands.{is_here, value_in, is_pending}
use Rattle.node_machine.proofs.Taking.{taken_if, too_few, taken_as, held_as, count_as}

-- ---- returns

pending_is : (line : ℕ) (slots : List Slot) (after : After) → list_any is_pending slots ≡ true
    → none_pending line slots after ≡ Ends (Fault PendingUse line)
pending_is line [] after h = absurd (cc)
pending_is line (Pending number ∷ slots) after h = refl
pending_is line (Holds operand ∷ slots) after h = pending_is line slots after h

pending_not : (line : ℕ) (slots : List Slot) (after : After) → list_any is_pending slots ≡ false
    → none_pending line slots after ≡ after
pending_not line [] after h = refl
pending_not line (Pending number ∷ slots) after h = absurd (cc)
pending_not line (Holds operand ∷ slots) after h = pending_not line slots after h

module _ (line : ℕ) (s : State) (value : Value) (rest : List Operand) (slots : List Slot)
    (top : s.frame.stack ≡ Here value ∷ rest) (e : slots ≡ s.frame.locals) where
  left_is : left_with line s s.frame.stack ≡ Comes (none_pending line s.frame.locals (returned value s s.callers))
  left_is = ap (left_with line s) top

  pub left_pending : list_any is_pending slots ≡ true → left_with line s s.frame.stack ≡ Comes (Ends (Fault PendingUse line))
  left_pending h = left_is ∙ ap Comes (pending_is line s.frame.locals (returned value s s.callers) (ap (list_any is_pending) (sym e) ∙ h))

  pub left_on : list_any is_pending slots ≡ false → left_with line s s.frame.stack ≡ Comes (returned value s s.callers)
  left_on h = left_is ∙ ap Comes (pending_not line s.frame.locals (returned value s s.callers) (ap (list_any is_pending) (sym e) ∙ h))

-- ---- calls

module _ (code : Code) (layout : Arrangement) (own function : ℕ) (row : FnRow) (site : ℕ) (track : Track) (line : ℕ)
    (s : State) (is : slice_get code.functions function ≡ Some row) where
  abbrev move : Move
  move = gained code layout own (call function row.params) site track line s (taken row.params [] s.frame.stack)

  pub call_few : length s.frame.stack < row.params → move ≡ Comes Sticks
  call_few h = ap (gained code layout own (call function row.params) site track line s) (too_few row.params [] s.frame.stack h)

  module _ (operands : List Operand) (enough : row.params ≤ length s.frame.stack)
      (e : operands ≡ reverse (take row.params s.frame.stack)) where
    abbrev below : State
    below = with_stack (drop row.params s.frame.stack) s

    taken_is : (b : Bool) → list_all is_here operands ≡ b → move
        ≡ gained code layout own (call function row.params) site track line s
        (taken_if b (map value_in operands) (drop row.params s.frame.stack))
    taken_is b h =
        ap (gained code layout own (call function row.params) site track line s)
        (taken_as row.params s.frame.stack operands enough e
        ∙ ap (λ c. taken_if c (map value_in operands) (drop row.params s.frame.stack)) h)

    pub call_landing : list_all is_here operands ≡ false → move ≡ Comes Sticks
    call_landing h = taken_is false h

    called_is : list_all is_here operands ≡ true → move ≡ Comes (called line (Some row) (map value_in operands) below)
    called_is h = taken_is true h ∙ ap (λ o. Comes (called line o (map value_in operands) below)) is

    pub call_cut : list_all is_here operands ≡ true → s.left ≡ 0 → move ≡ Comes (Ends Cut)
    call_cut h z = called_is h ∙ rw z refl

    pub call_deep : list_all is_here operands ≡ true → (left : ℕ) → s.left ≡ suc left → LIMITS.frames ≤ length s.callers + 1
        → move ≡ Comes (Ends (Fault Depth line))
    call_deep h left z deep = called_is h ∙ rw (z, le-ltb (length s.callers + 1) LIMITS.frames deep) refl

    pub call_goes : list_all is_here operands ≡ true → (left : ℕ) → s.left ≡ suc left → length s.callers + 1 < LIMITS.frames
        → move ≡ Comes (GoesOn (call_of row (map value_in operands) (with_left left below)))
    call_goes h left z few = called_is h ∙ rw (z, lt-ltb (length s.callers + 1) LIMITS.frames few) refl

    -- the locals of the function that is entered
    pub locals_are : list_all is_here operands ≡ true
        → entered_with (map value_in operands) row.locals
        ≡ map Holds (reverse (take row.params s.frame.stack)) ++ replicate (row.locals - row.params) blank
    locals_are h =
        ap (λ xs. xs ++ replicate (row.locals - length (map value_in operands)) blank) (held_as operands h ∙ ap (map Holds) e)
        ∙ ap (λ n. map Holds (reverse (take row.params s.frame.stack)) ++ replicate (row.locals - n) blank)
        (count_as row.params s.frame.stack operands enough e)
