-- The frames of a node, which lie one on top of the other in one list of operands and in one of locals.
use Rattle.std.specs.Prelude.{ℕ, ◌≤◌, List, [], ◌∷◌, length, reverse, take, drop}
use Rattle.sc_isa.specs.declared.operand.Operand.{Operand}
use Rattle.sc_isa.specs.declared.operand.Slot.{Slot}
use Rattle.sc_isa.specs.State.{Frame}
use Rattle.node_state.specs.declared.frames.Caller.{Caller}

-- the operands of the frame that runs, the top first, and its locals; the frames that called, the newest first; and
-- for how many operands, locals and frames there is room
pub record Frames : Type 0 where
  pub stack : List Operand
  pub locals : List Slot
  pub callers : List Frame
  pub spare : ℕ
  pub spare_locals : ℕ
  pub spare_callers : ℕ

-- the frames that called, of the operands and locals that lie below the frame that runs
abbrev pub frames_below : List Operand → List Slot → List Caller → List Frame
frames_below stack slots [] = []
frames_below stack slots (caller ∷ callers) =
    record { at = caller.at; stack = reverse (drop caller.base stack); locals = drop caller.first slots }
    ∷ frames_below (take caller.base stack) (take caller.first slots) callers

-- each caller's operands and locals begin before those of the frame above
abbrev pub AreNested : (base first : ℕ) → List Caller → Type 0
AreNested base first [] = Unit {0}
AreNested base first (caller ∷ callers) =
    (caller.base ≤ base) × (caller.first ≤ first) × AreNested caller.base caller.first callers

pub record IsWithin (base first : ℕ) (stack : List Operand) (slots : List Slot) (callers : List Caller) : Type 0 where
  pub base_within : base ≤ length stack
  pub first_within : first ≤ length slots
  pub nested : AreNested base first callers
