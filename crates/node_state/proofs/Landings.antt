-- Values land in each frame as they land in the lists.
use Rattle.std.proofs.Common.{◌≡◌, ℕ, List, [], ◌∷◌, take, drop, reverse, map, length, refl}
use Rattle.std.proofs.lemmas.List.{drop-map, take-map}
use Rattle.sc_base.specs.declared.value.Value.{Value}
use Rattle.sc_isa.specs.declared.operand.Operand.{Operand}
use Rattle.sc_isa.specs.declared.operand.Slot.{Slot}
use Rattle.sc_isa.specs.State.{land, land_slot, land_frame}
use Rattle.node_state.specs.declared.frames.Caller.{Caller}
use Rattle.node_state.specs.Frames.{frames_below}
use Rattle.node_state.proofs.Segments.{map_reverse}

pub top_lands : (counter : ℕ) (values : List Value) (base : ℕ) (stack : List Operand)
    → reverse (drop base (map (land counter values) stack)) ≡ map (land counter values) (reverse (drop base stack))
top_lands counter values base stack =
    rw (drop-map (land counter values) base stack, map_reverse (land counter values) (drop base stack)) refl

pub below_lands : (counter : ℕ) (values : List Value) (stack : List Operand) (slots : List Slot) (callers : List Caller)
    → frames_below (map (land counter values) stack) (map (land_slot counter values) slots) callers
    ≡ map (land_frame counter values) (frames_below stack slots callers)
below_lands counter values stack slots [] = refl
below_lands counter values stack slots (caller ∷ callers) =
    rw (
      top_lands counter values caller.base stack,
      drop-map (land_slot counter values) caller.first slots,
      take-map (land counter values) caller.base stack,
      take-map (land_slot counter values) caller.first slots,
      below_lands counter values (take caller.base stack) (take caller.first slots) callers,
    )
    refl

pub length_below : (stack : List Operand) (slots : List Slot) (callers : List Caller)
    → length (frames_below stack slots callers) ≡ length callers
length_below stack slots [] = refl
length_below stack slots (caller ∷ callers) = rw (length_below (take caller.base stack) (take caller.first slots) callers) refl
