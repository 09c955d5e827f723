-- The locals and gets of the code as those of the meaning.
use Rattle.std.specs.Prelude.{ℕ, Option, Some, None, List, [], ◌∷◌, length, slice_set, ◌==◌, if◌then◌else◌}
use Rattle.sc_base.specs.declared.value.Value.{Value}
use Rattle.sc_meaning.specs.Memory.{Slot, has, awaits}
use Rattle.sc_meaning.specs.Memory as meant
use Rattle.core_state.specs.declared.memory.Spot.{Spot}

abbrev pub slot_in : Option Value → Slot
slot_in (Some v) = has v
slot_in None = awaits

abbrev pub spot_of : Spot → meant.Spot
spot_of s = record { level = s.level; local = s.local; place = s.place }

-- the local of the frame with so many below it becomes this
abbrev pub put_at : (level local : ℕ) → Slot → List (List Slot) → List (List Slot)
put_at level x s [] = []
put_at level x s (frame ∷ frames) =
    if level == length frames then slice_set frame x s ∷ frames else frame ∷ put_at level x s frames
