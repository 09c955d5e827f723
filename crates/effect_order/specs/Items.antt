-- The items of a history and the effects that each of them has at its one moment: none, one, or a read and a write
-- of one cell at once. `does` gives an item's effects, the newest first.
use Rattle.std.specs.Prelude.{List, [], ◌∷◌, ◌++◌, Bool, false, ◌||◌}
use Rattle.sc_base.specs.declared.value.Place.{Place}
use Rattle.sc_base.specs.declared.value.Value.{Value}
use Rattle.effect_order.specs.Effect.{Effect, held, conflicts, IsShown}
use Rattle.effect_order.specs.Lists.{is_held}

-- the effects of the items, both lists the newest first
abbrev pub effects_of : {X : Type 0} → (X → List Effect) → List X → List Effect
effects_of does [] = []
effects_of does (x ∷ past) = does x ++ effects_of does past

-- what the places hold after an item
abbrev pub after : {X : Type 0} → (X → List Effect) → (Place → Value) → X → Place → Value
after does memory x place = held memory place (does x)

-- what the places hold after the items, the oldest first
abbrev pub memory_after : {X : Type 0} → (X → List Effect) → (Place → Value) → List X → Place → Value
memory_after does memory [] = memory
memory_after does memory (x ∷ xs) = memory_after does (after does memory x) xs

-- what the places hold after the items, the newest first
abbrev pub memory_of : {X : Type 0} → (X → List Effect) → (Place → Value) → List X → Place → Value
memory_of does start [] = start
memory_of does start (x ∷ past) = after does (memory_of does start past) x

-- each item that reads, the oldest first, shows what was last written to its place before it
abbrev pub Shows : {X : Type 0} → (X → List Effect) → (Place → Value) → List X → Type 0
Shows does memory [] = Unit {0}
Shows does memory (x ∷ xs) = IsShown memory (does x) × Shows does (after does memory x) xs

-- some effect of the first list conflicts with one of the second
abbrev pub some_conflict : List Effect → List Effect → Bool
some_conflict before [] = false
some_conflict before (effect ∷ others) = is_held conflicts effect before || some_conflict before others

-- the two items have effects that conflict
abbrev pub items_conflict : {X : Type 0} → (X → List Effect) → X → X → Bool
items_conflict does a b = some_conflict (does a) (does b)
