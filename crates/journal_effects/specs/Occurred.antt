-- What code keeps of the effects so far. No public clause cites this module.
use Rattle.std.specs.Prelude.{◌≡◌, ℕ, List, [], ◌∷◌, map, reverse, Option, Some, None, Bool, ◌==◌, ◌&&◌, if◌then◌else◌}
use Rattle.std.specs.Bool.{beq}
use Rattle.std.specs.HashMap.{HashMap, get}
use Rattle.sc_base.specs.declared.value.Place.{Place}
use Rattle.sc_base.specs.declared.value.Value.{Value}
use Rattle.effect_order.specs.Effect.{Effect, same_place}
use Rattle.effect_order.specs.Transfer.{part_value}
use Rattle.journal_effects.specs.declared.effect.CellEffect.{CellEffect}

abbrev pub effect_of : CellEffect → Effect
effect_of e = record {
  node = e.node;
  number = e.number;
  cell = e.cell;
  wrote = e.wrote;
  place = e.place;
  value = e.value;
}

abbrev pub newest_first : List CellEffect → List Effect
newest_first effects = reverse (map effect_of effects)

-- ---- the values of parts, by node, number, cell and whether they write

abbrev pub PartKey : Type 0
PartKey = ℕ × ℕ × ℕ × Bool

abbrev pub same_part : PartKey → PartKey → Bool
same_part a b = (a.0 == b.0) && (a.1 == b.1) && (a.2 == b.2) && beq a.3 b.3

abbrev pub ArePartsOf : {S : Type 0} → HashMap PartKey Value S → List Effect → Type 0
ArePartsOf parts earlier =
    (node number cell : ℕ) (wrote : Bool) →
    get same_part parts (node, number, cell, wrote) ≡ part_value node number cell wrote earlier

-- ---- what was last written to each cell, by object, node and offset

abbrev pub CellKey : Type 0
CellKey = ℕ × ℕ × ℕ

abbrev pub same_cell : CellKey → CellKey → Bool
same_cell a b = (a.0 == b.0) && (a.1 == b.1) && (a.2 == b.2)

-- the value last written to the place, if any was
abbrev pub last_written : Place → List Effect → Option Value
last_written place [] = None
last_written place (effect ∷ earlier) =
    if effect.wrote && same_place effect.place place then Some effect.value else last_written place earlier

abbrev pub IsWrittenBy : {S : Type 0} → HashMap CellKey Value S → List Effect → Type 0
IsWrittenBy written earlier =
    (place : Place) → get same_cell written (place.object, place.node, place.offset) ≡ last_written place earlier
