-- Effects on cells: what a list of them leaves at a place, and when two of them conflict, after Shasha and Snir,
-- "Efficient and correct execution of parallel programs that share memory" (1988). Histories of a source,
-- journals of a run and the orders between them speak of these alone. A list of effects is the newest first.
use Rattle.std.specs.Prelude.{◌≡◌, ℕ, List, [], ◌∷◌, Bool, true, false, ◌==◌, ◌&&◌, ◌||◌, if◌then◌else◌}
use Rattle.std.specs.Ordering.{int_eq}
use Rattle.sc_base.specs.declared.value.Place.{Place}
use Rattle.sc_base.specs.declared.value.Value.{Value}
use Rattle.sc_base.specs.declared.value.Value.TheVariants.{Int, Null, Ptr}

-- One cell is read or written at one moment, by a part of an access.
pub record Effect : Type 0 where
  pub node : ℕ  -- the node that issued the access
  pub number : ℕ  -- which of the node's accesses it is
  pub cell : ℕ  -- which of the access's cells the part is for, from 0
  pub wrote : Bool  -- the part writes; else it reads
  pub place : Place  -- the cell that is read or written
  pub value : Value  -- the value that was read or is written

-- the two are one cell
abbrev pub same_place : Place → Place → Bool
same_place a b = (a.object == b.object) && (a.node == b.node) && (a.offset == b.offset)

-- the two are one value
abbrev pub same_value : Value → Value → Bool
same_value (Int a) (Int b) = int_eq a b
same_value Null Null = true
same_value (Ptr object node offset) (Ptr object_b node_b offset_b) =
    (object == object_b) && (node == node_b) && (offset == offset_b)
same_value _ _ = false

-- what the place holds after the effects: the value last written to it, or what it held at the start
abbrev pub held : (Place → Value) → Place → List Effect → Value
held start place [] = start place
held start place (effect ∷ earlier) =
    if effect.wrote && same_place effect.place place then effect.value else held start place earlier

-- the two are of one place, and one of them writes
abbrev pub conflicts : Effect → Effect → Bool
conflicts a b = same_place a.place b.place && (a.wrote || b.wrote)

-- each effect that reads shows what its place held before it
abbrev pub IsShown : (Place → Value) → List Effect → Type 0
IsShown start [] = Unit {0}
IsShown start (effect ∷ earlier) =
    (effect.wrote ≡ false → effect.value ≡ held start effect.place earlier) × IsShown start earlier
