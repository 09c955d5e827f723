-- The parts of a transfer of cells: a reading part for each cell that it takes, and a writing part for each that it
-- fills, as the reads, writes, gets, puts, stores and bulk transfers of "Introduction to Split-C" (Culler and others,
-- 1995) move them. A part has its effect at one moment, and is named by node, number, cell, and whether it writes.
-- A list of effects is the newest first.
use Rattle.std.specs.Prelude.{ℕ, ◌+◌, List, [], ◌∷◌, Option, Some, None, IsSome, Bool, true, false, not, ◌==◌, ◌&&◌, nat_lt, if◌then◌else◌}
use Rattle.sc_base.specs.declared.value.Value.{Value}
use Rattle.sc_base.specs.declared.value.Place.{Place}
use Rattle.effect_order.specs.Effect.{Effect}

-- how many cells are moved, where the first is read, where the first is written, and what is written if it is not
-- what was read
pub record Transfer : Type 0 where
  pub cells : ℕ
  pub from : Option Place
  pub to : Option Place
  pub value : Option Value

abbrev pub taking : Place → Transfer
taking place = record { cells = 1; from = Some place; to = None; value = None }

abbrev pub filling : Place → Value → Transfer
filling place value = record { cells = 1; from = None; to = Some place; value = Some value }

abbrev pub moving : Place → Place → ℕ → Transfer
moving from to cells = record { cells = cells; from = Some from; to = Some to; value = None }

-- what moves no cell
abbrev pub no_transfer : Transfer
no_transfer = record { cells = 0; from = None; to = None; value = None }

-- the cell so many cells further on
abbrev pub further : ℕ → Place → Place
further cells place = record place { offset = place.offset + cells }

abbrev pub cell_past : ℕ → Option Place → Option Place
cell_past cell None = None
cell_past cell (Some place) = Some (further cell place)

abbrev pub side : Transfer → (wrote : Bool) → Option Place
side transfer true = transfer.to
side transfer false = transfer.from

-- the place of the part, if the transfer has it
abbrev pub part_place : Transfer → (cell : ℕ) → (wrote : Bool) → Option Place
part_place transfer cell wrote = if nat_lt cell transfer.cells then cell_past cell (side transfer wrote) else None

abbrev pub same_flag : Bool → Bool → Bool
same_flag true b = b
same_flag false b = not b

-- the effect is that of this part
abbrev pub is_part : (node number cell : ℕ) → (wrote : Bool) → Effect → Bool
is_part node number cell wrote effect =
    (effect.node == node) && (effect.number == number) && (effect.cell == cell) && same_flag effect.wrote wrote

-- the value of the part, if it has occurred
abbrev pub part_value : (node number cell : ℕ) → (wrote : Bool) → List Effect → Option Value
part_value node number cell wrote [] = None
part_value node number cell wrote (effect ∷ earlier) =
    if is_part node number cell wrote effect then Some effect.value else part_value node number cell wrote earlier

abbrev pub or_read : Option Value → (node number cell : ℕ) → List Effect → Option Value
or_read (Some value) node number cell earlier = Some value
or_read None node number cell earlier = part_value node number cell false earlier

-- what a writing part writes, if that is known: the transfer's value, or what its cell was read as
abbrev pub written : Transfer → (node number cell : ℕ) → List Effect → Option Value
written transfer node number cell earlier = or_read transfer.value node number cell earlier

-- every part of the transfer has occurred
abbrev pub AllOccurred : Transfer → (node number : ℕ) → List Effect → Type 0
AllOccurred transfer node number earlier =
    (cell : ℕ) (wrote : Bool) → IsSome (part_place transfer cell wrote) →
    IsSome (part_value node number cell wrote earlier)
