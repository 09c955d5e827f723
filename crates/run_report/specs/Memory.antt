-- The memory that a run leaves, as a report shows it.
use Rattle.std.specs.Prelude.{pos, Option, Some, None}
use Rattle.sc_base.specs.declared.value.Place.{Place}
use Rattle.sc_base.specs.declared.value.Value.{Value}
use Rattle.sc_base.specs.declared.value.Value.TheVariants.{Int}
use Rattle.node_memory.specs.Memory.{Memory, cell}

-- the value, and 0 where there is none
abbrev pub value_or_zero : Option Value → Value
value_or_zero None = Int (pos 0)
value_or_zero (Some value) = value

-- what each place holds, and 0 at one that is no cell
abbrev pub held_in : Memory → Place → Value
held_in memory place = value_or_zero (cell memory place)
