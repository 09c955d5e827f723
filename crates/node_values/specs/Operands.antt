-- Operands that are values.
use Rattle.std.specs.Prelude.{ℤ, pos, Bool, true, false}
use Rattle.sc_base.specs.declared.value.Value.{Value}
use Rattle.sc_base.specs.declared.value.Value.TheVariants.{Int}
use Rattle.sc_isa.specs.declared.operand.Operand.{Operand}
use Rattle.sc_isa.specs.declared.operand.Operand.TheVariants.{Here, Landing}
use Rattle.sc_isa.specs.declared.operand.Slot.{Slot}
use Rattle.sc_isa.specs.declared.operand.Slot.TheVariants.{Holds, Pending}

abbrev pub is_here : Operand → Bool
is_here (Here value) = true
is_here (Landing counter number) = false

abbrev pub is_int : Operand → Bool
is_int (Here (Int n)) = true
is_int _ = false

-- its value, if it has one
abbrev pub value_in : Operand → Value
value_in (Here value) = value
value_in (Landing counter number) = Int (pos 0)

-- its number, if it is one
abbrev pub int_in : Operand → ℤ
int_in (Here (Int n)) = n
int_in _ = pos 0

abbrev pub is_pending : Slot → Bool
is_pending (Holds operand) = false
is_pending (Pending number) = true
