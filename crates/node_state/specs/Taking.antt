-- Values that were taken from a stack.
use Rattle.std.specs.Prelude.{Option, Some, None, List, [], ◌∷◌}
use Rattle.std.specs.Option.{option_map}
use Rattle.sc_base.specs.declared.value.Value.{Value}
use Rattle.sc_isa.specs.declared.operand.Operand.{Operand}
use Rattle.sc_isa.specs.declared.operand.Operand.TheVariants.{Here, Landing}
use Rattle.sc_isa.specs.Moves.{Taken}
use Rattle.node_state.specs.declared.taking.Two.{Two}
use Rattle.node_state.specs.declared.taking.Three.{Three}

abbrev pub one_taken : Option Value → List Operand → Option Taken
one_taken None rest = None
one_taken (Some value) rest = Some (record { values = value ∷ []; rest = rest })

abbrev pub two_taken : Option Two → List Operand → Option Taken
two_taken None rest = None
two_taken (Some two) rest = Some (record { values = two.a ∷ two.b ∷ []; rest = rest })

abbrev pub three_taken : Option Three → List Operand → Option Taken
three_taken None rest = None
three_taken (Some three) rest = Some (record { values = three.a ∷ three.b ∷ three.c ∷ []; rest = rest })

-- the values, where no operand is landing
abbrev pub and_value : Operand → Option (List Value) → Option (List Value)
and_value (Here value) values = option_map (λ vs. value ∷ vs) values
and_value (Landing counter number) values = None

abbrev pub values_of : List Operand → Option (List Value)
values_of [] = Some []
values_of (operand ∷ operands) = and_value operand (values_of operands)
