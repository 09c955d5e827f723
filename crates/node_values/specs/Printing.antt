-- How a format is printed by its operands.
use Rattle.std.specs.Prelude.{◌≡◌, ℕ, ◌==◌, ◌&&◌, if◌then◌else◌, Bool, List, ◌∷◌, take, length, drop, map}
use Rattle.sc_isa.specs.declared.operand.Operand.{Operand}
use Rattle.sc_isa.specs.Printing.{formatted}
use Rattle.node_values.specs.declared.printing.Piece.{Piece}
use Rattle.node_values.specs.declared.printing.Piece.TheVariants.{Percent, Number, Byte}
use Rattle.node_values.specs.Operands.{int_in}

-- what stands next in the format, where there is a value or there is none
abbrev pub piece_of : List ℕ → (more : Bool) → Piece
piece_of (byte ∷ next ∷ rest) more =
    if (byte == 37) && (next == 37) then Percent
    else if more && ((byte == 37) && (next == 100)) then Number
    else Byte
piece_of _ more = Byte

-- what is printed from a place in the format on, by the operands from a number on
abbrev pub left_to_print : List ℕ → List Operand → (at used : ℕ) → List ℕ
left_to_print format operands at used = formatted (drop at format) (map int_in (drop used operands))

-- the text goes on from the other
abbrev pub GoesOn : List ℕ → List ℕ → Type 0
GoesOn text more = take (length text) more ≡ text
