-- What the marks stand for in expressions.
use Rattle.std.specs.Prelude.{ℕ, Option, Some, None, true, false}
use Rattle.sc_base.specs.declared.operator.Binary.{Binary}
use Rattle.sc_base.specs.declared.operator.Binary.TheVariants as binary
use Rattle.sc_base.specs.declared.operator.Unary.TheVariants as unary
use Rattle.sc_tree.specs.declared.token.Mark.{Mark}
use Rattle.sc_tree.specs.declared.token.Mark.TheVariants as mark
use Rattle.sc_tree.specs.Plain.{Expression, Kind, step, plus, prefix, deref, address}
use Rattle.sc_grammar.specs.declared.operators.Operator.{Operator}
use Rattle.sc_grammar.specs.declared.operators.Assigning.{Assigning}
use Rattle.sc_grammar.specs.declared.operators.Prefix.{Prefix}
use Rattle.sc_grammar.specs.declared.operators.Prefix.TheVariants as opening

abbrev at_level : ℕ → Binary → Option Operator
at_level level op = Some (record { level = level; op = Some op })

abbrev logical : ℕ → Option Operator
logical level = Some (record { level = level; op = None })

-- the ten levels of operators that join operands, tightest first
abbrev pub operator_of : Mark → Option Operator
operator_of mark.Star = at_level 0 binary.Mul
operator_of mark.Slash = at_level 0 binary.Div
operator_of mark.Percent = at_level 0 binary.Rem
operator_of mark.Plus = at_level 1 binary.Add
operator_of mark.Minus = at_level 1 binary.Sub
operator_of mark.ShiftLeft = at_level 2 binary.Shl
operator_of mark.ShiftRight = at_level 2 binary.Shr
operator_of mark.Less = at_level 3 binary.Lt
operator_of mark.LessEqual = at_level 3 binary.Le
operator_of mark.Greater = at_level 3 binary.Gt
operator_of mark.GreaterEqual = at_level 3 binary.Ge
operator_of mark.EqualEqual = at_level 4 binary.Eq
operator_of mark.NotEqual = at_level 4 binary.Ne
operator_of mark.And = at_level 5 binary.And
operator_of mark.Caret = at_level 6 binary.Xor
operator_of mark.Or = at_level 7 binary.Or
operator_of mark.AndAnd = logical 8
operator_of mark.OrOr = logical 9
operator_of _ = None

abbrev compound : Binary → Option Assigning
compound op = Some (record { op = Some op })

-- the operators that assign
abbrev pub assigning_of : Mark → Option Assigning
assigning_of mark.Equal = Some (record { op = None })
assigning_of mark.PlusEqual = compound binary.Add
assigning_of mark.MinusEqual = compound binary.Sub
assigning_of mark.StarEqual = compound binary.Mul
assigning_of mark.SlashEqual = compound binary.Div
assigning_of mark.PercentEqual = compound binary.Rem
assigning_of mark.AndEqual = compound binary.And
assigning_of mark.OrEqual = compound binary.Or
assigning_of mark.CaretEqual = compound binary.Xor
assigning_of mark.ShiftLeftEqual = compound binary.Shl
assigning_of mark.ShiftRightEqual = compound binary.Shr
assigning_of _ = None

-- the operators before an operand
abbrev pub prefix_of : Mark → Option Prefix
prefix_of mark.Minus = Some opening.Minus
prefix_of mark.Plus = Some opening.Plus
prefix_of mark.Not = Some opening.Not
prefix_of mark.Tilde = Some opening.Invert
prefix_of mark.Star = Some opening.Deref
prefix_of mark.And = Some opening.Address
prefix_of mark.PlusPlus = Some opening.Up
prefix_of mark.MinusMinus = Some opening.Down
prefix_of _ = None

-- what they make of it
abbrev pub prefixed : Prefix → Expression → Kind
prefixed opening.Minus e = prefix unary.Minus e
prefixed opening.Plus e = plus e
prefixed opening.Not e = prefix unary.Not e
prefixed opening.Invert e = prefix unary.Invert e
prefixed opening.Deref e = deref e
prefixed opening.Address e = address e
prefixed opening.Up e = step true e
prefixed opening.Down e = step false e
