use Rattle.sc_typing.proofs.WellTyped.{unbroken-typed, typed-unbroken, operand-typed}
use Rattle.sc_typing.proofs.laws.typed_where_unbroken.Goals as goal

pub returns : goal.returns
returns c = record { typed = unbroken-typed; unbroken = typed-unbroken; operands = operand-typed }
