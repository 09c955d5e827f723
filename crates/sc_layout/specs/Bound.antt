-- The value of an array's bound: an expression in postfix order, after Łukasiewicz, over numbers and the number
-- of nodes, evaluated on a stack with the checked arithmetic of the language.
use Rattle.std.specs.Prelude.{ℕ, suc, ℤ, pos, Option, Some, None, List, [], ◌∷◌, ◌++◌}
use Rattle.std.specs.Option.{option_map, option_and_then}
use Rattle.std.specs.Result.{result_ok}
use Rattle.sc_base.specs.Arithmetic.{binary_of}
use Rattle.sc_base.specs.declared.operator.Binary.{Binary}
use Rattle.sc_base.specs.declared.shape.BoundStep.{BoundStep}
use Rattle.sc_base.specs.declared.shape.BoundStep.TheVariants.{Number, Procs, Op}

-- the steps are one whole expression
pub data IsWhole : List BoundStep → Type 0 where
  number : (n : ℤ) → IsWhole (Number n ∷ [])
  procs : IsWhole (Procs ∷ [])
  operation : (op : Binary) (left right : List BoundStep) → IsWhole left → IsWhole right →
      IsWhole (left ++ right ++ Op op ∷ [])

-- the stack after one step, its top first: None where the operator faults or lacks an operand
abbrev pub stack_after : ℕ → BoundStep → List ℤ → Option (List ℤ)
stack_after nodes (Number n) stack = Some (n ∷ stack)
stack_after nodes Procs stack = Some (pos nodes ∷ stack)
stack_after nodes (Op op) (b ∷ a ∷ stack) = option_map (λ v. v ∷ stack) (result_ok (binary_of op a b))
stack_after nodes (Op op) stack = None

abbrev pub stack_at_end : ℕ → List BoundStep → List ℤ → Option (List ℤ)
stack_at_end nodes [] stack = Some stack
stack_at_end nodes (step ∷ steps) stack = option_and_then (stack_at_end nodes steps) (stack_after nodes step stack)

abbrev pub only : List ℤ → Option ℤ
only (n ∷ []) = Some n
only stack = None

-- the checked value of the steps, None where one of them faults
unfoldable pub result_of : ℕ → List BoundStep → Option ℤ
result_of nodes steps = option_and_then only (stack_at_end nodes steps [])

abbrev pub positive : ℤ → Option ℕ
positive (pos (suc n)) = Some (suc n)
positive n = None

-- the bound's value: None where the checked value is not a positive number
unfoldable pub value_of : ℕ → List BoundStep → Option ℕ
value_of nodes steps = option_and_then positive (result_of nodes steps)
